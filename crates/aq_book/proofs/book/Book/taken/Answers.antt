use Rattle.std.proofs.Common.{◌∙◌, Option, List, unwrap_or, ap, sym, subst}
use Rattle.aq_base.specs.declared.office.OfficeRecord.{OfficeRecord}
use Rattle.aq_rules.specs.Office.Office.{Office}
use Rattle.aq_series.specs.OfficeView.{office_of}
use Rattle.aq_ozone_cells.specs.FilledDays as ozone_cells
use Rattle.aq_particle_cells.specs.Pm10.Pm10Levels as pm10_cells
use Rattle.aq_particle_cells.specs.Pm25.Pm25Levels as pm25_cells
use Rattle.aq_staging.specs.Staged.{IsStagedOn}
use Rattle.aq_cells.proofs.ReachedLemmas.{changes-are, none-amiss, pm10-else, pm25-else, reached-by}
use Rattle.aq_book.proofs.OfficeLoads.{loadless}
use Rattle.aq_book.proofs.StageLemmas.{changed-of, room-after, taken-office, valid-after}
use Rattle.aq_book.proofs.TakenCosts.{taken-costs}
use Rattle.aq_book.proofs.book.Book.taken.Goals as goal

pub onto-requires : goal.onto-requires
onto-requires g c =
    room-after c.args.staged c.args.self c.self.inside.registry c.self.inside.shelf c.self.inside.loads c.self.view_is c.requires

pub bring_up-requires-clause-drops : goal.bring_up-requires-clause-drops
bring_up-requires-clause-drops g c =
    let records_are = c.registry_after-after.ensures ∙ ap (λ (o : Option (List OfficeRecord)). unwrap_or o c.self.inside.registry) c.in_ok-taken.ensures.records in
    none-amiss (office_of c.self.inside.registry c.self.inside.shelf) (office_of c.registry_after-after.result.now c.in_ok-taken.taken.shelf) c.in_ok-taken.taken.changes
    (changes-are c.self.inside.registry c.registry_after-after.result.now c.self.inside.shelf c.in_ok-taken.taken.shelf c.args.staged c.in_ok-taken.taken.changes
    records_are c.in_ok-taken.ensures.observations (changed-of c.args.staged c.args.self c.self.inside.registry c.self.inside.shelf c.self.inside.loads c.self.view_is c.requires c.in_ok-taken.taken.changes c.in_ok-taken.ensures.changes))

pub bring_up-requires-clause-ozone : goal.bring_up-requires-clause-ozone
bring_up-requires-clause-ozone g c cell out =
    let records_are = c.registry_after-after.ensures ∙ ap (λ (o : Option (List OfficeRecord)). unwrap_or o c.self.inside.registry) c.in_ok-taken.ensures.records in
    let before = office_of c.self.inside.registry c.self.inside.shelf in
    let after = office_of c.registry_after-after.result.now c.in_ok-taken.taken.shelf in
    let valid =
    valid-after c.args.staged c.args.self c.self.inside.registry c.self.inside.shelf c.self.inside.loads c.self.view_is
    c.registry_after-after.result.now records_are c.in_ok-taken.taken.shelf c.in_ok-taken.ensures.observations c.in_ok-taken.taken.identity c.in_ok-taken.ensures.identity
    c.in_ok-taken.taken.reply c.in_ok-taken.ensures.reply c.in_ok-loads.loads c.in_ok-loads.ensures c.requires
    in
    let are =
    changes-are c.self.inside.registry c.registry_after-after.result.now c.self.inside.shelf c.in_ok-taken.taken.shelf c.args.staged c.in_ok-taken.taken.changes
    records_are c.in_ok-taken.ensures.observations (changed-of c.args.staged c.args.self c.self.inside.registry c.self.inside.shelf c.self.inside.loads c.self.view_is c.requires c.in_ok-taken.taken.changes c.in_ok-taken.ensures.changes)
    in
    c.cells_out_of_reach_are_those_of_the_office_after_it.ensures before after c.self.inside.cells.ozone cell
    (loadless c.self.inside.registry c.self.inside.shelf c.self.inside.loads c.self.invariant.office)
    (loadless c.registry_after-after.result.now c.in_ok-taken.taken.shelf c.in_ok-loads.loads valid)
    c.self.invariant.ozone_kept
    (λ kind.
    reached-by c.self.inside.registry c.registry_after-after.result.now c.self.inside.shelf c.in_ok-taken.taken.shelf c.in_ok-taken.taken.changes are cell
    (c.what_reads_a_changed_row_is_in_reach.ensures before after cell) ∙ out kind c.self.inside.shelf)

pub bring_up-requires-clause-pm25 : goal.bring_up-requires-clause-pm25
bring_up-requires-clause-pm25 g c cell out =
    let records_are = c.registry_after-after.ensures ∙ ap (λ (o : Option (List OfficeRecord)). unwrap_or o c.self.inside.registry) c.in_ok-taken.ensures.records in
    let before = office_of c.self.inside.registry c.self.inside.shelf in
    let after = office_of c.registry_after-after.result.now c.in_ok-taken.taken.shelf in
    let valid =
    valid-after c.args.staged c.args.self c.self.inside.registry c.self.inside.shelf c.self.inside.loads c.self.view_is
    c.registry_after-after.result.now records_are c.in_ok-taken.taken.shelf c.in_ok-taken.ensures.observations c.in_ok-taken.taken.identity c.in_ok-taken.ensures.identity
    c.in_ok-taken.taken.reply c.in_ok-taken.ensures.reply c.in_ok-loads.loads c.in_ok-loads.ensures c.requires
    in
    let are =
    changes-are c.self.inside.registry c.registry_after-after.result.now c.self.inside.shelf c.in_ok-taken.taken.shelf c.args.staged c.in_ok-taken.taken.changes
    records_are c.in_ok-taken.ensures.observations (changed-of c.args.staged c.args.self c.self.inside.registry c.self.inside.shelf c.self.inside.loads c.self.view_is c.requires c.in_ok-taken.taken.changes c.in_ok-taken.ensures.changes)
    in
    pm25-else after c.self.inside.cells.pm25 cell
    (λ kind.
    c.cells_out_of_reach_are_those_of_the_office_after_it-2.ensures before after c.self.inside.cells.pm25 cell
    (loadless c.self.inside.registry c.self.inside.shelf c.self.inside.loads c.self.invariant.office)
    (loadless c.registry_after-after.result.now c.in_ok-taken.taken.shelf c.in_ok-loads.loads valid)
    c.self.invariant.pm25_kept
    (reached-by c.self.inside.registry c.registry_after-after.result.now c.self.inside.shelf c.in_ok-taken.taken.shelf c.in_ok-taken.taken.changes are cell
    (c.what_reads_a_changed_row_is_in_reach.ensures before after cell) ∙ out kind c.self.inside.shelf))

pub bring_up-requires-clause-pm10 : goal.bring_up-requires-clause-pm10
bring_up-requires-clause-pm10 g c cell out =
    let records_are = c.registry_after-after.ensures ∙ ap (λ (o : Option (List OfficeRecord)). unwrap_or o c.self.inside.registry) c.in_ok-taken.ensures.records in
    let before = office_of c.self.inside.registry c.self.inside.shelf in
    let after = office_of c.registry_after-after.result.now c.in_ok-taken.taken.shelf in
    let valid =
    valid-after c.args.staged c.args.self c.self.inside.registry c.self.inside.shelf c.self.inside.loads c.self.view_is
    c.registry_after-after.result.now records_are c.in_ok-taken.taken.shelf c.in_ok-taken.ensures.observations c.in_ok-taken.taken.identity c.in_ok-taken.ensures.identity
    c.in_ok-taken.taken.reply c.in_ok-taken.ensures.reply c.in_ok-loads.loads c.in_ok-loads.ensures c.requires
    in
    let are =
    changes-are c.self.inside.registry c.registry_after-after.result.now c.self.inside.shelf c.in_ok-taken.taken.shelf c.args.staged c.in_ok-taken.taken.changes
    records_are c.in_ok-taken.ensures.observations (changed-of c.args.staged c.args.self c.self.inside.registry c.self.inside.shelf c.self.inside.loads c.self.view_is c.requires c.in_ok-taken.taken.changes c.in_ok-taken.ensures.changes)
    in
    pm10-else after c.self.inside.cells.pm10 cell
    (λ kind.
    c.cells_out_of_reach_are_those_of_the_office_after_it-3.ensures before after c.self.inside.cells.pm10 cell
    (loadless c.self.inside.registry c.self.inside.shelf c.self.inside.loads c.self.invariant.office)
    (loadless c.registry_after-after.result.now c.in_ok-taken.taken.shelf c.in_ok-loads.loads valid)
    c.self.invariant.pm10_kept
    (reached-by c.self.inside.registry c.registry_after-after.result.now c.self.inside.shelf c.in_ok-taken.taken.shelf c.in_ok-taken.taken.changes are cell
    (c.what_reads_a_changed_row_is_in_reach.ensures before after cell) ∙ out kind c.self.inside.shelf))

pub invariant_of-result : goal.invariant_of-result
invariant_of-result g c =
    let records_are = c.unwrap_or.ensures ∙ ap (λ (o : Option (List OfficeRecord)). unwrap_or o c.self.inside.registry) c.in_ok-taken.ensures.records in
    record {
      office =
          valid-after c.args.staged c.args.self c.self.inside.registry c.self.inside.shelf c.self.inside.loads c.self.view_is
          c.unwrap_or.result records_are c.in_ok-taken.taken.shelf c.in_ok-taken.ensures.observations c.in_ok-taken.taken.identity c.in_ok-taken.ensures.identity
          c.in_ok-taken.taken.reply c.in_ok-taken.ensures.reply c.in_ok-loads.loads c.in_ok-loads.ensures c.requires;
      ozone_kept =
          subst (λ (records : List OfficeRecord). ozone_cells.AreKept (office_of records c.in_ok-taken.taken.shelf) c.bring_up.new.cells.ozone) (c.registry_after-after.ensures ∙ sym c.unwrap_or.ensures)
          c.in_ok-bring_up.ensures.ozone;
      pm25_kept =
          subst (λ (records : List OfficeRecord). pm25_cells.AreKept (office_of records c.in_ok-taken.taken.shelf) c.bring_up.new.cells.pm25) (c.registry_after-after.ensures ∙ sym c.unwrap_or.ensures)
          c.in_ok-bring_up.ensures.pm25;
      pm10_kept =
          subst (λ (records : List OfficeRecord). pm10_cells.AreKept (office_of records c.in_ok-taken.taken.shelf) c.bring_up.new.cells.pm10) (c.registry_after-after.ensures ∙ sym c.unwrap_or.ensures)
          c.in_ok-bring_up.ensures.pm10;
    }

pub returns-clause-book : goal.returns-clause-book
returns-clause-book g c =
    let records_are = c.unwrap_or.ensures ∙ ap (λ (o : Option (List OfficeRecord)). unwrap_or o c.self.inside.registry) c.in_ok-taken.ensures.records in
    taken-office c.args.staged c.args.self c.self.inside.registry c.self.inside.shelf c.self.inside.loads c.self.view_is
    c.unwrap_or.result records_are c.in_ok-taken.taken.shelf c.in_ok-taken.ensures.observations c.in_ok-taken.taken.identity c.in_ok-taken.ensures.identity
    c.in_ok-taken.taken.reply c.in_ok-taken.ensures.reply c.in_ok-loads.loads c.in_ok-loads.ensures

pub returns-clause-steps : goal.returns-clause-steps
returns-clause-steps g c =
    let records_are = c.registry_after-after.ensures ∙ ap (λ (o : Option (List OfficeRecord)). unwrap_or o c.self.inside.registry) c.in_ok-taken.ensures.records in
    taken-costs c.args.staged c.args.self c.self.inside.registry c.self.inside.shelf c.self.inside.loads c.self.view_is
    c.registry_after-after.result.now records_are c.in_ok-taken.taken.shelf c.in_ok-taken.ensures.observations c.in_ok-taken.taken.identity c.in_ok-taken.ensures.identity
    c.in_ok-taken.taken.reply c.in_ok-taken.ensures.reply c.in_ok-loads.loads c.in_ok-loads.ensures
    c.requires c.in_ok-taken.taken.changes (changed-of c.args.staged c.args.self c.self.inside.registry c.self.inside.shelf c.self.inside.loads c.self.view_is c.requires c.in_ok-taken.taken.changes c.in_ok-taken.ensures.changes) c.self.inside.cells c.self.invariant c.args.steps.now c.bring_up.new.steps c.bring_up.ensures.steps

pub returns-in_err-bring_up-clause-steps : goal.returns-in_err-bring_up-clause-steps
returns-in_err-bring_up-clause-steps g c =
    let records_are = c.registry_after-after.ensures ∙ ap (λ (o : Option (List OfficeRecord)). unwrap_or o c.self.inside.registry) c.in_ok-taken.ensures.records in
    taken-costs c.args.staged c.args.self c.self.inside.registry c.self.inside.shelf c.self.inside.loads c.self.view_is
    c.registry_after-after.result.now records_are c.in_ok-taken.taken.shelf c.in_ok-taken.ensures.observations c.in_ok-taken.taken.identity c.in_ok-taken.ensures.identity
    c.in_ok-taken.taken.reply c.in_ok-taken.ensures.reply c.in_ok-loads.loads c.in_ok-loads.ensures
    c.requires c.in_ok-taken.taken.changes (changed-of c.args.staged c.args.self c.self.inside.registry c.self.inside.shelf c.self.inside.loads c.self.view_is c.requires c.in_ok-taken.taken.changes c.in_ok-taken.ensures.changes) c.self.inside.cells c.self.invariant c.args.steps.now c.bring_up.new.steps c.bring_up.ensures.steps
