use Rattle.std.proofs.Common.{◌∙◌, ap, sym, arith}
use Rattle.aq_registry.specs.Registry.{office_with}
use Rattle.aq_particle_cells.specs.Days.KeptDays.{Days}
use Rattle.aq_particle_cells.specs.Pm25.Pm25Cells.{quarter_of_days, year_of_days}
use Rattle.aq_rules.specs.Kept.Summaries.{summary_of_quarter}
use Rattle.aq_particle_cells.proofs.Pm25Lemmas.Pm25Year.{part-counted, year-is, year-keeps, year_values}
use Rattle.aq_particle_cells.proofs.pm25.cells.Pm25Cells.year.Goals as goal

pub quarter-first-requires : goal.quarter-first-requires
quarter-first-requires c = part-counted c.args.registry.now c.args.self.now c.args.site c.args.year c.requires.first c.part_of.result 0 (omega arith) c.part_of.ensures c.requires.counted

pub quarter-second-requires : goal.quarter-second-requires
quarter-second-requires c = part-counted c.args.registry.now c.args.self.now c.args.site c.args.year c.requires.first c.part_of-2.result 1 (omega arith) c.part_of-2.ensures c.requires.counted

pub quarter-third-requires : goal.quarter-third-requires
quarter-third-requires c = part-counted c.args.registry.now c.args.self.now c.args.site c.args.year c.requires.first c.part_of-3.result 2 (omega arith) c.part_of-3.ensures c.requires.counted

pub quarter-fourth-requires : goal.quarter-fourth-requires
quarter-fourth-requires c = part-counted c.args.registry.now c.args.self.now c.args.site c.args.year c.requires.first c.part_of-4.result 3 (omega arith) c.part_of-4.ensures c.requires.counted

pub new-requires : goal.new-requires
new-requires c =
    let days = c.self.inside.days.days.entries in
    let records = c.args.registry.now in
    let site = c.args.site in
    let year = c.args.year in
    let at = sym c.self.view_is in
    year-keeps records days site year c.requires.first c.part_of.result c.part_of-2.result c.part_of-3.result c.part_of-4.result
    c.quarter-first.result c.quarter-second.result c.quarter-third.result c.quarter-fourth.result c.greatest-top.result
    c.part_of.ensures c.part_of-2.ensures c.part_of-3.ensures c.part_of-4.ensures
    (c.quarter-first.ensures.quarter ∙ ap (λ (d : Days). summary_of_quarter (quarter_of_days records d site c.part_of.result)) at)
    (c.quarter-second.ensures.quarter ∙ ap (λ (d : Days). summary_of_quarter (quarter_of_days records d site c.part_of-2.result)) at)
    (c.quarter-third.ensures.quarter ∙ ap (λ (d : Days). summary_of_quarter (quarter_of_days records d site c.part_of-3.result)) at)
    (c.quarter-fourth.ensures.quarter ∙ ap (λ (d : Days). summary_of_quarter (quarter_of_days records d site c.part_of-4.result)) at)
    (c.greatest-top.ensures (year_values records days site year c.requires.first) (c.self.invariant.tallied.greatest site year (c.requires.first, c.requires.last)))
    c.self.invariant.particles c.quarter-first.ensures.facts c.quarter-second.ensures.facts c.quarter-third.ensures.facts c.quarter-fourth.ensures.facts
    (c.pm25_quarters_keep_their_facts.ensures.year (office_with records) site year c.next_poc.ensures.valid)

pub returns : goal.returns
returns c =
    let days = c.self.inside.days.days.entries in
    let records = c.args.registry.now in
    let site = c.args.site in
    let year = c.args.year in
    let at = sym c.self.view_is in
    c.new.ensures
    ∙ year-is records days site year c.requires.first c.part_of.result c.part_of-2.result c.part_of-3.result c.part_of-4.result
    c.quarter-first.result c.quarter-second.result c.quarter-third.result c.quarter-fourth.result c.greatest-top.result
    c.part_of.ensures c.part_of-2.ensures c.part_of-3.ensures c.part_of-4.ensures
    (c.quarter-first.ensures.quarter ∙ ap (λ (d : Days). summary_of_quarter (quarter_of_days records d site c.part_of.result)) at)
    (c.quarter-second.ensures.quarter ∙ ap (λ (d : Days). summary_of_quarter (quarter_of_days records d site c.part_of-2.result)) at)
    (c.quarter-third.ensures.quarter ∙ ap (λ (d : Days). summary_of_quarter (quarter_of_days records d site c.part_of-3.result)) at)
    (c.quarter-fourth.ensures.quarter ∙ ap (λ (d : Days). summary_of_quarter (quarter_of_days records d site c.part_of-4.result)) at)
    (c.greatest-top.ensures (year_values records days site year c.requires.first) (c.self.invariant.tallied.greatest site year (c.requires.first, c.requires.last)))
    ∙ ap (λ (d : Days). year_of_days records d site year) c.self.view_is
