use Rattle.std.proofs.Common.{◌∙◌, ◌/◌, ap, sym}
use Rattle.aq_series.specs.OfficeView.{office_of}
use Rattle.aq_particle_cells.specs.Pm10.Pm10Levels.{HasStratumOf}
use Rattle.aq_particle_cells.proofs.DaysLemmas.ObservedLemmas.{last-shown}
use Rattle.aq_particle_cells.proofs.Pm10Lemmas.Pm10Filling.{lies-stratum, strata-filling, strata-here, strata-itself, strata-stay}
use Rattle.aq_particle_cells.proofs.pm10.filling.fill_stratum.Goals as goal

pub returns-then-ne-clause-stay : goal.returns-then-ne-clause-stay
returns-then-ne-clause-stay g c rows so_far = strata-itself (office_of c.args.registry.now rows) c.args.cells.now

pub returns-then-is_last-clause-stay : goal.returns-then-is_last-clause-stay
returns-then-is_last-clause-stay g c rows so_far = strata-itself (office_of c.args.registry.now rows) c.args.cells.now

pub returns-then-is_last-clause-filled : goal.returns-then-is_last-clause-filled
returns-then-is_last-clause-filled g c rows site day first so_far =
    let office = office_of c.args.registry.now rows in
    lies-stratum office c.args.cells.now c.args.key.now c.new-day.result c.stratum_first-first.result (sym (ap (λ n. n / 24) c.number.ensures.value) ∙ sym c.new-day.ensures) c.stratum_first-first.ensures
    (last-shown (HasStratumOf office c.args.cells.now) c.args.last.now c.args.key.now.monitor.site c.stratum_first-first.result so_far.last_one (sym c.is_last.ensures ∙ c.if-is_last.true))
    site day first

pub returns-clause-each : goal.returns-clause-each
returns-clause-each g c rows so_far =
    let office = office_of c.args.registry.now rows in
    record {
      filling =
          strata-filling office c.args.cells.now c.settle_stratum.new.self c.args.key.now.monitor.site c.stratum_first-first.result
          c.in_ok-settle_stratum.ensures.strata c.in_ok-settle_stratum.ensures.cells c.in_ok-settle_stratum.ensures.samples so_far.filling;
      last_one =
          strata-here office c.args.cells.now c.settle_stratum.new.self c.args.key.now.monitor.site c.stratum_first-first.result
          c.in_ok-settle_stratum.ensures.strata c.in_ok-settle_stratum.ensures.cells c.in_ok-settle_stratum.ensures.samples so_far.filling;
    }

pub returns-clause-stay : goal.returns-clause-stay
returns-clause-stay g c rows so_far =
    strata-stay (office_of c.args.registry.now rows) c.args.cells.now c.settle_stratum.new.self c.args.key.now.monitor.site c.stratum_first-first.result
    c.in_ok-settle_stratum.ensures.strata c.in_ok-settle_stratum.ensures.cells c.in_ok-settle_stratum.ensures.samples so_far.filling

pub returns-clause-filled : goal.returns-clause-filled
returns-clause-filled g c rows site day first so_far =
    let office = office_of c.args.registry.now rows in
    lies-stratum office c.settle_stratum.new.self c.args.key.now c.new-day.result c.stratum_first-first.result (sym (ap (λ n. n / 24) c.number.ensures.value) ∙ sym c.new-day.ensures) c.stratum_first-first.ensures
    (strata-here office c.args.cells.now c.settle_stratum.new.self c.args.key.now.monitor.site c.stratum_first-first.result
    c.in_ok-settle_stratum.ensures.strata c.in_ok-settle_stratum.ensures.cells c.in_ok-settle_stratum.ensures.samples so_far.filling)
    site day first
