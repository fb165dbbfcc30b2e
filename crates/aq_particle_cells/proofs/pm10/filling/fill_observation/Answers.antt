use Rattle.std.proofs.Common.{◌∙◌, ◌/◌, ap, sym}
use Rattle.aq_base.specs.declared.monitor.Pollutant.TheVariants.{Pm10}
use Rattle.aq_series.specs.OfficeView.{office_of}
use Rattle.aq_particle_cells.specs.Pm10.Pm10Levels.{HasValueOf}
use Rattle.aq_particle_cells.proofs.DaysLemmas.ObservedLemmas.{last-shown, lies-shown}
use Rattle.aq_particle_cells.proofs.Pm10Lemmas.Pm10Filling.{stay-itself}
use Rattle.aq_particle_cells.proofs.pm10.filling.fill_observation.Goals as goal

pub returns-then-ne-clause-stay : goal.returns-then-ne-clause-stay
returns-then-ne-clause-stay g c = stay-itself (office_of c.args.registry.now c.args.shelf.now) c.args.cells.now

pub returns-then-is_last-clause-stay : goal.returns-then-is_last-clause-stay
returns-then-is_last-clause-stay g c = stay-itself (office_of c.args.registry.now c.args.shelf.now) c.args.cells.now

pub returns-then-is_last-clause-filled : goal.returns-then-is_last-clause-filled
returns-then-is_last-clause-filled g c =
    let office = office_of c.args.registry.now c.args.shelf.now in
    lies-shown (HasValueOf office c.args.cells.now) Pm10 c.args.key.now c.new-day.result (sym (ap (λ n. n / 24) c.number.ensures.value) ∙ sym c.new-day.ensures)
    (last-shown (HasValueOf office c.args.cells.now) c.args.last.now c.args.key.now.monitor.site c.new-day.result c.requires.last (sym c.is_last.ensures ∙ c.if-is_last.true))

pub returns-clause-filled : goal.returns-clause-filled
returns-clause-filled g c =
    let office = office_of c.args.registry.now c.args.shelf.now in
    lies-shown (HasValueOf office c.fill_day.new.cells) Pm10 c.args.key.now c.new-day.result (sym (ap (λ n. n / 24) c.number.ensures.value) ∙ sym c.new-day.ensures) c.in_ok-fill_day.ensures.filled
