use Rattle.std.proofs.Common.{◌∙◌, ap, inl}
use Rattle.std.specs.List.{list_any}
use Rattle.aq_particle_cells.proofs.DaysLemmas.Walks.{walk-done, walk-more}
use Rattle.aq_base.specs.declared.monitor.Pollutant.TheVariants.{Pm25}
use Rattle.aq_series.specs.OfficeView.{office_of}
use Rattle.aq_particle_cells.specs.Days.Observed.{observes}
use Rattle.aq_particle_cells.proofs.Pm25Lemmas.Pm25Filling.{all-filled, none-filling, stay-at}
use Rattle.aq_particle_cells.proofs.pm25.filling.filled.Goals as goal

pub loop-key-init : goal.loop-key-init
loop-key-init g c = record {
  each = none-filling (office_of c.args.registry.now c.args.shelf.now) c.new-cells.result c.new-cells.ensures.cells c.new-cells.ensures.samples;
  last = tt;
  filled = λ site day any. inl (ap (list_any (observes Pm25 site day)) (c.into_iter-key-iterator.ensures.into_iter_gives ∙ c.rows-key-items.ensures.rows) ∙ any);
}

pub loop-key-preserved : goal.loop-key-preserved
loop-key-preserved g c = record {
  each = c.in_ok-fill_observation.ensures.each;
  last = c.in_ok-fill_observation.ensures.last;
  filled = λ site day any.
      walk-more (observes Pm25 site day) c.loop-key.key-iterator c.next.new.self (c.in-Some.key, c.in-Some.field-0-1) c.in-Some.ensures.steps (c.loop-key.invariant.filled site day any)
      (c.in_ok-fill_observation.ensures.filled site day)
      (stay-at (office_of c.args.registry.now c.args.shelf.now) c.loop-key.cells c.fill_observation.new.cells c.in_ok-fill_observation.ensures.stay site day);
}

pub returns : goal.returns
returns g c =
    all-filled (office_of c.args.registry.now c.args.shelf.now) c.loop-key.cells c.loop-key.invariant.each
    (λ site day any. walk-done (observes Pm25 site day) c.loop-key.key-iterator c.in-None.ensures.steps.0 (c.loop-key.invariant.filled site day any))
