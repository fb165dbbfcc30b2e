use Rattle.std.proofs.Common.{◌∙◌, ap, inl, refl}
use Rattle.std.specs.List.{list_any}
use Rattle.aq_particle_cells.proofs.DaysLemmas.Walks.{walk-done, walk-more}
use Rattle.aq_base.specs.declared.monitor.Pollutant.TheVariants.{Pm10}
use Rattle.aq_series.specs.OfficeView.{office_of}
use Rattle.aq_particle_cells.specs.Days.Observed.{observes}
use Rattle.aq_particle_cells.proofs.Pm10Lemmas.Pm10Filling.{counts-filled, stay-at, values-filled}
use Rattle.aq_particle_cells.proofs.pm10.filling.fill_days.Goals as goal

pub loop-key-init : goal.loop-key-init
loop-key-init g c = record {
  each = c.requires;
  last = tt;
  filled = λ site day any. inl (ap (list_any (observes Pm10 site day)) (c.into_iter-key-iterator.ensures.into_iter_gives ∙ c.rows-key-items.ensures.rows) ∙ any);
  strata = λ site first. refl;
}

pub loop-key-preserved : goal.loop-key-preserved
loop-key-preserved g c = record {
  each = c.in_ok-fill_observation.ensures.each;
  last = c.in_ok-fill_observation.ensures.last;
  filled = λ site day any.
      walk-more (observes Pm10 site day) c.loop-key.key-iterator c.next.new.self (c.in-Some.key, c.in-Some.field-0-1) c.in-Some.ensures.steps (c.loop-key.invariant.filled site day any)
      (c.in_ok-fill_observation.ensures.filled site day)
      (stay-at (office_of c.args.registry.now c.args.shelf.now) c.loop-key.cells c.fill_observation.new.cells c.in_ok-fill_observation.ensures.stay site day);
  strata = λ site first. c.in_ok-fill_observation.ensures.strata site first ∙ c.loop-key.invariant.strata site first;
}

pub returns-clause-values : goal.returns-clause-values
returns-clause-values g c =
    values-filled (office_of c.args.registry.now c.args.shelf.now) c.loop-key.cells c.loop-key.invariant.each
    (λ site day any. walk-done (observes Pm10 site day) c.loop-key.key-iterator c.in-None.ensures.steps.0 (c.loop-key.invariant.filled site day any))

pub returns-clause-counts : goal.returns-clause-counts
returns-clause-counts g c = counts-filled (office_of c.args.registry.now c.args.shelf.now) c.loop-key.cells c.loop-key.invariant.each
