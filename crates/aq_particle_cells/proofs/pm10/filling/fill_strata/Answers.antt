use Rattle.std.proofs.Common.{◌∙◌, ap, inl, refl}
use Rattle.std.specs.List.{list_any}
use Rattle.aq_particle_cells.proofs.DaysLemmas.Walks.{walk-done, walk-more}
use Rattle.aq_base.specs.declared.monitor.Pollutant.TheVariants.{Pm10}
use Rattle.aq_series.specs.OfficeView.{office_of}
use Rattle.aq_particle_cells.specs.Days.Observed.{observes}
use Rattle.aq_particle_cells.proofs.Pm10Lemmas.Pm10Filling.{strata-at, stratum-filled}
use Rattle.aq_particle_cells.proofs.pm10.filling.fill_strata.Goals as goal

pub loop-key-init : goal.loop-key-init
loop-key-init g c = record {
  so_far = record { filling = c.requires; last_one = tt };
  filled = λ site day first any held. inl (ap (list_any (observes Pm10 site day)) (c.into_iter-key-iterator.ensures.into_iter_gives ∙ c.rows-key-items.ensures.rows) ∙ any);
  cells = λ site day. refl;
  samples = λ site day. refl;
}

pub loop-key-preserved : goal.loop-key-preserved
loop-key-preserved g c =
    let office = office_of c.args.registry.now c.args.shelf.now in
    let so_far = c.loop-key.invariant.so_far in
    record {
      so_far = c.in_ok-fill_stratum.ensures.each c.args.shelf.now so_far;
      filled = λ site day first any held.
          walk-more (observes Pm10 site day) c.loop-key.key-iterator c.next.new.self (c.in-Some.key, c.in-Some.field-0-1) c.in-Some.ensures.steps (c.loop-key.invariant.filled site day first any held)
          (λ lies. c.in_ok-fill_stratum.ensures.filled c.args.shelf.now site day first so_far lies held)
          (strata-at office c.loop-key.cells c.fill_stratum.new.cells (c.in_ok-fill_stratum.ensures.stay c.args.shelf.now so_far) site first);
      cells = λ site day. c.in_ok-fill_stratum.ensures.cells site day ∙ c.loop-key.invariant.cells site day;
      samples = λ site day. c.in_ok-fill_stratum.ensures.samples site day ∙ c.loop-key.invariant.samples site day;
    }

pub returns-clause-strata : goal.returns-clause-strata
returns-clause-strata g c site first within =
    stratum-filled (office_of c.args.registry.now c.args.shelf.now) c.loop-key.cells site first
    (λ day any held. walk-done (observes Pm10 site day) c.loop-key.key-iterator c.in-None.ensures.steps.0 (c.loop-key.invariant.filled site day first any held))
    (c.loop-key.invariant.so_far.filling.strata site first within)
