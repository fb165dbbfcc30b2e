use Rattle.std.proofs.Common.{◌∙◌}
use Rattle.std.specs.Prelude.{None}
use Rattle.aq_series.specs.OfficeView.{office_of}
use Rattle.aq_ozone_cells.specs.Filling.{observes, IsWeekOf}
use Rattle.aq_ozone_cells.proofs.FillLemmas.{walk-begun, walk-done, walk-more}
use Rattle.aq_ozone_cells.proofs.filling.fill_observed.Goals as goal

pub loop-key-init : goal.loop-key-init
unfolding IsWeekOf
loop-key-init g c =
    walk-begun (office_of c.args.registry.now c.args.shelf.now) c.args.cells.now observes c.args.shelf.now None c.into_iter-key-iterator.result
    (record { each = c.requires; week = tt }) (c.into_iter-key-iterator.ensures.into_iter_gives ∙ c.rows-key-items.ensures.rows)

pub loop-key-preserved : goal.loop-key-preserved
loop-key-preserved g c =
    walk-more (office_of c.args.registry.now c.args.shelf.now) c.args.cells.now observes c.args.shelf.now c.loop-key.cells c.fill_observation.new.cells c.loop-key.week c.fill_observation.new.week
    c.loop-key.key-iterator c.next.new.self (c.in-Some.key, c.in-Some.field-0-1) c.in-Some.ensures.steps c.loop-key.invariant
    c.in_ok-fill_observation.ensures.filling c.in_ok-fill_observation.ensures.stay c.in_ok-fill_observation.ensures.filled

pub returns-clause-filled : goal.returns-clause-filled
returns-clause-filled g c =
    walk-done (office_of c.args.registry.now c.args.shelf.now) c.args.cells.now observes c.args.shelf.now c.loop-key.cells c.loop-key.week c.loop-key.key-iterator c.in-None.ensures.steps.0
    c.loop-key.invariant
