use Rattle.std.proofs.Common.{◌∙◌}
use Rattle.std.specs.Prelude.{None}
use Rattle.aq_rules.specs.Office.Approval.{approves}
use Rattle.aq_series.specs.OfficeView.{office_of}
use Rattle.aq_ozone_cells.specs.Filling.{IsWeekOf}
use Rattle.aq_ozone_cells.proofs.FillLemmas.{walk-begun, walk-done, walk-more}
use Rattle.aq_ozone_cells.proofs.filling.fill_approved.Goals as goal

pub loop-row-init : goal.loop-row-init
unfolding IsWeekOf
loop-row-init g c =
    walk-begun (office_of c.args.registry.now c.args.shelf.now) c.args.cells.now approves c.args.registry.now None c.into_iter-row-iterator.result
    (record { each = c.requires; week = tt }) (c.into_iter-row-iterator.ensures.into_iter_gives ∙ c.rows-row-items.ensures)

pub loop-row-preserved : goal.loop-row-preserved
loop-row-preserved g c =
    walk-more (office_of c.args.registry.now c.args.shelf.now) c.args.cells.now approves c.args.registry.now c.loop-row.cells c.fill_record.new.cells c.loop-row.week c.fill_record.new.week
    c.loop-row.row-iterator c.next.new.self c.in-Some.row c.in-Some.ensures.steps c.loop-row.invariant
    c.in_ok-fill_record.ensures.filling c.in_ok-fill_record.ensures.stay c.in_ok-fill_record.ensures.filled

pub returns-clause-filled : goal.returns-clause-filled
returns-clause-filled g c =
    walk-done (office_of c.args.registry.now c.args.shelf.now) c.args.cells.now approves c.args.registry.now c.loop-row.cells c.loop-row.week c.loop-row.row-iterator c.in-None.ensures.steps.0
    c.loop-row.invariant
