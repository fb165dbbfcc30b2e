use Rattle.std.proofs.Common.{ap, sym, ◌∙◌}
use Rattle.std.specs.List.{list_any}
use Rattle.aq_dirty.specs.Marked.{holds_cell}
use Rattle.aq_dirty.specs.ParticleReach.{is_of_particles}
use Rattle.aq_dirty.specs.Particles.{holds_particle}
use Rattle.aq_dirty.specs.Reach.{is_of_ozone}
use Rattle.aq_series.specs.OfficeView.{office_of}
use Rattle.aq_staging.specs.Batch.{changes_in}
use Rattle.aq_cells.specs.Reached.{reads_change}
use Rattle.aq_cells.proofs.ReachedLemmas.{unread}
use Rattle.aq_cells.proofs.reached.bring_up.Goals as goal

pub settle-requires-clause-ozone : goal.settle-requires-clause-ozone
settle-requires-clause-ozone g c cell free =
    c.requires.ozone cell
    (λ kind rows.
    let reads = reads_change c.args.before.now c.args.after.now rows cell in
    ap (list_any reads) (sym c.as_slice-changes.ensures)
    ∙ unread (is_of_ozone cell) (list_any reads (changes_in c.as_slice-changes.result.now)) (holds_cell c.mark_all.new.ozone cell) (c.in_ok-mark_all.ensures.ozone rows cell) free kind)

pub settle-requires-clause-pm25 : goal.settle-requires-clause-pm25
settle-requires-clause-pm25 g c cell free =
    c.requires.pm25 cell
    (λ kind rows.
    let reads = reads_change c.args.before.now c.args.after.now rows cell in
    ap (list_any reads) (sym c.as_slice-changes.ensures)
    ∙ unread (is_of_particles cell) (list_any reads (changes_in c.as_slice-changes.result.now)) (holds_particle c.mark_all.new.particles cell) (c.in_ok-mark_all.ensures.particles rows cell) free kind)

pub settle-requires-clause-pm10 : goal.settle-requires-clause-pm10
settle-requires-clause-pm10 g c cell free =
    c.requires.pm10 cell
    (λ kind rows.
    let reads = reads_change c.args.before.now c.args.after.now rows cell in
    ap (list_any reads) (sym c.as_slice-changes.ensures)
    ∙ unread (is_of_particles cell) (list_any reads (changes_in c.as_slice-changes.result.now)) (holds_particle c.mark_all.new.particles cell) (c.in_ok-mark_all.ensures.particles rows cell) free kind)

pub returns-clause-steps : goal.returns-clause-steps
returns-clause-steps g c rows change =
    c.settling_what_waits_costs_what_the_change_costs.ensures (office_of c.args.before.now rows) (office_of c.args.after.now c.args.shelf.now)
    c.args.cells.now.ozone c.args.cells.now.pm25 c.args.cells.now.pm10 c.mark_all.new.ozone c.mark_all.new.particles c.args.steps.now c.settle.new.steps
    change.old_is_valid change.new_is_valid change.ozone_kept change.pm25_kept change.pm10_kept
    (λ cell. sym (c.in_ok-mark_all.ensures.reach rows c.args.shelf.now cell (c.as_slice-changes.ensures ∙ change.changes_are)))
    (λ enough hours days. c.settle.ensures.steps enough hours days)
