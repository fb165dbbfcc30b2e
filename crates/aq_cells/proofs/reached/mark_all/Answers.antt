use Rattle.std.proofs.Common.{◌≡◌, ◌∙◌, ◌+◌, ◌&&◌, drop, [], ap, sym, rules, arith}
use Rattle.std.specs.List.{list_any}
use Rattle.std.proofs.lemmas.Bool.{or_parts}
use Rattle.std.proofs.lemmas.List.{drop_all}
use Rattle.aq_dirty.specs.Marked.{holds_cell}
use Rattle.aq_dirty.specs.ParticleReach.{is_of_particles}
use Rattle.aq_dirty.specs.Particles.{holds_particle}
use Rattle.aq_dirty.specs.Reach.{is_of_ozone}
use Rattle.aq_staging.specs.Batch.{change_in, changes_in}
use Rattle.aq_cells.specs.Reached.{is_amiss, reads_change}
use Rattle.aq_cells.proofs.ReachedLemmas.{mark-adds, marked-all, marked-more, no-particles, none-marked, particles-add, reach-held, rest-is}
use Rattle.aq_cells.proofs.reached.mark_all.Goals as goal

pub loop-change-init : goal.loop-change-init
loop-change-init c = record {
  drops = c.requires.drops;
  ozone = λ rows cell.
      none-marked c.args.ozone.now cell (is_of_ozone cell && list_any (reads_change c.args.before.now c.args.after.now rows cell) (changes_in c.args.changes.now)) c.requires.ozone;
  particles = λ rows cell.
      no-particles c.args.particles.now cell (is_of_particles cell && list_any (reads_change c.args.before.now c.args.after.now rows cell) (changes_in c.args.changes.now)) c.requires.particles;
}

pub loop-change-preserved : goal.loop-change-preserved
loop-change-preserved c =
    let at = c.loop-change in
    let before = c.args.before.now in
    let after = c.args.after.now in
    let made = change_in c.change-item.result in
    let left = changes_in (drop at.change-index c.args.changes.now) in
    let rest = changes_in (drop (at.change-index + 1) c.args.changes.now) in
    let whole = changes_in c.args.changes.now in
    let next = rest-is c.args.changes.now at.change-index c.change-item.result (search rules) c.change-item.is in
    record {
      drops = (or_parts (is_amiss before made) (list_any (is_amiss before) rest) (sym (ap (list_any (is_amiss before)) next) ∙ at.invariant.drops)).1;
      ozone = λ rows cell.
          marked-more (reads_change before after rows cell) (is_of_ozone cell) made rest left (holds_cell at.ozone cell) (holds_cell c.mark.new.dirty cell)
          (is_of_ozone cell && list_any (reads_change before after rows cell) whole)
          (mark-adds before after rows c.change_of-read.result made (c.change_of-read.ensures rows) at.ozone c.mark.new.dirty c.in_ok-mark.ensures.cells cell)
          next (at.invariant.ozone rows cell);
      particles = λ rows cell.
          marked-more (reads_change before after rows cell) (is_of_particles cell) made rest left (holds_particle at.particles cell) (holds_particle c.mark_particles.new.particles cell)
          (is_of_particles cell && list_any (reads_change before after rows cell) whole)
          (particles-add before after rows c.change_of-read.result made (c.change_of-read.ensures rows) at.particles c.mark_particles.new.particles c.in_ok-mark_particles.ensures.cells cell)
          next (at.invariant.particles rows cell);
    }

pub returns-clause-ozone : goal.returns-clause-ozone
returns-clause-ozone c rows cell =
    let at = c.loop-change in
    let none : drop at.change-index c.args.changes.now ≡ [] = drop_all at.change-index c.args.changes.now (omega arith) in
    marked-all (reads_change c.args.before.now c.args.after.now rows cell) (is_of_ozone cell) (changes_in (drop at.change-index c.args.changes.now)) (holds_cell at.ozone cell)
    (is_of_ozone cell && list_any (reads_change c.args.before.now c.args.after.now rows cell) (changes_in c.args.changes.now))
    (ap changes_in none) (at.invariant.ozone rows cell)

pub returns-clause-particles : goal.returns-clause-particles
returns-clause-particles c rows cell =
    let at = c.loop-change in
    let none : drop at.change-index c.args.changes.now ≡ [] = drop_all at.change-index c.args.changes.now (omega arith) in
    marked-all (reads_change c.args.before.now c.args.after.now rows cell) (is_of_particles cell) (changes_in (drop at.change-index c.args.changes.now)) (holds_particle at.particles cell)
    (is_of_particles cell && list_any (reads_change c.args.before.now c.args.after.now rows cell) (changes_in c.args.changes.now))
    (ap changes_in none) (at.invariant.particles rows cell)

pub returns-clause-reach : goal.returns-clause-reach
returns-clause-reach c =
    reach-held c.args.before.now c.args.after.now (changes_in c.args.changes.now) c.loop-change.ozone c.loop-change.particles
    (returns-clause-ozone c) (returns-clause-particles c) c.what_reads_a_changed_row_is_in_reach.ensures
