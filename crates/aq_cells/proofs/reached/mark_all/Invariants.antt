use Rattle.std.proofs.Common.{◌≡◌, ◌&&◌, ◌||◌, false, drop, List}
use Rattle.std.specs.List.{list_any}
use Rattle.aq_base.specs.declared.observation.ObsKey.{ObsKey}
use Rattle.aq_base.specs.declared.observation.Observation.{Observation}
use Rattle.aq_rules.specs.Kept.Cells.{CellName as Cell}
use Rattle.aq_dirty.specs.Marked.{holds_cell}
use Rattle.aq_dirty.specs.ParticleReach.{is_of_particles}
use Rattle.aq_dirty.specs.Particles.{holds_particle}
use Rattle.aq_dirty.specs.Reach.{is_of_ozone}
use Rattle.aq_staging.specs.Batch.{changes_in}
use Rattle.aq_cells.specs.Reached.{is_amiss, reads_change}
use Rattle.aq_cells.proofs.reached.mark_all.Given as goal

-- the cells that are held, and those that a change that is left will mark, are those that read one of all changes
abbrev pub invariant-loop-change : goal.invariant-loop-change
invariant-loop-change l = record {
  drops : list_any (is_amiss l.before) (changes_in (drop l.change-index l.changes)) ≡ false;
  ozone : (rows : List (ObsKey × Observation)) (cell : Cell)
      → (holds_cell l.ozone cell || (is_of_ozone cell && list_any (reads_change l.before l.after rows cell) (changes_in (drop l.change-index l.changes))))
      ≡ (is_of_ozone cell && list_any (reads_change l.before l.after rows cell) (changes_in l.changes));
  particles : (rows : List (ObsKey × Observation)) (cell : Cell)
      → (holds_particle l.particles cell || (is_of_particles cell && list_any (reads_change l.before l.after rows cell) (changes_in (drop l.change-index l.changes))))
      ≡ (is_of_particles cell && list_any (reads_change l.before l.after rows cell) (changes_in l.changes));
}
