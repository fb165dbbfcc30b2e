-- What the book allows for a cell, and what two dirty sets hold between them.
use Rattle.std.specs.Prelude.{◌≡◌, ◌+◌, ◌||◌, ℕ, false, filter}
use Rattle.std.specs.List.{list_any}
use Rattle.aq_base.specs.Site.{Site}
use Rattle.aq_base.specs.declared.monitor.Pollutant.{Pollutant}
use Rattle.aq_dirty.specs.Marked.{holds_cell, Marked}
use Rattle.aq_dirty.specs.Particles.{holds_particle, MarkedParticles}
use Rattle.aq_ozone_cells.specs.Bound.{steps_for}
use Rattle.aq_cells.specs.Bound as particle_bound
use Rattle.aq_rules.specs.Kept.Cells.{CellName, QuarterCell, is_same_cell}
use Rattle.aq_rules.specs.Kept.Reach.{changed_rows, is_of_schedule, reach, reads_one, steps_of}
use Rattle.aq_rules.specs.Office.Office.{Office}

-- the steps that the book allows for a cell, if the rows of the old office become those of the new one
abbrev pub allowed : Office → Office → CellName → ℕ
allowed old new = steps_of old new (changed_rows old new)

-- a quarter reads no changed schedule and no changed make-up, in neither office
abbrev pub ReadsNoSchedule : Office → Office → Site → Pollutant → ℕ → Type 0
ReadsNoSchedule old new site pollutant quarter =
    reads_one old new (QuarterCell site pollutant quarter) (filter is_of_schedule (changed_rows old new)) ≡ false

-- the sets hold the cells that are in reach of the change, and no others
abbrev pub HoldReach : Office → Office → Marked → MarkedParticles → Type 0
HoldReach old new ozone particles =
    (cell : CellName)
    → (holds_cell ozone cell || holds_particle particles cell) ≡ list_any (is_same_cell cell) (reach old new)

-- the steps of the cells of both, each cell counted once
abbrev pub steps_for_both : (CellName → ℕ) → Marked → MarkedParticles → ℕ
steps_for_both steps ozone particles =
    steps_for steps ozone + particle_bound.steps_for steps particles
