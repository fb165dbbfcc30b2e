-- The cells that the changes of a load reach.
use Rattle.std.specs.Prelude.{◌≡◌, Bool, false, ◌&&◌, ◌||◌, is_none, List, ◌++◌}
use Rattle.std.specs.List.{list_any}
use Rattle.aq_base.specs.declared.observation.ObsKey.{ObsKey}
use Rattle.aq_base.specs.declared.observation.Observation.{Observation}
use Rattle.aq_base.specs.declared.office.OfficeRecord.{OfficeRecord}
use Rattle.aq_rules.specs.Kept.Cells.{CellName as Cell, is_same_cell}
use Rattle.aq_rules.specs.Kept.Reach.{changed_row, reach, reads}
use Rattle.aq_rules.specs.Office.Load.{OfficeChange, PutRecord, DropRecord, PutObservation, DropObservation, PutLoad, observation_changes, record_changes}
use Rattle.aq_rules.specs.Office.Office.{IsOffice, Office}
use Rattle.aq_rules.specs.Office.Questions.{record_of}
use Rattle.aq_dirty.specs.Marked.{holds_cell, Marked}
use Rattle.aq_dirty.specs.ParticleReach.{is_of_particles, marks_particle}
use Rattle.aq_dirty.specs.Particles.{holds_particle, MarkedParticles}
use Rattle.aq_dirty.specs.Reach.{is_of_ozone, marks}
use Rattle.aq_dirty.specs.declared.change.OfficeChange as dirty
use Rattle.aq_ozone_cells.specs.FilledDays as ozone_cells
use Rattle.aq_ozone_cells.specs.OzoneCells.{Cells}
use Rattle.aq_particle_cells.specs.Days.KeptDays.{Days}
use Rattle.aq_particle_cells.specs.Pm10.Pm10Cells.{Pm10Kept}
use Rattle.aq_particle_cells.specs.Pm10.Pm10Levels as pm10_cells
use Rattle.aq_particle_cells.specs.Pm25.Pm25Levels as pm25_cells
use Rattle.aq_series.specs.OfficeView.{office_of}

-- whether a cell reads what a change changes, in the office before it or in the one after it
abbrev pub reads_change : List OfficeRecord → List OfficeRecord → List (ObsKey × Observation) → Cell → OfficeChange → Bool
reads_change before after rows cell change =
    reads before cell (changed_row (office_of before rows) change) || reads after cell (changed_row (office_of before rows) change)

-- a cell reads nothing that one of the changes changes
abbrev pub IsUnread : List OfficeRecord → List OfficeRecord → Cell → List OfficeChange → Type 0
IsUnread before after cell changes =
    (rows : List (ObsKey × Observation)) → list_any (reads_change before after rows cell) changes ≡ false

-- whether a change drops the record of a key that has none
abbrev pub is_amiss : List OfficeRecord → OfficeChange → Bool
is_amiss records (DropRecord key) = is_none (record_of records key)
is_amiss records (PutRecord row) = false
is_amiss records (PutObservation key content) = false
is_amiss records (DropObservation key) = false
is_amiss records (PutLoad load) = false

-- the cells that read the change are held after it, and those that were held, and no others
abbrev pub Marks : List OfficeRecord → List OfficeRecord → dirty.OfficeChange → Marked → Marked → Type 0
Marks before after change old new =
    (cell : Cell) → holds_cell new cell ≡ (holds_cell old cell || marks before change cell || marks after change cell)

abbrev pub MarksParticles : List OfficeRecord → List OfficeRecord → dirty.OfficeChange → MarkedParticles → MarkedParticles → Type 0
MarksParticles before after change old new =
    (cell : Cell) → holds_particle new cell ≡ (holds_particle old cell || marks_particle before change cell || marks_particle after change cell)

-- the ozone cells that are held are those that read one of the changes
abbrev pub HoldsCells : List OfficeRecord → List OfficeRecord → List OfficeChange → Marked → Type 0
HoldsCells before after changes marked =
    (rows : List (ObsKey × Observation)) (cell : Cell)
    → holds_cell marked cell ≡ (is_of_ozone cell && list_any (reads_change before after rows cell) changes)

-- and so are those of particles
abbrev pub HoldsParticles : List OfficeRecord → List OfficeRecord → List OfficeChange → MarkedParticles → Type 0
HoldsParticles before after changes marked =
    (rows : List (ObsKey × Observation)) (cell : Cell)
    → holds_particle marked cell ≡ (is_of_particles cell && list_any (reads_change before after rows cell) changes)

-- if the changes are those between two offices, the cells that are held are those in reach
abbrev pub HoldsReach : List OfficeRecord → List OfficeRecord → List OfficeChange → Marked → MarkedParticles → Type 0
HoldsReach before after changes ozone particles =
    (rows later : List (ObsKey × Observation)) (cell : Cell)
    → changes ≡ record_changes (office_of before rows) (office_of after later) ++ observation_changes (office_of before rows) (office_of after later)
    → list_any (is_same_cell cell) (reach (office_of before rows) (office_of after later)) ≡ (holds_cell ozone cell || holds_particle particles cell)

-- the changes are those between two valid offices, and the cells are those of the old one
pub record IsChange (old new : Office) (changes : List OfficeChange) (ozone : Cells) (pm25 : Days) (pm10 : Pm10Kept) : Type 0 where
  pub old_is_valid : IsOffice old
  pub new_is_valid : IsOffice new
  pub changes_are : changes ≡ record_changes old new ++ observation_changes old new
  pub ozone_kept : ozone_cells.AreKept old ozone
  pub pm25_kept : pm25_cells.AreKept old pm25
  pub pm10_kept : pm10_cells.AreKept old pm10
