-- The office of a book.
use Rattle.std.specs.Prelude.{List}
use Rattle.aq_base.specs.declared.observation.ObsKey.{ObsKey}
use Rattle.aq_base.specs.declared.observation.Observation.{Observation}
use Rattle.aq_base.specs.declared.office.OfficeRecord.{OfficeRecord}
use Rattle.aq_rules.specs.Office.Office.{IsOffice, Office, StoredLoad}
use Rattle.aq_series.specs.OfficeView.{office_of}
use Rattle.aq_ozone_cells.specs.FilledDays as ozone_cells
use Rattle.aq_particle_cells.specs.Pm10.Pm10Levels as pm10_cells
use Rattle.aq_particle_cells.specs.Pm25.Pm25Levels as pm25_cells
use Rattle.aq_cells.specs.declared.cells.Cells.{Cells}

-- the office of these records, observations and loads
abbrev pub standing : List OfficeRecord → List (ObsKey × Observation) → List StoredLoad → Office
standing records observations loads = record { records = records; observations = observations; loads = loads }

-- what always holds of a book: its office is a valid one, and every cell that is kept is the office's
pub record IsBook (records : List OfficeRecord) (observations : List (ObsKey × Observation)) (loads : List StoredLoad) (cells : Cells) : Type 0 where
  pub office : IsOffice (standing records observations loads)
  pub ozone_kept : ozone_cells.AreKept (office_of records observations) cells.ozone
  pub pm25_kept : pm25_cells.AreKept (office_of records observations) cells.pm25
  pub pm10_kept : pm10_cells.AreKept (office_of records observations) cells.pm10
