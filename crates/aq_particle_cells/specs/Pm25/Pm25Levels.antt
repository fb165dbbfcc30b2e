-- The PM2.5 cells that are an office's.
use Rattle.std.specs.Prelude.{◌≡◌, ◌≤◌, ◌⊎◌, ℕ, None, ⊤}
use Rattle.aq_base.specs.Site.{Site}
use Rattle.aq_base.specs.declared.day.TheConstants.{LAST_DAY}
use Rattle.aq_base.specs.declared.monitor.Pollutant.TheVariants.{Pm25}
use Rattle.aq_rules.specs.Kept.Cells.{CellName, PmDayCell, QuarterCell}
use Rattle.aq_rules.specs.Office.Office.{Office}
use Rattle.aq_rules.specs.Particles.ParticleDay.{site_day}
use Rattle.aq_particle_cells.specs.Days.KeptDays.{cell_at, sample_at, Days}
use Rattle.aq_particle_cells.specs.Pm25.Pm25Cells.{sample_from, IsCountedBy}

-- a day has the office's value, and the creditable sample that the office's records give it
abbrev pub HasValueOf : Office → Days → Site → ℕ → Type 0
HasValueOf office days site day = cell_at days site day ≡ site_day office site Pm25 day

abbrev pub CountsAs : Office → Days → Site → ℕ → Type 0
CountsAs office days site day = sample_at days site day ≡ sample_from office.records days site day

pub record IsDayOf (office : Office) (days : Days) (site : Site) (day : ℕ) : Type 0 where
  pub value : HasValueOf office days site day
  pub counts : day ≤ LAST_DAY → CountsAs office days site day

-- all that is kept is the office's
unfoldable pub AreKept : Office → Days → Type 0
AreKept office days = (site : Site) (day : ℕ) → IsDayOf office days site day

-- a cell is the office's: the quarters and years of the days that are kept are so always, so a year reads nothing of its own; of other cells nothing is kept here
unfoldable pub IsCellOf : Office → Days → CellName → Type 0
IsCellOf office days (PmDayCell site Pm25 day) = HasValueOf office days site day
IsCellOf office days (QuarterCell site Pm25 quarter) = IsCountedBy office.records days site quarter
IsCellOf office days cell = ⊤

-- the cells that are the office's stay so
unfoldable pub CellsStay : Office → Days → Days → Type 0
CellsStay office before after = (cell : CellName) → IsCellOf office before cell → IsCellOf office after cell

-- ---- days that are filled one after another

-- a day has the office's value, or none; and it counts by the office's records
pub record IsFilling (office : Office) (days : Days) (site : Site) (day : ℕ) : Type 0 where
  pub value : HasValueOf office days site day ⊎ (cell_at days site day ≡ None)
  pub counts : CountsAs office days site day

unfoldable pub AreFilling : Office → Days → Type 0
AreFilling office days = (site : Site) (day : ℕ) → IsFilling office days site day

-- the values that are the office's stay so
unfoldable pub ValuesStay : Office → Days → Days → Type 0
ValuesStay office before after = (site : Site) (day : ℕ) → HasValueOf office before site day → HasValueOf office after site day
