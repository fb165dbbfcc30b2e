-- The PM10 cells that are an office's.
use Rattle.std.specs.Prelude.{◌≡◌, ◌≤◌, ◌⊎◌, ℕ, Option, None, IfSome, ⊤}
use Rattle.aq_base.specs.Calendar.{quarter_of}
use Rattle.aq_base.specs.Site.{Site}
use Rattle.aq_base.specs.declared.day.TheConstants.{LAST_DAY}
use Rattle.aq_base.specs.declared.monitor.Pollutant.TheVariants.{Pm10}
use Rattle.aq_rules.specs.Kept.Cells.{CellName, PmDayCell, QuarterCell, StratumCell}
use Rattle.aq_rules.specs.Office.Office.{Office}
use Rattle.aq_rules.specs.Particles.ParticleDay.{net_day, site_day}
use Rattle.aq_particle_cells.specs.Days.KeptDays.{cell_at, sample_at}
use Rattle.aq_particle_cells.specs.Pm10.Pm10Cells.{scheduled_sample, Pm10Kept}
use Rattle.aq_particle_cells.specs.Pm10.Strata.{stratum_at, stratum_by_net}
use Rattle.aq_particle_cells.specs.declared.days.observed.SiteDay.{SiteDay}

-- a day has the office's value, and counts as scheduled by the office's records
abbrev pub HasValueOf : Office → Pm10Kept → Site → ℕ → Type 0
HasValueOf office kept site day = cell_at kept.days site day ≡ site_day office site Pm10 day

abbrev pub CountsAs : Office → Pm10Kept → Site → ℕ → Type 0
CountsAs office kept site day = sample_at kept.days site day ≡ scheduled_sample office.records kept.days site day

-- what is kept of the stratum that starts on a day is the office's
unfoldable pub office_stratum : Office → Site → ℕ → Option (ℕ × ℕ)
office_stratum office site first = stratum_by_net office.records site (net_day office site Pm10) first

abbrev pub HasStratumOf : Office → Pm10Kept → Site → ℕ → Type 0
HasStratumOf office kept site first = stratum_at kept.strata site first ≡ office_stratum office site first

pub record IsDayOf (office : Office) (kept : Pm10Kept) (site : Site) (day : ℕ) : Type 0 where
  pub value : HasValueOf office kept site day
  pub counts : day ≤ LAST_DAY → CountsAs office kept site day
  pub stratum : day ≤ LAST_DAY → HasStratumOf office kept site day

-- all that is kept is the office's
unfoldable pub AreKept : Office → Pm10Kept → Type 0
AreKept office kept = (site : Site) (day : ℕ) → IsDayOf office kept site day

-- all days of a site have the office's values
unfoldable pub AreValuesOf : Office → Pm10Kept → Site → Type 0
AreValuesOf office kept site = (day : ℕ) → HasValueOf office kept site day

-- a cell is the office's; of other cells nothing is kept here
unfoldable pub IsCellOf : Office → Pm10Kept → CellName → Type 0
IsCellOf office kept (PmDayCell site Pm10 day) = HasValueOf office kept site day
IsCellOf office kept (StratumCell site first) = first ≤ LAST_DAY → HasStratumOf office kept site first
IsCellOf office kept (QuarterCell site Pm10 quarter) = (day : ℕ) → day ≤ LAST_DAY → quarter_of day ≡ quarter → CountsAs office kept site day
IsCellOf office kept cell = ⊤

-- the cells of the level below a cell's are the office's
unfoldable pub AreBelow : Office → Pm10Kept → CellName → Type 0
AreBelow office kept (StratumCell site first) = AreValuesOf office kept site
AreBelow office kept cell = ⊤

-- the cells that are the office's stay so
unfoldable pub CellsStay : Office → Pm10Kept → Pm10Kept → Type 0
CellsStay office before after = (cell : CellName) → IsCellOf office before cell → IsCellOf office after cell

-- ---- days that are filled one after another

-- a day has the office's value, or none; and it counts by the office's records
pub record IsFilling (office : Office) (kept : Pm10Kept) (site : Site) (day : ℕ) : Type 0 where
  pub value : HasValueOf office kept site day ⊎ (cell_at kept.days site day ≡ None)
  pub counts : CountsAs office kept site day

unfoldable pub AreFilling : Office → Pm10Kept → Type 0
AreFilling office kept = (site : Site) (day : ℕ) → IsFilling office kept site day

-- the values that are the office's stay so
unfoldable pub ValuesStay : Office → Pm10Kept → Pm10Kept → Type 0
ValuesStay office before after = (site : Site) (day : ℕ) → HasValueOf office before site day → HasValueOf office after site day

-- ---- strata that are filled one after another

-- all days have the office's values, and what is kept of each stratum is the office's, or nothing
pub record AreStrataFilling (office : Office) (kept : Pm10Kept) : Type 0 where
  pub values : (site : Site) → AreValuesOf office kept site
  pub strata : (site : Site) (first : ℕ) → first ≤ LAST_DAY → HasStratumOf office kept site first ⊎ (stratum_at kept.strata site first ≡ None)

-- and what is kept of the last stratum that was read is the office's
pub record AreStrataSoFar (office : Office) (kept : Pm10Kept) (last : Option SiteDay) : Type 0 where
  pub filling : AreStrataFilling office kept
  pub last_one : IfSome last (λ (l : SiteDay). HasStratumOf office kept l.site l.day)

-- the strata that are the office's stay so
unfoldable pub StrataStay : Office → Pm10Kept → Pm10Kept → Type 0
StrataStay office before after = (site : Site) (first : ℕ) → HasStratumOf office before site first → HasStratumOf office after site first
