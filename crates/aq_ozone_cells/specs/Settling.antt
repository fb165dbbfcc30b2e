-- Cells that are brought up to date one after another: which of them are the office's.
use Rattle.std.specs.Prelude.{◌≡◌, ◌≤◌, ◌/◌, ℕ, Bool, true, false, Some, IsTrue, List, ⊤}
use Rattle.std.specs.List.{list_any}
use Rattle.aq_base.specs.Calendar.{year_of}
use Rattle.aq_base.specs.Site.{Site}
use Rattle.aq_base.specs.declared.day.TheConstants.{LAST_DAY, LAST_HOUR}
use Rattle.aq_rules.specs.Kept.Cells.{CellName, HourCell, WindowCell, OzoneDayCell, OzoneYearCell}
use Rattle.aq_rules.specs.Office.Office.{Office}
use Rattle.aq_rules.specs.Ozone.EightHour.{window}
use Rattle.aq_rules.specs.Ozone.OzoneDay.{ozone_day}
use Rattle.aq_rules.specs.Ozone.SiteHour.{site_hour}
use Rattle.aq_ozone_cells.specs.Filling.{is_within}
use Rattle.aq_ozone_cells.specs.KeptDays.{average_at, averages_of, held_at, hour_at, is_kept_start}
use Rattle.aq_ozone_cells.specs.OzoneCells.{counts, Cells}
use Rattle.aq_ozone_cells.specs.declared.filling.Week.{Week}

-- an hour, and an average, are the office's
abbrev pub IsHourOf : Office → Cells → Site → ℕ → Type 0
IsHourOf office cells site hour = hour ≤ LAST_HOUR → hour_at cells site hour ≡ site_hour office site hour

abbrev pub IsAverageOf : Office → Cells → Site → ℕ → Type 0
IsAverageOf office cells site start =
    start ≤ LAST_HOUR → IsTrue (is_kept_start start) → average_at cells site start ≡ averages_of (window office site start)

-- a day is valid as in the office, and has the office's maximum
pub record HasMaximumOf (office : Office) (cells : Cells) (site : Site) (day : ℕ) : Type 0 where
  pub valid : (held_at cells site day).valid ≡ (ozone_day office site day).valid
  pub maximum : (held_at cells site day).maximum ≡ (ozone_day office site day).maximum

-- the days of a year count by the office's season and approvals
abbrev pub CountsAs : Office → Cells → Site → ℕ → Type 0
CountsAs office cells site day = (held_at cells site day).counted ≡ counts office.records site day (held_at cells site day).valid

-- a cell is the office's; of other cells nothing is kept here
unfoldable pub IsCellOf : Office → Cells → CellName → Type 0
IsCellOf office cells (HourCell site hour) = IsHourOf office cells site hour
IsCellOf office cells (WindowCell site start) = IsAverageOf office cells site start
IsCellOf office cells (OzoneDayCell site day) = day ≤ LAST_DAY → HasMaximumOf office cells site day
IsCellOf office cells (OzoneYearCell site year) = (day : ℕ) → day ≤ LAST_DAY → year_of day ≡ year → CountsAs office cells site day
IsCellOf office cells cell = ⊤

-- the cells of the levels below a cell's that it is settled from, and of a year also its days, are the office's
unfoldable pub AreBelow : Office → Cells → CellName → Type 0
AreBelow office cells (WindowCell site start) = (other : Site) (hour : ℕ) → IsHourOf office cells other hour
AreBelow office cells (OzoneDayCell site day) = (other : Site) (start : ℕ) → IsAverageOf office cells other start
AreBelow office cells (OzoneYearCell site year) =
    ((other : Site) (start : ℕ) → IsAverageOf office cells other start)
    × ((other : Site) (day : ℕ) → day ≤ LAST_DAY → HasMaximumOf office cells other day)
AreBelow office cells cell = ⊤

-- the cells that are the office's stay so
unfoldable pub CellsStay : Office → Cells → Cells → Type 0
CellsStay office before after = (cell : CellName) → IsCellOf office before cell → IsCellOf office after cell

-- a cell is brought up to date: it is the office's, and those that were the office's stay so
pub record IsBroughtUp (office : Office) (before after : Cells) (cell : CellName) : Type 0 where
  pub stay : CellsStay office before after
  pub now : IsCellOf office after cell

-- whether a cell is of a day of the week
abbrev pub is_of_week : Week → CellName → Bool
is_of_week week (HourCell site hour) = is_within (Some week) site (hour / 24) (hour / 24)
is_of_week week (WindowCell site start) = is_within (Some week) site (start / 24) (start / 24)
is_of_week week (OzoneDayCell site day) = is_within (Some week) site day day
is_of_week week cell = false

-- the cells of the days of these weeks are the office's
unfoldable pub AreWeeksOf : Office → Cells → List Week → Type 0
AreWeeksOf office cells weeks =
    (cell : CellName) → list_any (λ week. is_of_week week cell) weeks ≡ true → IsCellOf office cells cell
