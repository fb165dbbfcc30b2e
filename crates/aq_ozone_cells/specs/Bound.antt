-- How many steps are enough to bring the cells that wait up to date.
use Rattle.std.specs.Prelude.{◌≡◌, ℕ, ◌+◌, ◌≤◌, ◌<◌, true, Some, IsTrue, sum_by}
use Rattle.aq_base.specs.Site.{Site}
use Rattle.aq_dirty.specs.Marked.{cells_of, first_hours_in, holds_cell, Marked}
use Rattle.aq_dirty.specs.declared.dirty.HourSpan.{HourSpan}
use Rattle.aq_rules.specs.Kept.Cells.{CellName, HourCell, WindowCell, OzoneDayCell, OzoneYearCell}
use Rattle.aq_rules.specs.Kept.Reach.{each_once}
use Rattle.aq_rules.specs.Office.Office.{Office}
use Rattle.aq_ozone_cells.specs.OzoneCells.{Cells}
use Rattle.aq_ozone_cells.specs.Settling.{is_of_week, IsCellOf}
use Rattle.aq_ozone_cells.specs.declared.filling.Week.{Week}

-- so many steps are enough for each cell: fewer than 732 for a year only if its days count as they should already
pub record AreEnough (office : Office) (cells : Cells) (steps : CellName → ℕ) : Type 0 where
  pub hours : (site : Site) (hour : ℕ) → 40 ≤ steps (HourCell site hour)
  pub averages : (site : Site) (start : ℕ) → 4 ≤ steps (WindowCell site start)
  pub days : (site : Site) (day : ℕ) → 4 ≤ steps (OzoneDayCell site day)
  pub years : (site : Site) (year : ℕ) → steps (OzoneYearCell site year) < 732 → IsCellOf office cells (OzoneYearCell site year)

-- the steps of the cells that wait, each cell counted once
unfoldable pub steps_for : (CellName → ℕ) → Marked → ℕ
steps_for steps marked = sum_by steps (each_once (cells_of marked))

-- the hours of two days that wait first, and that are of the week
pub record IsBegun (marked : Marked) (week : Week) : Type 0 where
  pub hours : HourSpan
  pub first : first_hours_in marked ≡ Some hours
  pub count : 48 ≤ hours.count
  pub held : (hour : ℕ) → hours.first ≤ hour → hour < hours.first + 48 → holds_cell marked (HourCell hours.site hour) ≡ true
  pub of_week : (hour : ℕ) → hours.first ≤ hour → hour < hours.first + 48 → IsTrue (is_of_week week (HourCell hours.site hour))
