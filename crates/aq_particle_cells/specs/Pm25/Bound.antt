-- How many steps are enough to bring a cell of PM2.5 up to date.
use Rattle.std.specs.Prelude.{ℕ, ◌+◌, ◌≤◌, ◌<◌}
use Rattle.aq_base.specs.Site.{Site}
use Rattle.aq_base.specs.declared.monitor.Pollutant.TheVariants.{Pm25}
use Rattle.aq_rules.specs.Kept.Cells.{CellName, PmDayCell, QuarterCell}
use Rattle.aq_rules.specs.Office.Office.{Office}
use Rattle.aq_series.specs.DayCells.{site_steps}
use Rattle.aq_particle_cells.specs.Days.KeptDays.{Days}
use Rattle.aq_particle_cells.specs.Pm25.Pm25Levels.{IsCellOf}

-- so many steps are enough for each cell: fewer than 800 for a quarter only if its days count as they should already
pub record AreEnough (office : Office) (kept : Days) (steps : CellName → ℕ) : Type 0 where
  pub days : (site : Site) (day : ℕ) → 16 + site_steps office.records site Pm25 ≤ steps (PmDayCell site Pm25 day)
  pub quarters : (site : Site) (quarter : ℕ) → steps (QuarterCell site Pm25 quarter) < 800 → IsCellOf office kept (QuarterCell site Pm25 quarter)

-- the steps of a day or a quarter of PM2.5; of other cells nothing is kept here
unfoldable pub own_steps : (CellName → ℕ) → CellName → ℕ
own_steps steps (PmDayCell site Pm25 day) = steps (PmDayCell site Pm25 day)
own_steps steps (QuarterCell site Pm25 quarter) = steps (QuarterCell site Pm25 quarter)
own_steps steps cell = 0
