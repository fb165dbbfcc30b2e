-- How many steps are enough to bring a cell of PM10 up to date.
use Rattle.std.specs.Prelude.{ℕ, ◌+◌, ◌≤◌, ◌<◌}
use Rattle.aq_base.specs.Site.{Site}
use Rattle.aq_base.specs.declared.monitor.Pollutant.TheVariants.{Pm10}
use Rattle.aq_rules.specs.Kept.Cells.{CellName, PmDayCell, QuarterCell, StratumCell}
use Rattle.aq_rules.specs.Office.Office.{Office}
use Rattle.aq_series.specs.DayCells.{site_steps}
use Rattle.aq_particle_cells.specs.Pm10.Pm10Cells.{Pm10Kept}
use Rattle.aq_particle_cells.specs.Pm10.Pm10Levels.{IsCellOf}

-- so many steps are enough for each cell: fewer than 800 for a quarter only if its days count as they should already
pub record AreEnough (office : Office) (kept : Pm10Kept) (steps : CellName → ℕ) : Type 0 where
  pub days : (site : Site) (day : ℕ) → 16 + site_steps office.records site Pm10 ≤ steps (PmDayCell site Pm10 day)
  pub strata : (site : Site) (first : ℕ) → 16 ≤ steps (StratumCell site first)
  pub quarters : (site : Site) (quarter : ℕ) → steps (QuarterCell site Pm10 quarter) < 800 → IsCellOf office kept (QuarterCell site Pm10 quarter)

-- the steps of a day, a stratum or a quarter of PM10; of other cells nothing is kept here
unfoldable pub own_steps : (CellName → ℕ) → CellName → ℕ
own_steps steps (PmDayCell site Pm10 day) = steps (PmDayCell site Pm10 day)
own_steps steps (StratumCell site first) = steps (StratumCell site first)
own_steps steps (QuarterCell site Pm10 quarter) = steps (QuarterCell site Pm10 quarter)
own_steps steps cell = 0
