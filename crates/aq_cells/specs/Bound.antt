-- How many steps are enough to bring the particle cells that wait up to date.
use Rattle.std.specs.Prelude.{ℕ, ◌≤◌, ◌<◌, sum_by}
use Rattle.aq_base.specs.Site.{Site}
use Rattle.aq_base.specs.declared.monitor.Pollutant.{Pollutant}
use Rattle.aq_base.specs.declared.monitor.Pollutant.TheVariants.{Pm25, Pm10}
use Rattle.aq_dirty.specs.Particles.{particle_cells_of, MarkedParticles}
use Rattle.aq_rules.specs.Kept.Cells.{CellName, PmDayCell, QuarterCell, StratumCell}
use Rattle.aq_rules.specs.Kept.Reach.{day_steps, each_once}
use Rattle.aq_rules.specs.Office.Office.{Office}
use Rattle.aq_particle_cells.specs.Days.KeptDays.{Days}
use Rattle.aq_particle_cells.specs.Pm10.Pm10Cells.{Pm10Kept}
use Rattle.aq_particle_cells.specs.Pm10.Pm10Levels as pm10_cells
use Rattle.aq_particle_cells.specs.Pm25.Pm25Levels as pm25_cells

-- so many steps are enough for each cell: what the book of rules allows for a day, 16 for a stratum, and fewer than 800 for a quarter only if its days count as they should already
pub record AreEnough (office : Office) (pm25 : Days) (pm10 : Pm10Kept) (steps : CellName → ℕ) : Type 0 where
  pub days : (site : Site) (pollutant : Pollutant) (day : ℕ) → day_steps office.records site pollutant ≤ steps (PmDayCell site pollutant day)
  pub strata : (site : Site) (first : ℕ) → 16 ≤ steps (StratumCell site first)
  pub pm25_quarters : (site : Site) (quarter : ℕ) → steps (QuarterCell site Pm25 quarter) < 800 → pm25_cells.IsCellOf office pm25 (QuarterCell site Pm25 quarter)
  pub pm10_quarters : (site : Site) (quarter : ℕ) → steps (QuarterCell site Pm10 quarter) < 800 → pm10_cells.IsCellOf office pm10 (QuarterCell site Pm10 quarter)

-- the steps of the cells that wait, each cell counted once
unfoldable pub steps_for : (CellName → ℕ) → MarkedParticles → ℕ
steps_for steps marked = sum_by steps (each_once (particle_cells_of marked))
