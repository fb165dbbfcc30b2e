-- If the cells are those of the old office, and the sets hold what is in reach, steps that are enough for them are at most the cost of the change.
use Rattle.std.proofs.Common.{ℕ, ◌+◌, ◌≤◌, arith, rules}
use Rattle.std.specs.Prelude.{max}
use Rattle.aq_dirty.specs.Marked.{Marked}
use Rattle.aq_dirty.specs.Particles.{MarkedParticles}
use Rattle.aq_ozone_cells.specs.Bound as ozone_bound
use Rattle.aq_ozone_cells.specs.FilledDays as ozone_cells
use Rattle.aq_ozone_cells.specs.OzoneCells.{Cells}
use Rattle.aq_particle_cells.specs.Days.KeptDays.{Days}
use Rattle.aq_particle_cells.specs.Pm10.Pm10Cells.{Pm10Kept}
use Rattle.aq_particle_cells.specs.Pm10.Pm10Levels as pm10_cells
use Rattle.aq_particle_cells.specs.Pm25.Pm25Levels as pm25_cells
use Rattle.aq_rules.specs.Kept.Cells.{CellName}
use Rattle.aq_rules.specs.Kept.Reach.{cost, day_steps}
use Rattle.aq_rules.specs.Office.Office.{IsOffice, Office}
use Rattle.aq_cells.specs.Allowed.{allowed, steps_for_both, HoldReach}
use Rattle.aq_cells.specs.Bound.{AreEnough}
use Rattle.aq_cells.proofs.HeldOnce.{held-cost}
use Rattle.aq_cells.proofs.OzoneYears.{are-enough}
use Rattle.aq_cells.proofs.Pm10Quarters as pm10
use Rattle.aq_cells.proofs.Pm25Quarters as pm25

above : (m n : ℕ) → n ≤ max m n
above m n = grind (arith, rules)

module _ (old new : Office) (valid : IsOffice old) (after : IsOffice new) where
  particles-enough : (days : Days) (kept : Pm10Kept) → pm25_cells.AreKept old days → pm10_cells.AreKept old kept → AreEnough new days kept (allowed old new)
  particles-enough days kept fine coarse = record {
    days = λ site pollutant day. above (day_steps old.records site pollutant) (day_steps new.records site pollutant);
    strata = λ site first. omega arith;
    pm25_quarters = λ site quarter few. pm25.quarter-enough old new days site quarter valid after fine few;
    pm10_quarters = λ site quarter few. pm10.quarter-enough old new kept site quarter valid after coarse few;
  }

  pub settling-costs : (cells : Cells) (days : Days) (kept : Pm10Kept) (ozone : Marked) (particles : MarkedParticles) (start end : ℕ)
      → ozone_cells.AreKept old cells → pm25_cells.AreKept old days → pm10_cells.AreKept old kept → HoldReach old new ozone particles
      → ((enough : CellName → ℕ) → ozone_bound.AreEnough new cells enough → AreEnough new days kept enough → end ≤ start + steps_for_both enough ozone particles)
      → end ≤ start + cost old new
  settling-costs cells days kept ozone particles start end hours fine coarse held settles =
      let bound = settles (allowed old new) (are-enough old new cells hours) (particles-enough days kept fine coarse) in
      let costs = held-cost old new ozone particles held in
      omega (arith, bound, costs)
