use Rattle.std.proofs.Common.{◌≡◌, ◌+◌, ◌≤◌, ℕ, false}
use Rattle.aq_dirty.specs.Particles.{holds_particle}
use Rattle.aq_particle_cells.specs.Pm10.Pm10Levels as pm10_cells
use Rattle.aq_particle_cells.specs.Pm25.Pm25Levels as pm25_cells
use Rattle.aq_rules.specs.Kept.Cells.{CellName as Cell}
use Rattle.aq_series.specs.OfficeView.{office_of}
use Rattle.aq_cells.specs.Bound.{steps_for, AreEnough}
use Rattle.aq_cells.proofs.settling.settle.Given as goal

-- all cells that do not wait are the office's; those that were stay so; and what is still to pay is left
abbrev pub invariant-loop-cell : goal.invariant-loop-cell
invariant-loop-cell g l = record {
  pm25 : (cell : Cell) → holds_particle l.waiting cell ≡ false → pm25_cells.IsCellOf (office_of l.registry l.shelf) l.pm25 cell;
  pm10 : (cell : Cell) → holds_particle l.waiting cell ≡ false → pm10_cells.IsCellOf (office_of l.registry l.shelf) l.pm10 cell;
  pm25_stay : pm25_cells.CellsStay (office_of l.registry l.shelf) l.fn.pm25 l.pm25;
  pm10_stay : pm10_cells.CellsStay (office_of l.registry l.shelf) l.fn.pm10 l.pm10;
  paid : (enough : Cell → ℕ) → AreEnough (office_of l.registry l.shelf) l.fn.pm25 l.fn.pm10 enough → l.steps + steps_for enough l.waiting ≤ l.fn.steps + steps_for enough l.fn.waiting;
}

-- how many wait
abbrev pub decreases-loop-cell : goal.decreases-loop-cell
decreases-loop-cell g l = steps_for (λ (_ : Cell). 1) l.waiting
