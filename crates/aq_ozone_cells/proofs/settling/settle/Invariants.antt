use Rattle.std.proofs.Common.{◌≡◌, ◌+◌, ◌≤◌, ℕ, false}
use Rattle.aq_rules.specs.Kept.Cells.{CellName as Cell}
use Rattle.aq_series.specs.OfficeView.{office_of}
use Rattle.aq_dirty.specs.Marked.{holds_cell}
use Rattle.aq_ozone_cells.specs.Bound.{steps_for, AreEnough}
use Rattle.aq_ozone_cells.specs.Settling.{AreWeeksOf, CellsStay, IsCellOf}
use Rattle.aq_ozone_cells.proofs.settling.settle.Given as goal

-- all cells that do not wait are the office's, and those of the weeks; and what is still to pay is left
abbrev pub invariant-loop-cell : goal.invariant-loop-cell
invariant-loop-cell g l = record {
  others : (cell : Cell) → holds_cell l.dirty cell ≡ false → IsCellOf (office_of l.registry l.shelf) l.cells cell;
  weeks : AreWeeksOf (office_of l.registry l.shelf) l.cells l.weeks.weeks.items;
  stay : CellsStay (office_of l.registry l.shelf) l.fn.cells l.cells;
  paid : (enough : Cell → ℕ) → AreEnough (office_of l.registry l.shelf) l.fn.cells enough → l.steps + steps_for enough l.dirty ≤ l.fn.steps + steps_for enough l.fn.dirty;
}

-- how many wait, each counted as forty
abbrev pub decreases-loop-cell : goal.decreases-loop-cell
decreases-loop-cell g l = steps_for (λ (_ : Cell). 40) l.dirty
