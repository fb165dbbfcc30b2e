-- The steps of the particle cells that wait, once one of them is dropped; and how many are enough.
use Rattle.std.proofs.Common.{◌≡◌, ℕ, ◌+◌, ◌≤◌, Bool, true, false, not, ◌&&◌, ◌||◌, List, [], ◌∷◌, refl, ap, sym, ◌∙◌, arith}
use Rattle.std.specs.Prelude.{sum_by}
use Rattle.std.specs.List.{list_any}
use Rattle.std.proofs.lemmas.Bool.{false≢true}
use Rattle.std.proofs.lemmas.List.Sums.{sum_by-cons}
use Rattle.aq_base.specs.declared.monitor.Pollutant.TheVariants.{Ozone, Pm25, Pm10}
use Rattle.aq_dirty.specs.Particles.{holds_particle, particle_cells_of, MarkedParticles}
use Rattle.aq_particle_cells.specs.Pm10.Bound as pm10_bound
use Rattle.aq_particle_cells.specs.Pm10.Pm10Cells.{Pm10Kept}
use Rattle.aq_particle_cells.specs.Pm10.Pm10Levels as pm10_cells
use Rattle.aq_particle_cells.specs.Pm25.Bound as pm25_bound
use Rattle.aq_particle_cells.specs.Pm25.Pm25Levels as pm25_cells
use Rattle.aq_particle_cells.specs.Days.KeptDays.{Days}
use Rattle.aq_registry.specs.Registry.{office_with}
use Rattle.aq_rules.proofs.CellsOnce.{cell-same, member-once}
use Rattle.aq_rules.specs.Kept.Cells.{CellName as Cell, HourCell, WindowCell, OzoneDayCell, OzoneYearCell, PmDayCell, StratumCell, QuarterCell, PmYearCell, is_same_cell}
use Rattle.aq_rules.specs.Kept.Reach.{each_once}
use Rattle.aq_rules.specs.Office.Office.{IsOffice, Office}
use Rattle.aq_cells.specs.Bound.{steps_for, AreEnough}
use Rattle.aq_cells.proofs.SiteSteps.{steps-looked_up}

-- ---- a cell less

-- a cell of a list has its steps among those of all
least : (steps : Cell → ℕ) (cell : Cell) (cells : List Cell) → list_any (is_same_cell cell) cells ≡ true → steps cell ≤ sum_by steps cells
least steps cell [] there = absurd (false≢true there)
least steps cell (first ∷ cells) there = by (is_same_cell cell first) refl there (least steps cell cells)
  where
    by : (b : Bool) → is_same_cell cell first ≡ b → (b || list_any (is_same_cell cell) cells) ≡ true
        → (list_any (is_same_cell cell) cells ≡ true → steps cell ≤ sum_by steps cells) → steps cell ≤ sum_by steps (first ∷ cells)
    by true same there rest = let one = ap steps (cell-same cell first same) in omega (arith, one, sum_by-cons steps first cells)
    by false apart there rest = let later = rest there in omega (arith, later, sum_by-cons steps first cells)

module _ (list : (marked : MarkedParticles) (cell : Cell) → list_any (is_same_cell cell) (particle_cells_of marked) ≡ holds_particle marked cell)
    (steps : Cell → ℕ) (marked : MarkedParticles) (cell : Cell) (held : holds_particle marked cell ≡ true) where
  pub one-least : steps cell ≤ steps_for steps marked
  unfolding steps_for
  one-least = least steps cell (each_once (particle_cells_of marked)) (member-once cell (particle_cells_of marked) ∙ list marked cell ∙ held)

  pub one-less : (left : MarkedParticles)
      → ((some : Cell → ℕ) (one : Cell) (all rest : List Cell) → list_any (is_same_cell one) all ≡ true
      → ((other : Cell) → list_any (is_same_cell other) rest ≡ (list_any (is_same_cell other) all && not (is_same_cell one other)))
      → sum_by some (each_once all) ≡ some one + sum_by some (each_once rest))
      → ((other : Cell) → holds_particle left other ≡ (holds_particle marked other && not (is_same_cell cell other)))
      → steps_for steps marked ≡ steps cell + steps_for steps left
  unfolding steps_for
  one-less left less drops =
      less steps cell (particle_cells_of marked) (particle_cells_of left) (list marked cell ∙ held)
      (λ other. list left other ∙ drops other ∙ ap (λ b. b && not (is_same_cell cell other)) (sym (list marked other)))

-- ---- so many steps are enough

module _ (office : Office) (pm25 : Days) (pm10 : Pm10Kept) (enough : Cell → ℕ) (are : AreEnough office pm25 pm10 enough) where
  pub enough-pm25 : IsOffice (office_with office.records) → pm25_bound.AreEnough office pm25 enough
  enough-pm25 valid = record {
    days = λ site day. omega (arith, steps-looked_up office.records site Pm25 valid, are.days site Pm25 day);
    quarters = are.pm25_quarters;
  }

  pub enough-pm10 : IsOffice (office_with office.records) → pm10_bound.AreEnough office pm10 enough
  enough-pm10 valid = record {
    days = λ site day. omega (arith, steps-looked_up office.records site Pm10 valid, are.days site Pm10 day);
    strata = are.strata;
    quarters = are.pm10_quarters;
  }

  -- so many are enough later too
  pub enough-stay : (pm25_after : Days) (pm10_after : Pm10Kept) → pm25_cells.CellsStay office pm25 pm25_after → pm10_cells.CellsStay office pm10 pm10_after
      → AreEnough office pm25_after pm10_after enough
  unfolding pm25_cells.CellsStay pm10_cells.CellsStay
  enough-stay pm25_after pm10_after pm25_stay pm10_stay = record {
    days = are.days;
    strata = are.strata;
    pm25_quarters = λ site quarter few. pm25_stay (QuarterCell site Pm25 quarter) (are.pm25_quarters site quarter few);
    pm10_quarters = λ site quarter few. pm10_stay (QuarterCell site Pm10 quarter) (are.pm10_quarters site quarter few);
  }

-- nothing is kept of a cell in both
pub both-paid : (steps : Cell → ℕ) (cell : Cell) → pm25_bound.own_steps steps cell + pm10_bound.own_steps steps cell ≤ steps cell
unfolding pm25_bound.own_steps pm10_bound.own_steps
both-paid steps (HourCell site hour) = omega arith
both-paid steps (WindowCell site start) = omega arith
both-paid steps (OzoneDayCell site day) = omega arith
both-paid steps (OzoneYearCell site year) = omega arith
both-paid steps (PmDayCell site Ozone day) = omega arith
both-paid steps (PmDayCell site Pm25 day) = omega arith
both-paid steps (PmDayCell site Pm10 day) = omega arith
both-paid steps (StratumCell site first) = omega arith
both-paid steps (QuarterCell site Ozone quarter) = omega arith
both-paid steps (QuarterCell site Pm25 quarter) = omega arith
both-paid steps (QuarterCell site Pm10 quarter) = omega arith
both-paid steps (PmYearCell site year) = omega arith

-- ---- cells that are the office's

pub pm25-same : (office : Office) (days : Days) → pm25_cells.CellsStay office days days
unfolding pm25_cells.CellsStay
pm25-same office days cell of = of

pub pm10-same : (office : Office) (kept : Pm10Kept) → pm10_cells.CellsStay office kept kept
unfolding pm10_cells.CellsStay
pm10-same office kept cell of = of

pub pm25-on : (office : Office) (one two three : Days) → pm25_cells.CellsStay office one two → pm25_cells.CellsStay office two three → pm25_cells.CellsStay office one three
unfolding pm25_cells.CellsStay
pm25-on office one two three a b cell of = b cell (a cell of)

pub pm10-on : (office : Office) (one two three : Pm10Kept) → pm10_cells.CellsStay office one two → pm10_cells.CellsStay office two three → pm10_cells.CellsStay office one three
unfolding pm10_cells.CellsStay
pm10-on office one two three a b cell of = b cell (a cell of)
