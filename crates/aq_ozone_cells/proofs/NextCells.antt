-- The cell that is next, and those that wait behind it.
use Rattle.std.proofs.Common.{◌≡◌, ℕ, ◌≤◌, Bool, true, false, ◌&&◌, not, List, [], ◌∷◌, refl, ap, sym, subst, ◌∙◌, arith}
use Rattle.std.specs.Prelude.{Option, Some, None}
use Rattle.std.proofs.lemmas.Bool.{false≢true}
use Rattle.aq_base.specs.Site.{Site}
use Rattle.aq_base.specs.declared.day.TheConstants.{LAST_DAY}
use Rattle.aq_rules.proofs.CellsOnce.{cell-same}
use Rattle.aq_rules.specs.Kept.Cells.{CellName as Cell, HourCell, WindowCell, OzoneDayCell, OzoneYearCell, is_same_cell}
use Rattle.aq_rules.specs.Office.Office.{Office}
use Rattle.aq_dirty.specs.Marked.{first_or, holds_cell, named, next_in, Marked}
use Rattle.aq_dirty.specs.Spans.{holds}
use Rattle.aq_dirty.specs.declared.cell_name.CellName.{CellName}
use Rattle.aq_dirty.specs.declared.cell_name.CellName.TheVariants.{Hour, Window, OzoneDay, OzoneYear, PmDay, Stratum, Quarter, PmYear}
use Rattle.aq_dirty.specs.declared.spans.Span.{Span}
use Rattle.aq_ozone_cells.specs.OzoneCells.{Cells}
use Rattle.aq_ozone_cells.specs.Settling.{AreBelow, CellsStay, HasMaximumOf, IsAverageOf, IsBroughtUp, IsCellOf, IsHourOf}

-- the level of a cell
abbrev level : Cell → ℕ
level (HourCell site hour) = 0
level (WindowCell site start) = 1
level (OzoneDayCell site day) = 2
level (OzoneYearCell site year) = 3
level cell = 4

abbrev level_or : Option Cell → ℕ → ℕ
level_or (Some cell) other = level cell
level_or None other = other

-- if the next cell is of another level, none of this one waits
first-none : (f : Site → ℕ → Cell) (spans : List Span) (other : Option Cell) (cell : Cell) → Some cell ≡ first_or f spans other
    → ((site : Site) (number : ℕ) → level (f site number) ≡ level cell → ⊥) → (spans ≡ []) × (Some cell ≡ other)
first-none f [] other cell is apart = (refl, is)
first-none f (span ∷ spans) other cell is apart = absurd (apart span.site span.first (sym (ap (λ (o : Option Cell). level_or o 5) is)))

none-held : (spans : List Span) (site : Site) (number : ℕ) → spans ≡ [] → holds site number spans ≡ false
none-held spans site number none = ap (holds site number) none

module _ (office : Office) (cells : Cells) (marked : Marked) (others : (cell : Cell) → holds_cell marked cell ≡ false → IsCellOf office cells cell) where
  hours-are : marked.hours ≡ [] → (site : Site) (hour : ℕ) → IsHourOf office cells site hour
  unfolding IsCellOf
  hours-are none site hour = others (HourCell site hour) (none-held marked.hours site hour none)

  averages-are : marked.windows ≡ [] → (site : Site) (start : ℕ) → IsAverageOf office cells site start
  unfolding IsCellOf
  averages-are none site start = others (WindowCell site start) (none-held marked.windows site start none)

  days-are : marked.days ≡ [] → (site : Site) (day : ℕ) → day ≤ LAST_DAY → HasMaximumOf office cells site day
  unfolding IsCellOf
  days-are none site day = others (OzoneDayCell site day) (none-held marked.days site day none)

  -- the cells below the next one are the office's
  pub below-next : (cell : CellName) → Some (named cell) ≡ next_in marked → AreBelow office cells (named cell)
  unfolding AreBelow
  below-next (Hour site hour) is = tt
  below-next (Window site start) is = hours-are (first-none HourCell marked.hours _ (WindowCell site start) is (λ s n e. omega (arith, e))).0
  below-next (OzoneDay site day) is =
      let later = (first-none HourCell marked.hours _ (OzoneDayCell site day) is (λ s n e. omega (arith, e))).1 in
      averages-are (first-none WindowCell marked.windows _ (OzoneDayCell site day) later (λ s n e. omega (arith, e))).0
  below-next (OzoneYear site year) is =
      let later = (first-none HourCell marked.hours _ (OzoneYearCell site year) is (λ s n e. omega (arith, e))).1 in
      let averages = first-none WindowCell marked.windows _ (OzoneYearCell site year) later (λ s n e. omega (arith, e)) in
      (averages-are averages.0, days-are (first-none OzoneDayCell marked.days _ (OzoneYearCell site year) averages.1 (λ s n e. omega (arith, e))).0)
  below-next (PmDay site pollutant day) is = tt
  below-next (Stratum site first) is = tt
  below-next (Quarter site pollutant quarter) is = tt
  below-next (PmYear site year) is = tt

  -- without the next one, once it is the office's
  pub others-next : (after : Cells) (left : Marked) (cell : Cell) → IsBroughtUp office cells after cell
      → ((other : Cell) → holds_cell left other ≡ (holds_cell marked other && not (is_same_cell cell other)))
      → (other : Cell) → holds_cell left other ≡ false → IsCellOf office after other
  unfolding CellsStay
  others-next after left cell up drops other free = by (holds_cell marked other) (is_same_cell cell other) refl refl (sym (drops other) ∙ free)
    where
      by : (h s : Bool) → holds_cell marked other ≡ h → is_same_cell cell other ≡ s → (h && not s) ≡ false → IsCellOf office after other
      by false s held same none = up.stay other (others other held)
      by true true held same none = subst (IsCellOf office after) (cell-same cell other same) up.now
      by true false held same none = absurd (false≢true (sym none))

-- ---- the cell that is brought up to date

module _ (office : Office) (cells : Cells) (cell : CellName) (below : AreBelow office cells (named cell)) where
  pub below-window : (site : Site) (start : ℕ) → cell ≡ Window site start → (other : Site) (hour : ℕ) → IsHourOf office cells other hour
  unfolding AreBelow
  below-window site start is = subst (λ c. AreBelow office cells (named c)) is below

  pub below-day : (site : Site) (day : ℕ) → cell ≡ OzoneDay site day → (other : Site) (start : ℕ) → IsAverageOf office cells other start
  unfolding AreBelow
  below-day site day is = subst (λ c. AreBelow office cells (named c)) is below

  pub below-year : (site : Site) (year : ℕ) → cell ≡ OzoneYear site year
      → ((other : Site) (start : ℕ) → IsAverageOf office cells other start) × ((other : Site) (day : ℕ) → day ≤ LAST_DAY → HasMaximumOf office cells other day)
  unfolding AreBelow
  below-year site year is = subst (λ c. AreBelow office cells (named c)) is below

-- a cell of particles
pub no-ozone : (office : Office) (cells : Cells) (cell : CellName) → ((s : Site) (h : ℕ) → cell ≡ Hour s h → ⊥) → ((s : Site) (h : ℕ) → cell ≡ Window s h → ⊥)
    → ((s : Site) (d : ℕ) → cell ≡ OzoneDay s d → ⊥) → ((s : Site) (y : ℕ) → cell ≡ OzoneYear s y → ⊥) → IsCellOf office cells (named cell)
unfolding IsCellOf
no-ozone office cells (Hour s h) a b c d = absurd (a s h refl)
no-ozone office cells (Window s h) a b c d = absurd (b s h refl)
no-ozone office cells (OzoneDay s n) a b c d = absurd (c s n refl)
no-ozone office cells (OzoneYear s y) a b c d = absurd (d s y refl)
no-ozone office cells (PmDay s p n) a b c d = tt
no-ozone office cells (Stratum s n) a b c d = tt
no-ozone office cells (Quarter s p n) a b c d = tt
no-ozone office cells (PmYear s n) a b c d = tt
