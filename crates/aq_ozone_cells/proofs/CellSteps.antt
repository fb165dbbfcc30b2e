-- The steps of the cells that wait, once some of them are dropped.
use Rattle.std.proofs.Common.{◌≡◌, ℕ, zero, suc, ◌+◌, ◌*◌, ◌<◌, ◌≤◌, Bool, true, false, cond, not, ◌&&◌, ◌||◌, List, [], ◌∷◌, refl, sym, ap, subst, ◌∙◌, arith}
use Rattle.std.specs.Prelude.{◌==◌, Option, IfSome, nat_le, nat_lt}
use Rattle.std.specs.List.{filter}
use Rattle.std.proofs.Math.Bool.{and-false}
use Rattle.std.proofs.lemmas.Bool.{and_parts, false≢true}
use Rattle.std.proofs.lemmas.Bool.Decides.{nat_tests}
use Rattle.aq_base.specs.Site.{Site}
use Rattle.aq_dirty.proofs.Members.{held_cells}
use Rattle.aq_dirty.specs.Marked.{cells_of, first_hours_in, holds_cell, is_hour_in, Marked}
use Rattle.aq_dirty.specs.declared.dirty.HourSpan.{HourSpan}
use Rattle.aq_rules.proofs.CellsOnce.{cell-same, member, weight, weight-same, weight-settled}
use Rattle.aq_rules.specs.Kept.Cells.{CellName as Cell, HourCell, WindowCell, OzoneDayCell, OzoneYearCell, PmDayCell, StratumCell, QuarterCell, PmYearCell, is_same_cell}
use Rattle.aq_rules.specs.Office.Monitors.{is_same_site}
use Rattle.aq_rules.specs.Office.Office.{Office}
use Rattle.aq_rules.specs.Office.Sameness.{same_site}
use Rattle.aq_ozone_cells.specs.Bound.{steps_for, AreEnough, IsBegun}
use Rattle.aq_ozone_cells.specs.OzoneCells.{Cells}
use Rattle.aq_ozone_cells.specs.Settling.{is_of_week, CellsStay, IsCellOf}
use Rattle.aq_ozone_cells.specs.declared.filling.Week.{Week}

-- ---- a cell less

abbrev without : Cell → List Cell → List Cell
without c cells = filter (λ d. not (is_same_cell c d)) cells

member-without : (e c : Cell) (cells : List Cell) → member e (without c cells) ≡ (member e cells && not (is_same_cell c e))
member-without e c [] = refl
member-without e c (d ∷ ds) = by (is_same_cell c d) (is_same_cell e d) refl refl (member-without e c ds)
  where
    by : (p q : Bool) → is_same_cell c d ≡ p → is_same_cell e d ≡ q → member e (without c ds) ≡ (member e ds && not (is_same_cell c e))
        → member e (cond (not p) (d ∷ without c ds) (without c ds)) ≡ ((q || member e ds) && not (is_same_cell c e))
    by true true is also rest =
        let same : is_same_cell c e ≡ true = subst (λ x. is_same_cell c x ≡ true) (sym (cell-same e d also)) is in
        rest ∙ rw same (and-false (member e ds))
    by true false is also rest = rest
    by false true is also rest =
        let apart : is_same_cell c e ≡ false = subst (λ x. is_same_cell c x ≡ false) (sym (cell-same e d also)) is in
        rw (also, apart) refl
    by false false is also rest = rw also rest

pub one-less : (steps : Cell → ℕ) (marked left : Marked) (cell : Cell) → holds_cell marked cell ≡ true
    → ((other : Cell) → holds_cell left other ≡ (holds_cell marked other && not (is_same_cell cell other)))
    → steps_for steps marked ≡ steps cell + steps_for steps left
unfolding steps_for
one-less steps marked left cell held drops =
    weight-settled steps cell (cells_of marked) (cells_of left) (held_cells marked cell ∙ held)
    (λ other. held_cells left other ∙ drops other ∙ ap (λ b. b && not (is_same_cell cell other)) (sym (held_cells marked other)))

-- a cell that waits has its steps among those of all
pub one-least : (steps : Cell → ℕ) (marked : Marked) (cell : Cell) → holds_cell marked cell ≡ true → steps cell ≤ steps_for steps marked
unfolding steps_for
one-least steps marked cell held =
    let less = weight-settled steps cell (cells_of marked) (without cell (cells_of marked)) (held_cells marked cell ∙ held) (λ other. member-without other cell (cells_of marked)) in
    omega (arith, less)

-- ---- hours less

-- the first of some hours, and those behind it
hours-apart : (site : Site) (first n : ℕ) (cell : Cell) → is_hour_in site first (suc n) cell ≡ (is_same_cell (HourCell site first) cell || is_hour_in site (first + 1) n cell)
hours-apart site first n (HourCell other hour) = by (is_same_site site other)
  where
    by : (same : Bool) → ((same && nat_le first hour) && nat_lt hour (first + suc n)) ≡ (((first == hour) && same) || ((same && nat_le (first + 1) hour) && nat_lt hour (first + 1 + n)))
    by true = grind (arith, nat_tests)
    by false = sym (ap (λ b. b || false) (and-false (first == hour)))
hours-apart site first n (WindowCell other start) = refl
hours-apart site first n (OzoneDayCell other day) = refl
hours-apart site first n (OzoneYearCell other year) = refl
hours-apart site first n (PmDayCell other pollutant day) = refl
hours-apart site first n (StratumCell other day) = refl
hours-apart site first n (QuarterCell other pollutant quarter) = refl
hours-apart site first n (PmYearCell other year) = refl

no-hours : (site : Site) (first : ℕ) (cell : Cell) → is_hour_in site first 0 cell ≡ false
no-hours site first (HourCell other hour) = by (is_same_site site other)
  where
    by : (same : Bool) → ((same && nat_le first hour) && nat_lt hour (first + 0)) ≡ false
    by true = grind (arith, nat_tests)
    by false = refl
no-hours site first (WindowCell other start) = refl
no-hours site first (OzoneDayCell other day) = refl
no-hours site first (OzoneYearCell other year) = refl
no-hours site first (PmDayCell other pollutant day) = refl
no-hours site first (StratumCell other day) = refl
no-hours site first (QuarterCell other pollutant quarter) = refl
no-hours site first (PmYearCell other year) = refl

and-all : (b : Bool) → (b && not false) ≡ b
and-all true = refl
and-all false = refl

and-neither : (a b c : Bool) → (a && not (b || c)) ≡ ((a && not b) && not c)
and-neither true true c = refl
and-neither true false c = refl
and-neither false b c = refl

later : (first hour : ℕ) → first + 1 ≤ hour → (first == hour) ≡ false
later first hour low = grind (arith, nat_tests)

module _ (steps : Cell → ℕ) (enough : (site : Site) (hour : ℕ) → 40 ≤ steps (HourCell site hour)) where
  hours-weigh : (site : Site) (n first : ℕ) (all left : List Cell)
      → ((hour : ℕ) → first ≤ hour → hour < first + n → member (HourCell site hour) all ≡ true)
      → ((cell : Cell) → member cell left ≡ (member cell all && not (is_hour_in site first n cell)))
      → 40 * n + weight steps left ≤ weight steps all
  hours-weigh site zero first all left held drops =
      let same = weight-same steps all left (λ cell. sym (drops cell ∙ ap (λ b. member cell all && not b) (no-hours site first cell) ∙ and-all (member cell all))) in
      omega (arith, same)
  hours-weigh site (suc n) first all left held drops =
      let one = HourCell site first in
      let rest = without one all in
      let less = weight-settled steps one all rest (held first (omega arith) (omega arith)) (λ cell. member-without cell one all) in
      let more = hours-weigh site n (first + 1) rest left
      (λ hour low high.
      member-without (HourCell site hour) one all
      ∙ (λ i. held hour (omega (arith, low)) (omega (arith, high)) i && not (later first hour low i && is_same_site site site)))
      (λ cell.
      drops cell ∙ ap (λ b. member cell all && not b) (hours-apart site first n cell)
      ∙ and-neither (member cell all) (is_same_cell one cell) (is_hour_in site (first + 1) n cell)
      ∙ ap (λ b. b && not (is_hour_in site (first + 1) n cell)) (sym (member-without cell one all))) in
      omega (arith, less, more, enough site first)

  -- the hours that wait have their steps among those of all
  hours-weigh-least : (site : Site) (n first : ℕ) (all : List Cell) → ((hour : ℕ) → first ≤ hour → hour < first + n → member (HourCell site hour) all ≡ true) → 40 * n ≤ weight steps all
  hours-weigh-least site zero first all held = omega arith
  hours-weigh-least site (suc n) first all held =
      let one = HourCell site first in
      let rest = without one all in
      let less = weight-settled steps one all rest (held first (omega arith) (omega arith)) (λ cell. member-without cell one all) in
      let more = hours-weigh-least site n (first + 1) rest
      (λ hour low high.
      member-without (HourCell site hour) one all
      ∙ (λ i. held hour (omega (arith, low)) (omega (arith, high)) i && not (later first hour low i && is_same_site site site))) in
      omega (arith, less, more, enough site first)

  pub hours-least : (marked : Marked) (site : Site) (first n : ℕ) → ((hour : ℕ) → first ≤ hour → hour < first + n → holds_cell marked (HourCell site hour) ≡ true)
      → 40 * n ≤ steps_for steps marked
  unfolding steps_for
  hours-least marked site first n held = hours-weigh-least site n first (cells_of marked) (λ hour low high. held_cells marked (HourCell site hour) ∙ held hour low high)

  pub hours-less : (marked left : Marked) (site : Site) (first n : ℕ)
      → ((hour : ℕ) → first ≤ hour → hour < first + n → holds_cell marked (HourCell site hour) ≡ true)
      → ((cell : Cell) → holds_cell left cell ≡ (holds_cell marked cell && not (is_hour_in site first n cell)))
      → 40 * n + steps_for steps left ≤ steps_for steps marked
  unfolding steps_for
  hours-less marked left site first n held drops =
      hours-weigh site n first (cells_of marked) (cells_of left)
      (λ hour low high. held_cells marked (HourCell site hour) ∙ held hour low high)
      (λ cell. held_cells left cell ∙ drops cell ∙ ap (λ b. b && not (is_hour_in site first n cell)) (sym (held_cells marked cell)))

-- fewer cells wait, each counted as forty
pub fewer-one : (marked left : Marked) (cell : Cell) → holds_cell marked cell ≡ true
    → ((other : Cell) → holds_cell left other ≡ (holds_cell marked other && not (is_same_cell cell other)))
    → steps_for (λ (_ : Cell). 40) left < steps_for (λ (_ : Cell). 40) marked
fewer-one marked left cell held drops = let one = one-less (λ (_ : Cell). 40) marked left cell held drops in omega (arith, one)

-- ---- a week that is filled while its hours wait

pub week-least : (marked : Marked) (week : Week) → IsBegun marked week → (steps : Cell → ℕ) → ((site : Site) (hour : ℕ) → 40 ≤ steps (HourCell site hour)) → 1920 ≤ steps_for steps marked
week-least marked week begun steps enough = let least = hours-least steps enough marked begun.hours.site begun.hours.first 48 begun.held in omega (arith, least)

module _ (marked left : Marked) (week : Week) (begun : IsBegun marked week)
    (dropped : IfSome (first_hours_in marked) (λ (hours : HourSpan). (cell : Cell) → holds_cell left cell ≡ (holds_cell marked cell && not (is_hour_in hours.site hours.first 48 cell)))) where
  drops : (cell : Cell) → holds_cell left cell ≡ (holds_cell marked cell && not (is_hour_in begun.hours.site begun.hours.first 48 cell))
  drops = subst (λ (o : Option HourSpan). IfSome o (λ (hours : HourSpan). (cell : Cell) → holds_cell left cell ≡ (holds_cell marked cell && not (is_hour_in hours.site hours.first 48 cell)))) begun.first dropped

  -- its two days pay for it
  pub week-paid : (steps : Cell → ℕ) → ((site : Site) (hour : ℕ) → 40 ≤ steps (HourCell site hour)) → 1920 + steps_for steps left ≤ steps_for steps marked
  week-paid steps enough = let paid = hours-less steps enough marked left begun.hours.site begun.hours.first 48 begun.held drops in omega (arith, paid)

  -- and fewer cells wait
  pub week-fewer : steps_for (λ (_ : Cell). 40) left < steps_for (λ (_ : Cell). 40) marked
  week-fewer = let paid = week-paid (λ (_ : Cell). 40) (λ site hour. omega arith) in omega (arith, paid)

  first-two : (other : Cell) → is_hour_in begun.hours.site begun.hours.first 48 other ≡ true → is_of_week week other ≡ true
  first-two (HourCell other hour) is =
      let parts = and_parts (is_same_site begun.hours.site other && nat_le begun.hours.first hour) (nat_lt hour (begun.hours.first + 48)) is in
      let more = and_parts (is_same_site begun.hours.site other) (nat_le begun.hours.first hour) parts.0 in
      let low : begun.hours.first ≤ hour = grind (arith, nat_tests, more.1) in
      let high : hour < begun.hours.first + 48 = grind (arith, nat_tests, parts.1) in
      subst (λ (s : Site). is_of_week week (HourCell s hour) ≡ true) (same_site begun.hours.site other more.0) (begun.of_week hour low high)
  first-two (WindowCell other start) is = absurd (false≢true is)
  first-two (OzoneDayCell other day) is = absurd (false≢true is)
  first-two (OzoneYearCell other year) is = absurd (false≢true is)
  first-two (PmDayCell other pollutant day) is = absurd (false≢true is)
  first-two (StratumCell other day) is = absurd (false≢true is)
  first-two (QuarterCell other pollutant quarter) is = absurd (false≢true is)
  first-two (PmYearCell other year) is = absurd (false≢true is)

  pub others-week : (office : Office) (before after : Cells) → ((cell : Cell) → holds_cell marked cell ≡ false → IsCellOf office before cell)
      → CellsStay office before after → ((cell : Cell) → is_of_week week cell ≡ true → IsCellOf office after cell)
      → (other : Cell) → holds_cell left other ≡ false → IsCellOf office after other
  unfolding CellsStay
  others-week office before after others stay filled other free =
      by (holds_cell marked other) (is_hour_in begun.hours.site begun.hours.first 48 other) refl refl (sym (drops other) ∙ free)
    where
      by : (h s : Bool) → holds_cell marked other ≡ h → is_hour_in begun.hours.site begun.hours.first 48 other ≡ s → (h && not s) ≡ false → IsCellOf office after other
      by false s held same none = stay other (others other held)
      by true true held same none = filled other (first-two other same)
      by true false held same none = absurd (false≢true (sym none))

-- ---- so many steps are enough

-- so many are enough later too
pub enough-stay : (office : Office) (before after : Cells) (enough : Cell → ℕ) → CellsStay office before after → AreEnough office before enough → AreEnough office after enough
unfolding CellsStay
enough-stay office before after enough stay are = record {
  hours = are.hours;
  averages = are.averages;
  days = are.days;
  years = λ site year few. stay (OzoneYearCell site year) (are.years site year few);
}

-- cells stay over two changes
pub stay-on : (office : Office) (one two three : Cells) → CellsStay office one two → CellsStay office two three → CellsStay office one three
unfolding CellsStay
stay-on office one two three a b cell of = b cell (a cell of)

pub stay-same : (office : Office) (cells : Cells) → CellsStay office cells cells
unfolding CellsStay
stay-same office cells cell of = of
