-- The cells that are held, as a list.
use Rattle.std.proofs.Common.{◌≡◌, ℕ, ◌+◌, ◌-◌, Bool, true, false, ◌&&◌, ◌||◌, ◌==◌, List, ◌++◌, refl, ap, ◌∙◌, arith}
use Rattle.std.specs.Prelude.{map, nat_le, nat_lt}
use Rattle.std.specs.List.{list_any}
use Rattle.std.proofs.lemmas.Bool.Decides.{nat_tests}
use Rattle.std.proofs.lemmas.List.Folds.{list_any-append}
use Rattle.aq_base.specs.Site.{Site}
use Rattle.aq_rules.specs.Kept.Cells.{CellName as Cell, HourCell, WindowCell, OzoneDayCell, OzoneYearCell, PmDayCell, StratumCell, QuarterCell, PmYearCell, is_same_cell}
use Rattle.aq_rules.specs.Kept.Reach.{from_to}
use Rattle.aq_rules.specs.Office.Monitors.{is_same_site}
use Rattle.aq_registry.proofs.SiteLemmas.{flipped}
use Rattle.aq_dirty.specs.declared.spans.Span.{Span}
use Rattle.aq_dirty.specs.Marked.{cells_in_spans, cells_of, holds_cell, Marked}
use Rattle.aq_dirty.specs.Spans.{covers, holds}
use Rattle.aq_dirty.proofs.Ranges.{any-and, any-false, any-flat_map, any-map, any-number}

through : (f l n : ℕ) (same other : Bool) → same ≡ other → ((nat_le f n && nat_lt n (f + (l + 1 - f))) && same) ≡ (other && nat_le f n && nat_le n l)
through f l n true other e = grind (arith, nat_tests) ∙ ap (λ s. s && nat_le f n && nat_le n l) e
through f l n false other e = none (nat_le f n && nat_lt n (f + (l + 1 - f))) ∙ ap (λ s. s && nat_le f n && nat_le n l) e
  where
    none : (b : Bool) → (b && false) ≡ false
    none true = refl
    none false = refl

-- the numbers of a span
in_span : (site : Site) (number : ℕ) (span : Span) → list_any (λ n. (number == n) && is_same_site site span.site) (from_to span.first span.last) ≡ covers site number span
in_span site number span =
    any-and (λ n. number == n) (is_same_site site span.site) (from_to span.first span.last)
    ∙ ap (λ b. b && is_same_site site span.site) (any-number number span.first (span.last + 1 - span.first))
    ∙ through span.first span.last number _ _ (flipped site span.site)

module _ (test : Cell → Bool) (cell : Site → ℕ → Cell) where
  in_spans : (spans : List Span) → list_any test (cells_in_spans cell spans) ≡ list_any (λ (span : Span). list_any (λ n. test (cell span.site n)) (from_to span.first span.last)) spans
  in_spans spans =
      any-flat_map test (λ (span : Span). map (cell span.site) (from_to span.first span.last)) spans
      ∙ (λ i. list_any (λ (span : Span). any-map test (cell span.site) (from_to span.first span.last) i) spans)

  -- none, if the test passes for no such cell
  pub in_none : (spans : List Span) → ((site : Site) (n : ℕ) → test (cell site n) ≡ false) → list_any test (cells_in_spans cell spans) ≡ false
  in_none spans other =
      in_spans spans
      ∙ (λ i. list_any (λ (span : Span). list_any (λ n. other span.site n i) (from_to span.first span.last)) spans)
      ∙ (λ i. list_any (λ (span : Span). any-false (from_to span.first span.last) i) spans)
      ∙ any-false spans

  -- the number of a site, if the test passes for its cell alone
  pub in_one : (site : Site) (number : ℕ) (spans : List Span) → ((other : Site) (n : ℕ) → test (cell other n) ≡ ((number == n) && is_same_site site other))
      → list_any test (cells_in_spans cell spans) ≡ holds site number spans
  in_one site number spans own =
      in_spans spans
      ∙ (λ i. list_any (λ (span : Span). list_any (λ n. own span.site n i) (from_to span.first span.last)) spans)
      ∙ (λ i. list_any (λ (span : Span). in_span site number span i) spans)

four : (test : Cell → Bool) (a b c d : List Cell) → list_any test (a ++ b ++ c ++ d) ≡ (((list_any test a || list_any test b) || list_any test c) || list_any test d)
four test a b c d =
    list_any-append test (a ++ b ++ c) d
    ∙ ap (λ t. t || list_any test d) (list_any-append test (a ++ b) c)
    ∙ ap (λ t. (t || list_any test c) || list_any test d) (list_any-append test a b)

or_none : (a : Bool) → (a || false) ≡ a
or_none true = refl
or_none false = refl

pub held_cells : (marked : Marked) (cell : Cell) → list_any (is_same_cell cell) (cells_of marked) ≡ holds_cell marked cell
unfolding cells_of
held_cells marked cell =
    four (is_same_cell cell) (cells_in_spans HourCell marked.hours) (cells_in_spans WindowCell marked.windows) (cells_in_spans OzoneDayCell marked.days) (cells_in_spans OzoneYearCell marked.years)
    ∙ each cell
  where
    no_cell : (test : Cell → Bool) → ((site : Site) (n : ℕ) → test (HourCell site n) ≡ false) → ((site : Site) (n : ℕ) → test (WindowCell site n) ≡ false)
        → ((site : Site) (n : ℕ) → test (OzoneDayCell site n) ≡ false) → ((site : Site) (n : ℕ) → test (OzoneYearCell site n) ≡ false)
        → (((list_any test (cells_in_spans HourCell marked.hours) || list_any test (cells_in_spans WindowCell marked.windows)) || list_any test (cells_in_spans OzoneDayCell marked.days)) || list_any test (cells_in_spans OzoneYearCell marked.years)) ≡ false
    no_cell test a b c d = λ i. ((in_none test HourCell marked.hours a i || in_none test WindowCell marked.windows b i) || in_none test OzoneDayCell marked.days c i) || in_none test OzoneYearCell marked.years d i

    each : (cell : Cell) → (((list_any (is_same_cell cell) (cells_in_spans HourCell marked.hours) || list_any (is_same_cell cell) (cells_in_spans WindowCell marked.windows)) || list_any (is_same_cell cell) (cells_in_spans OzoneDayCell marked.days)) || list_any (is_same_cell cell) (cells_in_spans OzoneYearCell marked.years)) ≡ holds_cell marked cell
    each (HourCell site hour) =
        let test = is_same_cell (HourCell site hour) in
        (λ i. ((in_one test HourCell site hour marked.hours (λ _ _. refl) i || in_none test WindowCell marked.windows (λ _ _. refl) i) || in_none test OzoneDayCell marked.days (λ _ _. refl) i) || in_none test OzoneYearCell marked.years (λ _ _. refl) i)
        ∙ or_none _ ∙ or_none _ ∙ or_none _
    each (WindowCell site start) =
        let test = is_same_cell (WindowCell site start) in
        (λ i. ((in_none test HourCell marked.hours (λ _ _. refl) i || in_one test WindowCell site start marked.windows (λ _ _. refl) i) || in_none test OzoneDayCell marked.days (λ _ _. refl) i) || in_none test OzoneYearCell marked.years (λ _ _. refl) i)
        ∙ or_none _ ∙ or_none _
    each (OzoneDayCell site day) =
        let test = is_same_cell (OzoneDayCell site day) in
        (λ i. ((in_none test HourCell marked.hours (λ _ _. refl) i || in_none test WindowCell marked.windows (λ _ _. refl) i) || in_one test OzoneDayCell site day marked.days (λ _ _. refl) i) || in_none test OzoneYearCell marked.years (λ _ _. refl) i)
        ∙ or_none _
    each (OzoneYearCell site year) =
        let test = is_same_cell (OzoneYearCell site year) in
        (λ i. ((in_none test HourCell marked.hours (λ _ _. refl) i || in_none test WindowCell marked.windows (λ _ _. refl) i) || in_none test OzoneDayCell marked.days (λ _ _. refl) i) || in_one test OzoneYearCell site year marked.years (λ _ _. refl) i)
    each (PmDayCell site pollutant day) = no_cell (is_same_cell (PmDayCell site pollutant day)) (λ _ _. refl) (λ _ _. refl) (λ _ _. refl) (λ _ _. refl)
    each (StratumCell site first) = no_cell (is_same_cell (StratumCell site first)) (λ _ _. refl) (λ _ _. refl) (λ _ _. refl) (λ _ _. refl)
    each (QuarterCell site pollutant quarter) = no_cell (is_same_cell (QuarterCell site pollutant quarter)) (λ _ _. refl) (λ _ _. refl) (λ _ _. refl) (λ _ _. refl)
    each (PmYearCell site year) = no_cell (is_same_cell (PmYearCell site year)) (λ _ _. refl) (λ _ _. refl) (λ _ _. refl) (λ _ _. refl)
