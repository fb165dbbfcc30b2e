-- Sums over cells, each counted once: lists with the same cells have the same sum, and without one of its cells a list has that cell's part less.
use Rattle.std.proofs.Common.{◌≡◌, ℕ, ◌+◌, Bool, true, false, cond, not, ◌&&◌, ◌||◌, List, [], ◌∷◌, refl, sym, ap, ◌∙◌, subst, arith}
use Rattle.std.specs.Prelude.{sum_by, ◌==◌}
use Rattle.std.specs.List.{list_any, filter}
use Rattle.std.proofs.Math.Bool.{and-false, and-true}
use Rattle.std.proofs.lemmas.Bool.{false≢true, and_parts, and_from, eqb-true}
use Rattle.std.proofs.lemmas.List.Sums.{sum_by-cons}
use Rattle.aq_base.specs.Site.{Site}
use Rattle.aq_base.specs.declared.monitor.Pollutant.{Pollutant}
use Rattle.aq_rules.specs.Office.Monitors.{is_same_site, is_same_pollutant}
use Rattle.aq_rules.specs.Office.Sameness.{same_site, same_pollutant, number_itself, site_itself, pollutant_itself}
use Rattle.aq_rules.specs.Kept.Cells.{CellName, HourCell, WindowCell, OzoneDayCell, OzoneYearCell, PmDayCell, StratumCell, QuarterCell, PmYearCell, is_same_cell}
use Rattle.aq_rules.specs.Kept.Reach.{with_cell, each_once}

-- ---- one cell, one name

pub cell-itself : (c : CellName) → is_same_cell c c ≡ true
cell-itself (HourCell site hour) = and_from _ _ (number_itself hour) (site_itself site)
cell-itself (WindowCell site start) = and_from _ _ (number_itself start) (site_itself site)
cell-itself (OzoneDayCell site day) = and_from _ _ (number_itself day) (site_itself site)
cell-itself (OzoneYearCell site year) = and_from _ _ (number_itself year) (site_itself site)
cell-itself (PmDayCell site p day) = and_from _ _ (and_from _ _ (number_itself day) (site_itself site)) (pollutant_itself p)
cell-itself (StratumCell site first) = and_from _ _ (number_itself first) (site_itself site)
cell-itself (QuarterCell site p quarter) = and_from _ _ (and_from _ _ (number_itself quarter) (site_itself site)) (pollutant_itself p)
cell-itself (PmYearCell site year) = and_from _ _ (number_itself year) (site_itself site)

of_site : (make : Site → ℕ → CellName) (s t : Site) (m n : ℕ) → ((m == n) && is_same_site s t) ≡ true → make s m ≡ make t n
of_site make s t m n is =
    let p = and_parts (m == n) (is_same_site s t) is in
    λ i. make (same_site s t p.1 i) (eqb-true m n p.0 i)

of_series : (make : Site → Pollutant → ℕ → CellName) (s t : Site) (p q : Pollutant) (m n : ℕ) → ((m == n) && is_same_site s t && is_same_pollutant p q) ≡ true → make s p m ≡ make t q n
of_series make s t p q m n is =
    let a = and_parts ((m == n) && is_same_site s t) (is_same_pollutant p q) is in
    let b = and_parts (m == n) (is_same_site s t) a.0 in
    λ i. make (same_site s t b.1 i) (same_pollutant p q a.1 i) (eqb-true m n b.0 i)

pub cell-same : (a b : CellName) → is_same_cell a b ≡ true → a ≡ b
cell-same (HourCell s m) (HourCell t n) is = of_site HourCell s t m n is
cell-same (WindowCell s m) (WindowCell t n) is = of_site WindowCell s t m n is
cell-same (OzoneDayCell s m) (OzoneDayCell t n) is = of_site OzoneDayCell s t m n is
cell-same (OzoneYearCell s m) (OzoneYearCell t n) is = of_site OzoneYearCell s t m n is
cell-same (PmDayCell s p m) (PmDayCell t q n) is = of_series PmDayCell s t p q m n is
cell-same (StratumCell s m) (StratumCell t n) is = of_site StratumCell s t m n is
cell-same (QuarterCell s p m) (QuarterCell t q n) is = of_series QuarterCell s t p q m n is
cell-same (PmYearCell s m) (PmYearCell t n) is = of_site PmYearCell s t m n is
cell-same a b is = absurd (false≢true is)

other_way : (c d : CellName) → is_same_cell c d ≡ false → is_same_cell d c ≡ false
other_way c d apart = by (is_same_cell d c) refl
  where
    by : (b : Bool) → is_same_cell d c ≡ b → b ≡ false
    by true is = absurd (false≢true (sym apart ∙ subst (λ e. is_same_cell c e ≡ true) (sym (cell-same d c is)) (cell-itself c)))
    by false is = refl

-- ---- cells of a list

abbrev pub member : CellName → List CellName → Bool
member c cells = list_any (is_same_cell c) cells

member-itself : (c : CellName) (cells : List CellName) → member c (c ∷ cells) ≡ true
member-itself c cells = rw (cell-itself c) refl

member-with : (c d : CellName) (cells : List CellName) → member c (with_cell d cells) ≡ (is_same_cell c d || member c cells)
member-with c d cells = by (member d cells) refl
  where
    same_or : (b : Bool) → is_same_cell c d ≡ b → member d cells ≡ true → member c cells ≡ (b || member c cells)
    same_or true is there = subst (λ e. member e cells ≡ true) (sym (cell-same c d is)) there
    same_or false is there = refl

    by : (b : Bool) → member d cells ≡ b → member c (cond b cells (d ∷ cells)) ≡ (is_same_cell c d || member c cells)
    by true there = same_or (is_same_cell c d) refl there
    by false new = refl

pub member-once : (c : CellName) (cells : List CellName) → member c (each_once cells) ≡ member c cells
unfolding each_once
member-once c [] = refl
member-once c (d ∷ cells) = member-with c d (each_once cells) ∙ ap (λ b. is_same_cell c d || b) (member-once c cells)

abbrev without : CellName → List CellName → List CellName
without c cells = filter (λ d. not (is_same_cell c d)) cells

member-without : (e c : CellName) (cells : List CellName) → member e (without c cells) ≡ (member e cells && not (is_same_cell c e))
member-without e c [] = refl
member-without e c (d ∷ ds) = by (is_same_cell c d) (is_same_cell e d) refl refl (member-without e c ds)
  where
    by : (p q : Bool) → is_same_cell c d ≡ p → is_same_cell e d ≡ q → member e (without c ds) ≡ (member e ds && not (is_same_cell c e))
        → member e (cond (not p) (d ∷ without c ds) (without c ds)) ≡ ((q || member e ds) && not (is_same_cell c e))
    by true true is also rest =
        let same : is_same_cell c e ≡ true = subst (λ x. is_same_cell c x ≡ true) (sym (cell-same e d also)) is in
        rest ∙ rw same (and-false (member e ds))
    by true false is also rest = rest
    by false true is also rest =
        let apart : is_same_cell c e ≡ false = subst (λ x. is_same_cell c x ≡ false) (sym (cell-same e d also)) is in
        rw (also, apart) refl
    by false false is also rest = rw also rest

-- ---- their weight

module _ (f : CellName → ℕ) where
  -- each cell's part once
  abbrev pub weight : List CellName → ℕ
  weight cells = sum_by f (each_once cells)

  with-there : (c : CellName) (cells : List CellName) → member c cells ≡ true → with_cell c cells ≡ cells
  with-there c cells there = rw there refl

  with-new : (c : CellName) (cells : List CellName) → member c cells ≡ false → sum_by f (with_cell c cells) ≡ f c + sum_by f cells
  with-new c cells new = rw new (sum_by-cons f c cells)

  weight-there : (c : CellName) (cells : List CellName) → member c cells ≡ true → weight (c ∷ cells) ≡ weight cells
  unfolding each_once
  weight-there c cells there = ap (sum_by f) (with-there c (each_once cells) (member-once c cells ∙ there))

  weight-new : (c : CellName) (cells : List CellName) → member c cells ≡ false → weight (c ∷ cells) ≡ f c + weight cells
  unfolding each_once
  weight-new c cells new = with-new c (each_once cells) (member-once c cells ∙ new)

  -- a cell's part of the weight
  abbrev part : Bool → ℕ → ℕ
  part true n = n
  part false n = 0

  weight-without : (c : CellName) (cells : List CellName) → weight cells ≡ part (member c cells) (f c) + weight (without c cells)
  unfolding each_once
  weight-without c [] = refl
  weight-without c (d ∷ ds) = by (is_same_cell c d) (member d ds) refl refl (weight-without c ds)
    where
      by : (p q : Bool) → is_same_cell c d ≡ p → member d ds ≡ q → weight ds ≡ part (member c ds) (f c) + weight (without c ds)
          → weight (d ∷ ds) ≡ part (p || member c ds) (f c) + weight (cond (not p) (d ∷ without c ds) (without c ds))
      by true true is there rest =
          let has : member c ds ≡ true = subst (λ x. member x ds ≡ true) (sym (cell-same c d is)) there in
          weight-there d ds there ∙ rest ∙ ap (λ b. part b (f c) + weight (without c ds)) has
      by true false is new rest =
          let lacks : member c ds ≡ false = subst (λ x. member x ds ≡ false) (sym (cell-same c d is)) new in
          let others : weight ds ≡ 0 + weight (without c ds) = rest ∙ ap (λ b. part b (f c) + weight (without c ds)) lacks in
          let none : weight ds ≡ weight (without c ds) = omega (arith, others) in
          weight-new d ds new ∙ ap (λ n. f d + n) none ∙ ap (λ x. f x + weight (without c ds)) (sym (cell-same c d is))
      by false true is there rest =
          let still : member d (without c ds) ≡ true = member-without d c ds ∙ rw (there, is) refl in
          weight-there d ds there ∙ rest ∙ ap (λ n. part (member c ds) (f c) + n) (sym (weight-there d (without c ds) still))
      by false false is new rest =
          let still : member d (without c ds) ≡ false = member-without d c ds ∙ rw new refl in
          let a = weight-new d ds new in
          let b = weight-new d (without c ds) still in
          omega (arith, a, b, rest)

  -- lists with the same cells weigh the same
  pub weight-same : (xs ys : List CellName) → ((c : CellName) → member c xs ≡ member c ys) → weight xs ≡ weight ys
  weight-same [] [] same = refl
  weight-same [] (y ∷ ys) same = absurd (false≢true (same y ∙ member-itself y ys))
  weight-same (x ∷ xs) ys same = by (member x xs) refl (weight-same xs)
    where
      joined : (c : CellName) (b : Bool) → is_same_cell c x ≡ b → member x xs ≡ true → member c xs ≡ (b || member c xs)
      joined c true is there = subst (λ e. member e xs ≡ true) (sym (cell-same c x is)) there
      joined c false is there = refl

      apart : (c : CellName) (b : Bool) → is_same_cell x c ≡ b → member x xs ≡ false → member c xs ≡ ((is_same_cell c x || member c xs) && not b)
      apart c true is new = subst (λ e. member e xs ≡ false) (cell-same x c is) new ∙ sym (and-false (is_same_cell c x || member c xs))
      apart c false is new = rw (other_way x c is) (sym (and-true (member c xs)))

      by : (b : Bool) → member x xs ≡ b → ((zs : List CellName) → ((c : CellName) → member c xs ≡ member c zs) → weight xs ≡ weight zs) → weight (x ∷ xs) ≡ weight ys
      by true there rest = weight-there x xs there ∙ rest ys (λ c. joined c (is_same_cell c x) refl there ∙ same c)
      by false new rest =
          let has : member x ys ≡ true = sym (same x) ∙ member-itself x xs in
          let parts : weight ys ≡ f x + weight (without x ys) = weight-without x ys ∙ ap (λ b. part b (f x) + weight (without x ys)) has in
          weight-new x xs new
          ∙ ap (λ n. f x + n) (rest (without x ys) (λ c. apart c (is_same_cell x c) refl new ∙ ap (λ b. b && not (is_same_cell x c)) (same c) ∙ sym (member-without c x ys)))
          ∙ sym parts

  -- a cell less is its part less
  pub weight-settled : (x : CellName) (xs ys : List CellName) → member x xs ≡ true → ((c : CellName) → member c ys ≡ (member c xs && not (is_same_cell x c)))
      → weight xs ≡ f x + weight ys
  weight-settled x xs ys there less =
      weight-without x xs ∙ ap (λ b. part b (f x) + weight (without x xs)) there
      ∙ ap (λ n. f x + n) (weight-same (without x xs) ys (λ c. member-without c x xs ∙ sym (less c)))
