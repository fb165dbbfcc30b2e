-- Lists of cells that have all cells of others; if a list has them all, its sum is at least theirs, each cell counted once.
use Rattle.std.proofs.Common.{◌≡◌, ℕ, zero, suc, ◌+◌, ◌*◌, ◌<◌, ◌≤◌, Bool, true, false, cond, ◌||◌, List, [], ◌∷◌, ◌++◌, map, length, ⊎_elim, refl, sym, ap, subst, ◌∙◌, arith}
use Rattle.std.specs.Prelude.{flat_map, sum_by}
use Rattle.std.specs.List.{range_with_len}
use Rattle.std.proofs.Math.Bool.{or-false, or-true}
use Rattle.std.proofs.lemmas.Bool.{cases_Bool, cases_lt, false≢true, or_cases}
use Rattle.std.proofs.lemmas.List.Folds.{list_any-append}
use Rattle.std.proofs.lemmas.List.Sums.{sum_by-cons}
use Rattle.aq_rules.proofs.CellsOnce.{cell-itself, cell-same, member, weight, weight-same}
use Rattle.aq_rules.specs.Kept.Cells.{CellName, is_same_cell}
use Rattle.aq_rules.specs.Kept.Reach.{each_once}

-- ---- lists that have all cells of others

abbrev In : List CellName → CellName → Type 0
In cells c = member c cells ≡ true

abbrev pub Within : List CellName → List CellName → Type 0
Within xs zs = (c : CellName) → In xs c → In zs c

module _ (xs ys : List CellName) where
  in-front : Within xs (xs ++ ys)
  in-front c has = list_any-append (is_same_cell c) xs ys ∙ ap (λ b. b || member c ys) has

  behind : Within ys (xs ++ ys)
  behind c has = list_any-append (is_same_cell c) xs ys ∙ ap (λ b. member c xs || b) has ∙ or-true (member c xs)

  pub both-within : (zs : List CellName) → Within xs zs → Within ys zs → Within (xs ++ ys) zs
  both-within zs front back c has =
      ⊎_elim (front c) (back c) (or_cases (member c xs) (member c ys) (sym (list_any-append (is_same_cell c) xs ys) ∙ has))

pub joined-within : (xs ys more rest : List CellName) → Within xs more → Within ys rest → Within (xs ++ ys) (more ++ rest)
joined-within xs ys more rest front back =
    both-within xs ys (more ++ rest) (λ c has. in-front more rest c (front c has)) (λ c has. behind more rest c (back c has))

one-within : (x : CellName) (zs : List CellName) → In zs x → Within (x ∷ []) zs
one-within x zs has c is = subst (In zs) (sym (cell-same c x (sym (or-false (is_same_cell c x)) ∙ is))) has

module _ (make : ℕ → CellName) where
  in-range : (k a n : ℕ) → a ≤ k → k < a + n → In (map make (range_with_len a n)) (make k)
  in-range k a zero low high = absurd (omega arith)
  in-range k a (suc n) low high = ⊎_elim
      (λ later. behind (make a ∷ []) (map make (range_with_len (a + 1) n)) (make k) (in-range k (a + 1) n (omega arith) (omega arith)))
      (λ first.
      let same : a ≡ k = omega arith in
      let itself : In (make k ∷ []) (make k) = ap (λ b. b || false) (cell-itself (make k)) in
      in-front (make a ∷ []) (map make (range_with_len (a + 1) n)) (make k) (subst (λ h. In (make h ∷ []) (make k)) (sym same) itself))
      (cases_lt a k)

  -- those of a range, in a range that holds it
  pub range-within : (a n b m : ℕ) → b ≤ a → a + n ≤ b + m → Within (map make (range_with_len a n)) (map make (range_with_len b m))
  range-within a zero b m low high = λ c has. absurd (false≢true has)
  range-within a (suc n) b m low high =
      let all = map make (range_with_len b m) in
      both-within (make a ∷ []) (map make (range_with_len (a + 1) n)) all
      (one-within (make a) all (in-range a b m low (omega arith))) (range-within (a + 1) n b m (omega arith) (omega arith))

pub each-within : (f : ℕ → List CellName) (zs : List CellName) (a n : ℕ) → ((k : ℕ) → a ≤ k → k < a + n → Within (f k) zs) → Within (flat_map f (range_with_len a n)) zs
each-within f zs a zero each = λ c has. absurd (false≢true has)
each-within f zs a (suc n) each =
    both-within (f a) (flat_map f (range_with_len (a + 1) n)) zs
    (each a (omega arith) (omega arith)) (each-within f zs (a + 1) n (λ k low high. each k (omega arith) (omega arith)))

-- ---- their sums

module _ (f : CellName → ℕ) where
  one-more : (b : Bool) (c : CellName) (cells : List CellName)
      → (sum_by f cells ≤ sum_by f (cond b cells (c ∷ cells))) × (sum_by f (cond b cells (c ∷ cells)) ≤ f c + sum_by f cells)
  one-more true c cells = (omega arith, omega arith)
  one-more false c cells = let more = sum_by-cons f c cells in (omega (arith, more), omega (arith, more))

  weighs-more : (xs ys : List CellName) → weight f ys ≤ weight f (xs ++ ys)
  unfolding each_once
  weighs-more [] ys = omega arith
  weighs-more (x ∷ xs) ys =
      let cells = each_once (xs ++ ys) in
      omega (arith, (one-more (member x cells) x cells).0, weighs-more xs ys)

  weighs-its-sum : (xs : List CellName) → weight f xs ≤ sum_by f xs
  unfolding each_once
  weighs-its-sum [] = omega arith
  weighs-its-sum (x ∷ xs) =
      let cells = each_once xs in
      omega (arith, (one-more (member x cells) x cells).1, weighs-its-sum xs, sum_by-cons f x xs)

  pub weighs-within : (xs zs : List CellName) → Within xs zs → weight f xs ≤ sum_by f zs
  weighs-within xs zs within =
      let same = weight-same f (zs ++ xs) zs (λ c.
      list_any-append (is_same_cell c) zs xs
      ∙ ⊎_elim (λ has. rw (has, within c has) refl) (λ lacks. rw lacks (or-false (member c zs))) (cases_Bool (member c xs)))
      in
      omega (arith, weighs-more zs xs, same, weighs-its-sum zs)

  pub sum-made : (make : ℕ → CellName) (m : ℕ) → ((k : ℕ) → f (make k) ≡ m) → (ks : List ℕ) → sum_by f (map make ks) ≡ length ks * m
  sum-made make m each [] = omega arith
  sum-made make m each (k ∷ ks) = omega (arith, sum_by-cons f (make k) (map make ks), each k, sum-made make m each ks)
