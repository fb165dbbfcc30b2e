-- Loops over numbers that follow each other: what is written and what is left make the whole.
use Rattle.std.proofs.Common.{◌≡◌, ℕ, suc, ◌+◌, ◌-◌, ◌<◌, ◌≤◌, List, [], ◌∷◌, ◌++◌, sym, ap, ◌∙◌, arith, append_assoc, append-nil}
use Rattle.std.specs.List.{range_with_len}

pub range-first : (a b : ℕ) → a < b → range_with_len a (b - a) ≡ a ∷ range_with_len (a + 1) (b - (a + 1))
range-first a b low = let n : b - a ≡ suc (b - (a + 1)) = omega (arith, low) in ap (range_with_len a) n

pub range-none : (a b : ℕ) → b ≤ a → range_with_len a (b - a) ≡ []
range-none a b high = let n : b - a ≡ 0 = omega (arith, high) in ap (range_with_len a) n

-- the text of a list is that of its first number and that of the rest
module _ (text_of : List ℕ → List ℕ) (text_at : ℕ → List ℕ) (more : (a : ℕ) (rest : List ℕ) → text_of (a ∷ rest) ≡ text_at a ++ text_of rest) where
  pub walk-step : (a b : ℕ) (old new : List ℕ) → a < b → new ≡ old ++ text_at a
      → new ++ text_of (range_with_len (a + 1) (b - (a + 1))) ≡ old ++ text_of (range_with_len a (b - a))
  walk-step a b old new low is =
      ap (λ text. text ++ text_of (range_with_len (a + 1) (b - (a + 1)))) is
      ∙ append_assoc old (text_at a) (text_of (range_with_len (a + 1) (b - (a + 1))))
      ∙ ap (λ text. old ++ text) (sym (more a (range_with_len (a + 1) (b - (a + 1)))) ∙ ap text_of (sym (range-first a b low)))

walk-end : (text_of : List ℕ → List ℕ) → text_of [] ≡ [] → (a b : ℕ) (old : List ℕ) → b ≤ a → old ++ text_of (range_with_len a (b - a)) ≡ old
walk-end text_of none a b old high = ap (λ numbers. old ++ text_of numbers) (range-none a b high) ∙ ap (λ text. old ++ text) none ∙ append-nil old

-- what a walk over so many numbers has written at its end
pub walk-all : (text_of : List ℕ → List ℕ) → text_of [] ≡ [] → (first many a b : ℕ) (old new : List ℕ) → b ≤ a → b ≡ first + many
    → new ++ text_of (range_with_len a (b - a)) ≡ old ++ text_of (range_with_len first (b - first)) → new ≡ old ++ text_of (range_with_len first many)
walk-all text_of none first many a b old new high is kept =
    let count : b - first ≡ many = omega (arith, is) in
    sym (walk-end text_of none a b new high) ∙ kept ∙ ap (λ n. old ++ text_of (range_with_len first n)) count
