-- Walks over days: one row more.
use Rattle.std.proofs.Common.{◌≡◌, ℕ, ◌+◌, List, [], ◌∷◌, ◌++◌, map, ap, sym, ◌∙◌}
use Rattle.std.specs.List.{range_with_len}
use Rattle.std.proofs.lemmas.List.{append_assoc}
use Rattle.std.proofs.lemmas.List.FromFn.{map-range_with_len_more}

module _ {X : Type 0} (f : ℕ → X) (first place : ℕ) where
  pub rows-more : (rows more : List X) (day : ℕ) (row : X) → first + place ≡ day → rows ≡ map f (range_with_len first place) → more ≡ rows ++ row ∷ [] → row ≡ f day → more ≡ map f (range_with_len first (place + 1))
  rows-more rows more day row at before pushed is =
      pushed ∙ (λ i. before i ++ is i ∷ []) ∙ sym (map-range_with_len_more f first place day at)

  -- behind rows that stand before
  pub more-rows : (start rows more : List X) (day : ℕ) (row : X) → first + place ≡ day → rows ≡ start ++ map f (range_with_len first place) → more ≡ rows ++ row ∷ [] → row ≡ f day → more ≡ start ++ map f (range_with_len first (place + 1))
  more-rows start rows more day row at before pushed is =
      pushed ∙ (λ i. before i ++ is i ∷ []) ∙ append_assoc start (map f (range_with_len first place)) (f day ∷ [])
      ∙ ap (λ (l : List X). start ++ l) (sym (map-range_with_len_more f first place day at))
