use Rattle.std.proofs.Common.{◌≡◌, List, [], ◌∷◌, map, take, refl}
use Rattle.std.specs.Prelude.{ℤ, Option, slice_get, filter_map}
use Rattle.std.specs.List.{range_with_len}
use Rattle.aq_rules.specs.Lists.{ranked}
use Rattle.aq_agg.proofs.laws.top_eight_are_the_eight_greatest.Goals as goal

first_eight : (xs : List ℤ) → filter_map (λ (place : Option ℤ). place) (map (slice_get xs) (range_with_len 0 8)) ≡ take 8 xs
first_eight [] = refl
first_eight (a ∷ []) = refl
first_eight (a ∷ b ∷ []) = refl
first_eight (a ∷ b ∷ c ∷ []) = refl
first_eight (a ∷ b ∷ c ∷ d ∷ []) = refl
first_eight (a ∷ b ∷ c ∷ d ∷ e ∷ []) = refl
first_eight (a ∷ b ∷ c ∷ d ∷ e ∷ f ∷ []) = refl
first_eight (a ∷ b ∷ c ∷ d ∷ e ∷ f ∷ g ∷ []) = refl
first_eight (a ∷ b ∷ c ∷ d ∷ e ∷ f ∷ g ∷ h ∷ xs) = refl

pub returns : goal.returns
returns c bag = first_eight (ranked bag)
