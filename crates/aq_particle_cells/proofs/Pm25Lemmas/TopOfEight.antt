-- The eight places of a ranked bag, put in one after another, are the eight greatest values.
use Rattle.std.proofs.Common.{◌≡◌, ℕ, List, [], ◌∷◌, get_or, map, take, refl, sym, ap, ◌∙◌}
use Rattle.std.specs.Prelude.{ℤ, Option, None, slice_get}
use Rattle.std.specs.List.{range_with_len}
use Rattle.std.specs.Option.{option_to_list}
use Rattle.std.proofs.lemmas.List.{append-nil}
use Rattle.aq_agg.specs.Ranks.{top_eight}
use Rattle.aq_rules.proofs.Eight.{eight-more}
use Rattle.aq_rules.specs.Kept.Summaries.{eight_greatest}
use Rattle.aq_rules.specs.Lists.{ranked}
use Rattle.aq_particles.proofs.Pm25Lemmas.Greatest.{all-join}
use Rattle.aq_particles.specs.Pm25.QuarterValues.{top_after}

-- the values at places put in one after another
abbrev pub after_places : List ℤ → List (Option ℤ) → List ℤ
after_places top [] = top
after_places top (place ∷ places) = after_places (top_after top (option_to_list place)) places

places-are : (xs : List ℤ) → after_places [] (map (slice_get xs) (range_with_len 0 8)) ≡ top_after [] (take 8 xs)
places-are [] = refl
places-are (a ∷ []) = refl
places-are (a ∷ b ∷ []) = refl
places-are (a ∷ b ∷ c ∷ []) = refl
places-are (a ∷ b ∷ c ∷ d ∷ []) = refl
places-are (a ∷ b ∷ c ∷ d ∷ e ∷ []) = refl
places-are (a ∷ b ∷ c ∷ d ∷ e ∷ f ∷ []) = refl
places-are (a ∷ b ∷ c ∷ d ∷ e ∷ f ∷ g ∷ []) = refl
places-are (a ∷ b ∷ c ∷ d ∷ e ∷ f ∷ g ∷ h ∷ xs) = refl

pub top-is : (bag : List ℤ) → after_places [] (top_eight bag) ≡ eight_greatest bag
unfolding ranked
top-is bag =
    places-are (ranked bag) ∙ all-join [] (eight_greatest bag)
    ∙ ap eight_greatest (sym (append-nil (eight_greatest bag))) ∙ eight-more bag [] ∙ ap eight_greatest (append-nil bag)

-- the eight places, one after another
pub eight-joined : (bag : List ℤ) (places : List (Option ℤ)) → places ≡ top_eight bag → {n a b c d e f g h : List ℤ} → n ≡ []
    → a ≡ top_after n (option_to_list (get_or places 0 None)) → b ≡ top_after a (option_to_list (get_or places 1 None)) → c ≡ top_after b (option_to_list (get_or places 2 None))
    → d ≡ top_after c (option_to_list (get_or places 3 None)) → e ≡ top_after d (option_to_list (get_or places 4 None)) → f ≡ top_after e (option_to_list (get_or places 5 None))
    → g ≡ top_after f (option_to_list (get_or places 6 None)) → h ≡ top_after g (option_to_list (get_or places 7 None)) → h ≡ eight_greatest bag
eight-joined bag places is {n} {a} {b} {c} {d} {e} {f} {g} {h} ni ai bi ci di ei fi gi hi =
    let place : ℕ → List (Option ℤ) → List ℤ = λ k ps. option_to_list (get_or ps k None) in
    let one = ai ∙ (λ i. top_after (ni i) (place 0 (is i))) in
    let two = bi ∙ (λ i. top_after (one i) (place 1 (is i))) in
    let three = ci ∙ (λ i. top_after (two i) (place 2 (is i))) in
    let four = di ∙ (λ i. top_after (three i) (place 3 (is i))) in
    let five = ei ∙ (λ i. top_after (four i) (place 4 (is i))) in
    let six = fi ∙ (λ i. top_after (five i) (place 5 (is i))) in
    let seven = gi ∙ (λ i. top_after (six i) (place 6 (is i))) in
    hi ∙ (λ i. top_after (seven i) (place 7 (is i))) ∙ top-is bag
