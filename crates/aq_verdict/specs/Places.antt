-- Lemmas, no definition: places that descend hold the values that they give.
use Rattle.std.proofs.Common.{◌≡◌, List, [], ◌∷◌, length, true, refl, sym, ap, ◌∙◌}
use Rattle.std.specs.Prelude.{Option, Some, None, ℤ}
use Rattle.std.proofs.lemmas.Bool.{and_parts, false≢true}
use Rattle.aq_verdict.specs.declared.top_eight.TopEight.TheInside.{Inside}
use Rattle.aq_verdict.specs.Top.{given, placed, is_no_higher, descends, HoldsTop}

pub placed-given : (places : List (Option ℤ)) → HoldsTop places → (let inside : Inside = record { places = placed 8 (given places) } in inside) ≡ record { places = places }
placed-given places holds = ap (λ (p : List (Option ℤ)). record { places = p }) (sym holds.rest)

pub descends-rest : (place : Option ℤ) (places : List (Option ℤ)) → descends (place ∷ places) ≡ true → descends places ≡ true
descends-rest place [] h = refl
descends-rest place (next ∷ places) h = (and_parts (is_no_higher place next) (descends (next ∷ places)) h).1

-- below an empty place all are empty
pub given-empty : (places : List (Option ℤ)) → descends (None ∷ places) ≡ true → given places ≡ []
given-empty [] h = refl
given-empty (None ∷ places) h = refl
given-empty (Some value ∷ places) h = absurd (false≢true h)

pub places-given : (places : List (Option ℤ)) → descends places ≡ true → places ≡ placed (length places) (given places)
unfolding placed
places-given [] h = refl
places-given (None ∷ places) h =
    ap (λ (l : List (Option ℤ)). None ∷ l) (places-given places (descends-rest None places h) ∙ ap (placed (length places)) (given-empty places h))
places-given (Some value ∷ places) h = ap (λ (l : List (Option ℤ)). Some value ∷ l) (places-given places (descends-rest (Some value) places h))
