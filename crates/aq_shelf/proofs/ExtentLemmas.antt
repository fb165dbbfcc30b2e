-- The first and the last hour of two lists that are joined.
use Rattle.std.proofs.Common.{◌≡◌, ℕ, ◌-◌, suc, Option, Some, None, List, [], ◌∷◌, ◌++◌, length, refl, ap, sym, ◌∙◌, arith}
use Rattle.std.specs.Prelude.{option_map, slice_get}
use Rattle.std.specs.Option.{option_or}
use Rattle.std.proofs.lemmas.List.{append-nil}
use Rattle.aq_base.specs.declared.observation.Observation.{Observation}
use Rattle.aq_shelf.specs.Extents.{hour_of_item, first_hour, last_hour}

abbrev Hours : Type 0
Hours = List (ℕ × Observation)

-- ---- the first

pub first-append : (xs ys : Hours) (behind : Option ℕ) → option_or (first_hour xs) (option_or (first_hour ys) behind) ≡ option_or (first_hour (xs ++ ys)) behind
first-append [] ys behind = refl
first-append (x ∷ xs) ys behind = refl

pub first-joined : (xs ys : Hours) → option_or (first_hour xs) (first_hour ys) ≡ first_hour (xs ++ ys)
first-joined [] ys = refl
first-joined (x ∷ xs) ys = refl

-- ---- the last

last-tail : (x y : ℕ × Observation) (ys : Hours) → last_hour (x ∷ y ∷ ys) ≡ last_hour (y ∷ ys)
last-tail x y ys =
    let one_less : length (x ∷ y ∷ ys) - 1 ≡ suc (length (y ∷ ys) - 1) = omega arith in
    ap (λ n. option_map hour_of_item (slice_get (x ∷ y ∷ ys) n)) one_less

-- of a list with an entry there is one, and it is that of any list that ends with it
last-some : (y : ℕ × Observation) (ys : Hours) (before : Option ℕ) → option_or (last_hour (y ∷ ys)) before ≡ last_hour (y ∷ ys)
last-some y [] before = refl
last-some y (z ∷ ys) before =
    ap (λ (o : Option ℕ). option_or o before) (last-tail y z ys) ∙ last-some z ys before ∙ sym (last-tail y z ys)

last-behind : (xs : Hours) (y : ℕ × Observation) (ys : Hours) → last_hour (xs ++ y ∷ ys) ≡ last_hour (y ∷ ys)
last-behind [] y ys = refl
last-behind (x ∷ []) y ys = last-tail x y ys
last-behind (x ∷ z ∷ xs) y ys = last-tail x z (xs ++ y ∷ ys) ∙ last-behind (z ∷ xs) y ys

pub last-joined : (xs ys : Hours) → option_or (last_hour ys) (last_hour xs) ≡ last_hour (xs ++ ys)
last-joined xs [] = ap last_hour (sym (append-nil xs))
last-joined xs (y ∷ ys) = last-some y ys (last_hour xs) ∙ sym (last-behind xs y ys)

pub last-append : (xs ys : Hours) (behind : Option ℕ) → option_or (option_or behind (last_hour ys)) (last_hour xs) ≡ option_or behind (last_hour (xs ++ ys))
last-append xs ys None = last-joined xs ys
last-append xs ys (Some hour) = refl
