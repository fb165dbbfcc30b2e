-- The least value is the greatest of the negated ones, negated.
use Rattle.std.proofs.Common.{◌≡◌, List, [], ◌∷◌, map, refl, sym, subst, ap, ◌∙◌, arith}
use Rattle.std.specs.Prelude.{ℤ, pos, neg_ℤ, ◌≤ℤ◌, Option, Some, None, All, IfSome, option_map}
use Rattle.std.specs.Int.{int_min, int_max}
use Rattle.std.proofs.lemmas.Int.{ints}
use Rattle.std.proofs.lemmas.List.Elements.{All-head, All-tail}
use Rattle.aq_rules.specs.Lists.{greatest, least}
use Rattle.aq_series.specs.DayCells.{IsParticle}
use Rattle.aq_rules.proofs.Sums.{greater_of, greatest-some, least-some, lesser_of}

twice : (x : ℤ) → neg_ℤ (neg_ℤ x) ≡ x
twice x = omega (arith, ints)

turned : (x y : ℤ) → neg_ℤ (int_max (neg_ℤ x) y) ≡ int_min x (neg_ℤ y)
turned x y = grind (arith, ints)

joined : (x : ℤ) (o : Option ℤ) → option_map neg_ℤ (greater_of (Some (neg_ℤ x)) o) ≡ lesser_of (Some x) (option_map neg_ℤ o)
joined x None = ap (λ (v : ℤ). Some v) (twice x)
joined x (Some y) = ap (λ (v : ℤ). Some v) (turned x y)

pub least-negated : (bag : List ℤ) → option_map neg_ℤ (greatest (map neg_ℤ bag)) ≡ least bag
least-negated [] = refl
least-negated (x ∷ bag) =
    ap (option_map neg_ℤ) (greatest-some (neg_ℤ x) (map neg_ℤ bag)) ∙ joined x (greatest (map neg_ℤ bag))
    ∙ ap (lesser_of (Some x)) (least-negated bag) ∙ sym (least-some x bag)

-- the greatest one of the negated values of particles is far from the least of 32 bits
low_of : (x : ℤ) (o : Option ℤ) → neg_ℤ (pos 2147483647) ≤ℤ x → IfSome o (λ (v : ℤ). neg_ℤ (pos 2147483647) ≤ℤ v) → IfSome (greater_of (Some x) o) (λ (v : ℤ). neg_ℤ (pos 2147483647) ≤ℤ v)
low_of x None low rest = low
low_of x (Some y) low rest = grind (arith, ints, low, rest)

pub greatest-low : (bag : List ℤ) → All IsParticle bag → IfSome (greatest (map neg_ℤ bag)) (λ (v : ℤ). neg_ℤ (pos 2147483647) ≤ℤ v)
greatest-low [] all = tt
greatest-low (x ∷ bag) all =
    let range = All-head IsParticle x bag all in
    subst (λ (o : Option ℤ). IfSome o (λ (v : ℤ). neg_ℤ (pos 2147483647) ≤ℤ v)) (sym (greatest-some (neg_ℤ x) (map neg_ℤ bag)))
    (low_of (neg_ℤ x) (greatest (map neg_ℤ bag)) (omega (arith, ints, range.1)) (greatest-low bag (All-tail IsParticle x bag all)))
