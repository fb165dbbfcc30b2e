-- What the percentile is.
use Rattle.std.proofs.Common.{◌≡◌, ℕ, zero, suc, ◌-◌, ◌<◌, ◌≤◌, false, cond, List, length, get_or, refl, sym, ap, ◌∙◌, arith}
use Rattle.std.specs.Prelude.{ℤ, int_lt, int_le, Option, Some, None, slice_get, IsSome, pos, ◌==◌}
use Rattle.std.specs.List.{count_by}
use Rattle.std.specs.List.Sorted.{IsPermutation}
use Rattle.std.proofs.lemmas.List.Sums.{count_by-le-length}
use Rattle.std.proofs.lemmas.Option.{slice_get-get_or}
use Rattle.std.proofs.lemmas.Bool.Decides.{nat_tests}
use Rattle.aq_rules.specs.Lists.{ranked}
use Rattle.aq_rules.specs.Particles.Percentile.{percentile, rank_of}
use Rattle.aq_rules.proofs.Ranked.{ranked-in_any_order}
use Rattle.aq_rules.proofs.Descent.{ranked-descends, few_above, many_at_least, above-ranked, at_least-ranked, length-ranked, one_value}

pub percentile-any_order : (xs ys : List ℤ) (counted : ℕ) → IsPermutation xs ys → percentile xs counted ≡ percentile ys counted
percentile-any_order xs ys counted moved =
    ap (λ (l : List ℤ). cond (counted == 0) None (slice_get l (rank_of counted - 1))) (ranked-in_any_order xs ys moved)

counted_some : (counted : ℕ) → 0 < counted → (counted == 0) ≡ false
counted_some counted some = grind (arith, nat_tests)

rank_some : (counted : ℕ) → 0 < counted → 1 ≤ rank_of counted
rank_some counted some = omega arith

of_rank : (xs : List ℤ) (counted : ℕ) → 0 < counted → percentile xs counted ≡ slice_get (ranked xs) (rank_of counted - 1)
of_rank xs counted some = rw (counted_some counted some) refl

where_counted : (xs : List ℤ) (counted : ℕ) (p : ℤ) → percentile xs counted ≡ Some p → 0 < counted
where_counted xs zero p at = cc
where_counted xs (suc counted) p at = omega arith

pub percentile-is : (xs : List ℤ) (counted : ℕ) (p : ℤ) → percentile xs counted ≡ Some p
    → (count_by (λ v. int_lt p v) xs < rank_of counted) × (rank_of counted ≤ count_by (λ v. int_le p v) xs)
percentile-is xs counted p at =
    let some = where_counted xs counted p at in
    let place : slice_get (ranked xs) (rank_of counted - 1) ≡ Some p = sym (of_rank xs counted some) ∙ at in
    let rank = rank_some counted some in
    let few = few_above (ranked xs) (rank_of counted - 1) p (ranked-descends xs) place in
    let many = many_at_least (ranked xs) (rank_of counted - 1) p (ranked-descends xs) place in
    (omega (arith, few, above-ranked p xs, rank), omega (arith, many, at_least-ranked p xs, rank))

pub percentile-some : (xs : List ℤ) (counted : ℕ) → 0 < counted → rank_of counted ≤ length xs → IsSome (percentile xs counted)
percentile-some xs counted some within =
    let rank = rank_some counted some in
    let inside : rank_of counted - 1 < length (ranked xs) = omega (arith, length-ranked xs, rank) in
    let place : percentile xs counted ≡ Some (get_or (ranked xs) (rank_of counted - 1) (pos 0)) =
    of_rank xs counted some ∙ slice_get-get_or (ranked xs) (rank_of counted - 1) (pos 0) inside
    in
    rw place refl

at_value : (o : Option ℤ) (p : ℤ) → IsSome o → ((q : ℤ) → o ≡ Some q → q ≡ p) → o ≡ Some p
at_value None p some same = cc
at_value (Some q) p some same = ap (λ (z : ℤ). Some z) (same q refl)

pub percentile-only : (xs : List ℤ) (counted : ℕ) (p : ℤ) → 0 < counted
    → count_by (λ v. int_lt p v) xs < rank_of counted → rank_of counted ≤ count_by (λ v. int_le p v) xs → percentile xs counted ≡ Some p
percentile-only xs counted p some few many =
    let all = count_by-le-length (λ v. int_le p v) xs in
    at_value (percentile xs counted) p (percentile-some xs counted some (omega arith))
    (λ q at. let is = percentile-is xs counted q at in one_value q p xs (rank_of counted) is.0 is.1 few many)
