-- What is kept of PM2.5 quarters and years keeps its facts.
use Rattle.std.proofs.Common.{◌≡◌, ℕ, zero, suc, min, Bool, true, false, cond, List, [], ◌∷◌, length, map, refl, sym, ap, ◌∙◌, arith, subst}
use Rattle.std.specs.Prelude.{ℤ, pos, ◌+ℤ◌, ◌*ℤ◌, ◌≤ℤ◌, int_le, int_lt, Option, Some, None, is_some, IsTrue, nat_le, slice_get, ⊤}
use Rattle.std.specs.Option.{option_map_or}
use Rattle.std.specs.List.{filter_map}
use Rattle.std.specs.Int.{int_min, int_max}
use Rattle.std.proofs.lemmas.Int.{ints}
use Rattle.std.proofs.lemmas.List.{length-take}
use Rattle.std.proofs.lemmas.List.Concat.{length-flat_map}
use Rattle.std.proofs.lemmas.Bool.Decides.{nat_tests}
use Rattle.std.proofs.Math.IntN.{suc_ℤ-*ℤ, *ℤ_comm, *ℤ-zero}
use Rattle.aq_rules.specs.Lists.{least, total, greatest, ranked, ranked_in}
use Rattle.aq_rules.specs.Particles.QuarterCounts.{QuarterDays, values_in}
use Rattle.aq_rules.specs.Kept.Summaries.{PmQuarter, net_days_in, eight_greatest, falls, is_sum_within, summary_of_quarter}
use Rattle.aq_rules.proofs.Sums.{total-cons, lesser_of, greater_of, least-some, greatest-some, greatest-of_lists}
use Rattle.aq_rules.proofs.Descent.{Descends, ranked-descends, length-ranked}
use Rattle.aq_rules.proofs.Eight.{descends-take, slice_get-front}
use Rattle.aq_rules.proofs.KeptSums.{days-summary, greatest-summary}

-- ---- there is a least and a greatest value if there is one

some_lesser : (x : ℤ) (o : Option ℤ) → is_some (lesser_of (Some x) o) ≡ true
some_lesser x None = refl
some_lesser x (Some y) = refl

some_greater : (x : ℤ) (o : Option ℤ) → is_some (greater_of (Some x) o) ≡ true
some_greater x None = refl
some_greater x (Some y) = refl

one_or_more : (n : ℕ) → nat_le 1 (suc n) ≡ true
one_or_more n = grind (arith, nat_tests)

pub least-there : (values : List ℤ) → is_some (least values) ≡ nat_le 1 (length values)
least-there [] = refl
least-there (v ∷ vs) = ap is_some (least-some v vs) ∙ some_lesser v (least vs) ∙ sym (one_or_more (length vs))

pub greatest-there : (values : List ℤ) → is_some (greatest values) ≡ nat_le 1 (length values)
greatest-there [] = refl
greatest-there (v ∷ vs) = ap is_some (greatest-some v vs) ∙ some_greater v (greatest vs) ∙ sym (one_or_more (length vs))

-- ---- the sum lies between so many times either

times_more : (a : ℤ) (n : ℕ) → a *ℤ pos (suc n) ≡ (a *ℤ pos n) +ℤ a
times_more a n = *ℤ_comm a (pos (suc n)) ∙ suc_ℤ-*ℤ (pos n) a ∙ ap (λ (z : ℤ). z +ℤ a) (*ℤ_comm (pos n) a)

abbrev LowFor : List ℤ → Option ℤ → Type 0
LowFor values None = ⊤
LowFor values (Some low) = (low *ℤ pos (length values)) ≤ℤ total values

abbrev HighFor : List ℤ → Option ℤ → Type 0
HighFor values None = ⊤
HighFor values (Some high) = total values ≤ℤ (high *ℤ pos (length values))

smaller_times : (a b : ℤ) (n : ℕ) → a ≤ℤ b → (a *ℤ pos n) ≤ℤ (b *ℤ pos n)
smaller_times a b zero h = rw (*ℤ-zero a, *ℤ-zero b) (omega (arith, ints))
smaller_times a b (suc n) h = let rest = smaller_times a b n h in omega (arith, ints, rest, times_more a n, times_more b n, h)

min_first : (x y : ℤ) → int_min x y ≤ℤ x
min_first x y = grind (arith, ints)

min_second : (x y : ℤ) → int_min x y ≤ℤ y
min_second x y = grind (arith, ints)

max_first : (x y : ℤ) → x ≤ℤ int_max x y
max_first x y = grind (arith, ints)

max_second : (x y : ℤ) → y ≤ℤ int_max x y
max_second x y = grind (arith, ints)

-- if there is no least value there is no value
no_values : (values : List ℤ) → is_some (least values) ≡ false → values ≡ []
no_values [] none = refl
no_values (v ∷ vs) none = let some = least-there (v ∷ vs) in let h = one_or_more (length vs) in cc

low_by : (x : ℤ) (xs : List ℤ) (o : Option ℤ) → o ≡ least xs → LowFor xs o → LowFor (x ∷ xs) (lesser_of (Some x) o)
low_by x xs None is low =
    let empty : xs ≡ [] = no_values xs (ap is_some (sym is)) in
    let P : List ℤ → Type 0 = λ l. (x *ℤ pos (length (x ∷ l))) ≤ℤ total (x ∷ l) in
    let one : (x *ℤ pos 1) ≤ℤ (pos 0 +ℤ x) = omega (arith, ints, times_more x 0, *ℤ-zero x) in
    subst P (sym empty) one
low_by x xs (Some y) is low =
    let few = smaller_times (int_min x y) y (length xs) (min_second x y) in
    omega (arith, ints, low, few, min_first x y, times_more (int_min x y) (length xs), total-cons x xs)

pub low-for : (values : List ℤ) → LowFor values (least values)
low-for [] = tt
low-for (v ∷ vs) = rw (least-some v vs) (low_by v vs (least vs) refl (low-for vs))

no_tops : (values : List ℤ) → is_some (greatest values) ≡ false → values ≡ []
no_tops [] none = refl
no_tops (v ∷ vs) none = let some = greatest-there (v ∷ vs) in let h = one_or_more (length vs) in cc

high_by : (x : ℤ) (xs : List ℤ) (o : Option ℤ) → o ≡ greatest xs → HighFor xs o → HighFor (x ∷ xs) (greater_of (Some x) o)
high_by x xs None is high =
    let empty : xs ≡ [] = no_tops xs (ap is_some (sym is)) in
    let P : List ℤ → Type 0 = λ l. total (x ∷ l) ≤ℤ (x *ℤ pos (length (x ∷ l))) in
    let one : (pos 0 +ℤ x) ≤ℤ (x *ℤ pos 1) = omega (arith, ints, times_more x 0, *ℤ-zero x) in
    subst P (sym empty) one
high_by x xs (Some y) is high =
    let many = smaller_times y (int_max x y) (length xs) (max_second x y) in
    omega (arith, ints, high, many, max_first x y, times_more (int_max x y) (length xs), total-cons x xs)

pub high-for : (values : List ℤ) → HighFor values (greatest values)
high-for [] = tt
high-for (v ∷ vs) = rw (greatest-some v vs) (high_by v vs (greatest vs) refl (high-for vs))

low_test : (values : List ℤ) (o : Option ℤ) → LowFor values o → option_map_or (λ low. int_le (low *ℤ pos (length values)) (total values)) o true ≡ true
low_test values None low = refl
low_test values (Some v) low = grind (arith, ints)

high_test : (values : List ℤ) (o : Option ℤ) → HighFor values o → option_map_or (λ high. int_le (total values) (high *ℤ pos (length values))) o true ≡ true
high_test values None high = refl
high_test values (Some v) high = grind (arith, ints)

pub sum-within : (q : QuarterDays) → IsTrue (is_sum_within (summary_of_quarter q))
sum-within q = rw (low_test q.values (least q.values) (low-for q.values), high_test q.values (greatest q.values) (high-for q.values)) refl

pub no-sum : (values : List ℤ) → length values ≡ 0 → total values ≡ pos 0
no-sum [] empty = refl
no-sum (v ∷ vs) empty = absurd (omega (arith, empty))

-- ---- the eight greatest values

falls_next : (x y : ℤ) → int_lt x y ≡ false → int_le y x ≡ true
falls_next x y h = grind (arith, ints)

falls-descends : (xs : List ℤ) → Descends xs → falls xs ≡ true
falls-descends [] d = refl
falls-descends (x ∷ []) d = refl
falls-descends (x ∷ y ∷ ys) d = rw (falls_next x y d.0) (falls-descends (y ∷ ys) d.1)

pub top-falls : (values : List ℤ) → IsTrue (falls (eight_greatest values))
top-falls values = falls-descends (eight_greatest values) (descends-take 8 (ranked values) (ranked-descends values))

pub top-count : (year : List QuarterDays) → length (eight_greatest (values_in year)) ≡ min 8 (net_days_in (map summary_of_quarter year))
top-count year =
    length-take 8 (ranked (values_in year))
    ∙ ap (min 8) (length-ranked (values_in year) ∙ length-flat_map (λ (q : QuarterDays). q.values) year ∙ sym (days-summary year))

-- the first ranked value is the greatest
first_by : (v z : ℤ) (b : Bool) (zs : List ℤ) → int_lt v z ≡ b → slice_get (cond b (z ∷ ranked_in v zs) (v ∷ z ∷ zs)) 0 ≡ Some (int_max v z)
first_by v z true zs h = ap (λ (x : ℤ). Some x) (grind (arith, ints))
first_by v z false zs h = ap (λ (x : ℤ). Some x) (grind (arith, ints))

first_ranked : (v : ℤ) (zs : List ℤ) → slice_get (ranked_in v zs) 0 ≡ greater_of (Some v) (slice_get zs 0)
first_ranked v [] = refl
first_ranked v (z ∷ zs) = first_by v z (int_lt v z) zs refl

ranked-first : (values : List ℤ) → slice_get (ranked values) 0 ≡ greatest values
unfolding ranked
ranked-first [] = refl
ranked-first (v ∷ vs) = first_ranked v (ranked vs) ∙ ap (greater_of (Some v)) (ranked-first vs) ∙ sym (greatest-some v vs)

pub top-greatest : (year : List QuarterDays) → slice_get (eight_greatest (values_in year)) 0 ≡ greatest (filter_map (λ (q : PmQuarter). q.greatest) (map summary_of_quarter year))
top-greatest year =
    slice_get-front 8 0 (ranked (values_in year)) (omega arith) ∙ ranked-first (values_in year)
    ∙ sym (greatest-of_lists (λ (q : QuarterDays). q.values) year) ∙ ap greatest (sym (greatest-summary year))
