-- Net averages of ozone's values, and the greatest of them, are in ozone's range.
use Rattle.std.proofs.Common.{◌≡◌, ℕ, zero, suc, ◌+◌, ◌-◌, ◌*◌, ◌/◌, ◌<◌, ◌≤◌, Bool, true, false, not, cond, fold, List, [], ◌∷◌, length, take, drop, get_or, refl, sym, subst, arith}
use Rattle.std.specs.Prelude.{ℤ, pos, negsuc, neg_ℤ, ◌+ℤ◌, ◌≤ℤ◌, int_le, int_lt, Option, Some, None, nat_le, slice_get, IfSome, IsTrue}
use Rattle.std.specs.List.{AllByRecursion, cons_option, filter}
use Rattle.std.proofs.lemmas.Int.{ints}
use Rattle.std.proofs.lemmas.Bool.Decides.{nat_tests}
use Rattle.std.proofs.Math.Nat.{div-le_of_le-mul}
use Rattle.aq_base.specs.Decimal.{truncated}
use Rattle.aq_base.specs.declared.monitor.Pollutant.TheVariants.{Ozone}
use Rattle.aq_rules.specs.Kept.Summaries.{is_value}
use Rattle.aq_rules.specs.Lists.{greater, greatest, ranked, ranked_in, total}
use Rattle.aq_rules.specs.Ozone.EightHour.{WindowRow, average, full_values, net_values, row_of}
use Rattle.aq_rules.specs.Ozone.OzoneDay.{day_of_windows, net_averages}
use Rattle.aq_rules.specs.Ozone.OzoneYear.{ranked_maximum}
use Rattle.aq_rules.specs.Ozone.SiteHour.{Cell}
use Rattle.aq_series.specs.Samples.{AreOzone, IsOzone}
use Rattle.aq_ozone.specs.DayHours.{cells_in, AreNetOzone}

abbrev pub IfOzone : Option ℤ → Type 0
IfOzone o = IfSome o (λ (value : ℤ). IsOzone value)

abbrev pub Ozones : List ℤ → Type 0
Ozones values = AllByRecursion (λ (value : ℤ). IsOzone value) values

-- ---- averages

-- the sum of n values
abbrev SumOf : ℕ → ℤ → Type 0
SumOf n sum = (neg_ℤ (pos (999 * n)) ≤ℤ sum) × (sum ≤ℤ pos (9999 * n))

sums : (values : List ℤ) (n m : ℕ) (sum : ℤ) → n + length values ≡ m → SumOf n sum → Ozones values → SumOf m (fold (λ s value. s +ℤ value) sum values)
sums [] n m sum e h all = (omega (arith, ints, e, h.0), omega (arith, ints, e, h.1))
sums (v ∷ vs) n m sum e h all =
    let more : SumOf (n + 1) (sum +ℤ v) = (omega (arith, ints, h.0, all.0.0), omega (arith, ints, h.1, all.0.1)) in
    sums vs (n + 1) m (sum +ℤ v) (omega (arith, e)) more all.1

trunc_range : (sum : ℤ) (n : ℕ) → 0 < n → SumOf n sum → IsOzone (truncated sum (pos n))
trunc_range (pos a) n some h =
    let few : a ≤ n * 9999 = omega (arith, ints, h.1) in
    let q : a / n ≤ 9999 = div-le_of_le-mul n few in
    (omega (arith, ints), omega (arith, ints, q))
trunc_range (negsuc a) n some h =
    let few : suc a ≤ n * 999 = omega (arith, ints, h.0) in
    let q : suc a / n ≤ 999 = div-le_of_le-mul n few in
    (omega (arith, ints, q), omega (arith, ints))

eighth_range : (sum : ℤ) (n : ℕ) → n ≤ 5 → pos 568 ≤ℤ sum → SumOf n sum → IsOzone (truncated sum (pos 8))
eighth_range (pos a) n few high h =
    let q : a / 8 ≤ 9999 = div-le_of_le-mul 8 (omega (arith, ints, h.1)) in
    (omega (arith, ints), omega (arith, ints, q))
eighth_range (negsuc a) n few high h = absurd (omega (arith, ints, high))

average_range : (n : ℕ) (sum : ℤ) → SumOf n sum → IfOzone (average n sum)
average_range n sum h = by_tests (nat_le 6 n) (int_le (pos 568) sum) refl refl
  where
    by_tests : (a b : Bool) → nat_le 6 n ≡ a → int_le (pos 568) sum ≡ b
        → IfOzone (cond a (Some (truncated sum (pos n))) (cond b (Some (truncated sum (pos 8))) None))
    by_tests true b e f = let many : 6 ≤ n = grind (arith, nat_tests) in trunc_range sum n (omega arith) h
    by_tests false true e f =
        let few : n ≤ 5 = grind (arith, nat_tests) in
        let high : pos 568 ≤ℤ sum = grind (arith, ints) in
        eighth_range sum n few high h
    by_tests false false e f = tt

net_values_range : (hours : List (Option Cell)) → AreOzone hours → Ozones (net_values (cells_in hours))
net_values_range [] all = tt
net_values_range (None ∷ hours) all = net_values_range hours all.1
net_values_range (Some cell ∷ hours) all =
    elim (not cell.excluded) as (λ b. Ozones (full_values (cond b (cell ∷ filter (λ (c : Cell). not c.excluded) (cells_in hours)) (filter (λ (c : Cell). not c.excluded) (cells_in hours))))) [
      | true ↦ (all.0, net_values_range hours all.1)
      | false ↦ net_values_range hours all.1
    ]

pub net_range : (hours : List (Option Cell)) → AreOzone hours → IfOzone (row_of (cells_in hours)).net
net_range hours all =
    let values = net_values (cells_in hours) in
    average_range (length values) (total values) (sums values 0 (length values) (pos 0) (omega arith) (omega (arith, ints), omega (arith, ints)) (net_values_range hours all))

full_values_range : (hours : List (Option Cell)) → AreOzone hours → Ozones (full_values (cells_in hours))
full_values_range [] all = tt
full_values_range (None ∷ hours) all = full_values_range hours all.1
full_values_range (Some cell ∷ hours) all = (all.0, full_values_range hours all.1)

pub full_range : (hours : List (Option Cell)) → AreOzone hours → IfOzone (row_of (cells_in hours)).full
full_range hours all =
    let values = full_values (cells_in hours) in
    average_range (length values) (total values) (sums values 0 (length values) (pos 0) (omega arith) (omega (arith, ints), omega (arith, ints)) (full_values_range hours all))

-- ---- the averages of a day

pub taken : (n : ℕ) (hours : List (Option Cell)) → AreOzone hours → AreOzone (take n hours)
taken zero hours all = tt
taken (suc n) [] all = tt
taken (suc n) (hour ∷ hours) all = (all.0, taken n hours all.1)

pub dropped : (n : ℕ) (hours : List (Option Cell)) → AreOzone hours → AreOzone (drop n hours)
dropped zero hours all = all
dropped (suc n) [] all = tt
dropped (suc n) (hour ∷ hours) all = dropped n hours all.1

all_by : {X : Type 0} (P : X → Type 0) (list : List X) → ((d : X) (k : ℕ) → k < length list → P (get_or list k d)) → AllByRecursion P list
all_by P [] each = tt
all_by P (x ∷ list) each = (each x 0 (omega arith), all_by P list (λ d k within. each d (suc k) (omega (arith, within))))

pub rows_range : (hours : List (Option Cell)) (rows : List WindowRow) (n : ℕ) → AreOzone hours → length rows ≡ n
    → ((d : WindowRow) (k : ℕ) → k < n → get_or rows k d ≡ row_of (cells_in (take (k + 8 - k) (drop k hours)))) → AreNetOzone rows
rows_range hours rows n all many each =
    all_by (λ (row : WindowRow). IfOzone row.net) rows
    (λ d k within. subst (λ (row : WindowRow). IfOzone row.net) (sym (each d k (omega (arith, many, within)))) (net_range (take (k + 8 - k) (drop k hours)) (taken (k + 8 - k) (drop k hours) (dropped k hours all))))

-- ---- the maximum of a day

greater_range : (o : Option ℤ) (v : ℤ) → IfOzone o → IsOzone v → IfOzone (greater o v)
greater_range None v h k = k
greater_range (Some other) v h k = (grind (arith, ints, h.0, k.0), grind (arith, ints, h.1, k.1))

greatest_range : (o : Option ℤ) (values : List ℤ) → IfOzone o → Ozones values → IfOzone (fold greater o values)
greatest_range o [] h all = h
greatest_range o (v ∷ vs) h all = greatest_range (greater o v) vs (greater_range o v h all.0) all.1

onto : (o : Option ℤ) (values : List ℤ) → IfOzone o → Ozones values → Ozones (cons_option o values)
onto None values h all = all
onto (Some v) values h all = (h, all)

net_averages_range : (rows : List WindowRow) → AreNetOzone rows → Ozones (net_averages rows)
net_averages_range [] all = tt
net_averages_range (row ∷ rows) all = onto row.net (net_averages rows) all.0 (net_averages_range rows all.1)

pub day_maximum_range : (rows : List WindowRow) → AreNetOzone rows → IfOzone (day_of_windows rows).maximum
day_maximum_range rows all = greatest_range None (net_averages rows) tt (net_averages_range rows all)

pub maximum_range : (rows : List WindowRow) → AreNetOzone rows → IfOzone (ranked_maximum (day_of_windows rows))
maximum_range rows all =
    elim (day_of_windows rows).valid as (λ b. IfOzone (cond b (greatest (net_averages rows)) None)) [
      | true ↦ greatest_range None (net_averages rows) tt (net_averages_range rows all)
      | false ↦ tt
    ]

-- ---- the fourth of the ranked maxima

ranked_in_range : (v : ℤ) (values : List ℤ) → IsOzone v → Ozones values → Ozones (ranked_in v values)
ranked_in_range v [] h all = (h, tt)
ranked_in_range v (w ∷ ws) h all =
    elim (int_lt v w) as (λ b. Ozones (cond b (w ∷ ranked_in v ws) (v ∷ w ∷ ws))) [ true ↦ (all.0, ranked_in_range v ws h all.1) | false ↦ (h, all) ]

ranked_range : (values : List ℤ) → Ozones values → Ozones (ranked values)
unfolding ranked
ranked_range [] all = tt
ranked_range (v ∷ vs) all = ranked_in_range v (ranked vs) all.0 (ranked_range vs all.1)

at_range : (values : List ℤ) (k : ℕ) → Ozones values → IfOzone (slice_get values k)
at_range [] k all = tt
at_range (v ∷ vs) zero all = all.0
at_range (v ∷ vs) (suc k) all = at_range vs k all.1

to_test : (o : Option ℤ) → IfOzone o → IsTrue (is_value Ozone o)
to_test None h = refl
to_test (Some v) h =
    let low : int_le (negsuc 998) v ≡ true = grind (arith, ints, h.0) in
    let high : int_le v (pos 9999) ≡ true = grind (arith, ints, h.1) in
    rw (low, high) refl

pub fourth_range : (values : List ℤ) → Ozones values → IsTrue (is_value Ozone (slice_get (ranked values) 3))
fourth_range values all = to_test (slice_get (ranked values) 3) (at_range (ranked values) 3 (ranked_range values all))
