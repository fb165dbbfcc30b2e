-- Ranked days: their number, their places, and the first of them.
use Rattle.std.proofs.Common.{◌≡◌, ℕ, zero, suc, ◌+◌, ◌-◌, ◌<◌, ◌≤◌, Bool, true, false, cond, Some, None, Option, List, [], ◌∷◌, length, map, take, drop, get_or, refl, ap, sym, subst, ◌∙◌, arith}
use Rattle.std.specs.Prelude.{ℤ, int_lt, option_map, filter_map}
use Rattle.std.specs.List.{cons_option, insert, range_with_len}
use Rattle.std.proofs.Math.Seq.{drop-length}
use Rattle.aq_rules.specs.Listed.Highest.{RankedDay, TEN, day_ranked_in, days_ranked}
use Rattle.aq_reports.specs.Daily.Ranked.{place_in, ranked_from, with_value, IsHighest}
use Rattle.aq_reports.specs.declared.daily.ranked.Highest.{Highest}

-- ---- a day put into its place

pub placed : (row : RankedDay) (rows : List RankedDay) → insert rows (place_in row.value rows) row ≡ day_ranked_in row rows
placed row [] = refl
placed row (other ∷ rows) = by (int_lt row.value other.value) (placed row rows)
  where
    by : (b : Bool) → insert rows (place_in row.value rows) row ≡ day_ranked_in row rows
        → insert (other ∷ rows) (cond b (suc (place_in row.value rows)) 0) row ≡ cond b (other ∷ day_ranked_in row rows) (row ∷ other ∷ rows)
    by true rest = ap (λ (l : List RankedDay). other ∷ l) rest
    by false rest = refl

pub placed-within : (value : ℤ) (rows : List RankedDay) → place_in value rows ≤ length rows
placed-within value [] = omega arith
placed-within value (row ∷ rows) = by (int_lt value row.value) (placed-within value rows)
  where
    by : (b : Bool) → place_in value rows ≤ length rows → cond b (suc (place_in value rows)) 0 ≤ suc (length rows)
    by true rest = omega (arith, rest)
    by false rest = omega arith

-- ---- how many are ranked

one-longer : (row : RankedDay) (rows : List RankedDay) → length (day_ranked_in row rows) ≡ suc (length rows)
one-longer row [] = refl
one-longer row (other ∷ rows) = by (int_lt row.value other.value) (one-longer row rows)
  where
    by : (b : Bool) → length (day_ranked_in row rows) ≡ suc (length rows) → length (cond b (other ∷ day_ranked_in row rows) (row ∷ other ∷ rows)) ≡ suc (suc (length rows))
    by true rest = ap suc rest
    by false rest = refl

pub one-more : (row : RankedDay) (rows : List RankedDay) (n m : ℕ) → n ≡ length (days_ranked rows) → m ≡ n + 1 → m ≡ length (days_ranked (row ∷ rows))
unfolding days_ranked
one-more row rows n m is next = omega (arith, is, next, one-longer row (days_ranked rows))

-- ---- the first of them

shorter : (n : ℕ) (row : RankedDay) (rows : List RankedDay) → take n (row ∷ take n rows) ≡ take n (row ∷ rows)
shorter zero row rows = refl
shorter (suc n) row rows = ap (λ (l : List RankedDay). row ∷ l) (twice n rows)
  where
    twice : (n : ℕ) (rows : List RankedDay) → take n (take (suc n) rows) ≡ take n rows
    twice zero rows = refl
    twice (suc n) [] = refl
    twice (suc n) (row ∷ rows) = ap (λ (l : List RankedDay). row ∷ l) (twice n rows)

first-ranked : (n : ℕ) (row : RankedDay) (rows : List RankedDay) → take n (day_ranked_in row (take n rows)) ≡ take n (day_ranked_in row rows)
first-ranked zero row rows = refl
first-ranked (suc n) row [] = refl
first-ranked (suc n) row (other ∷ rows) = by (int_lt row.value other.value) (first-ranked n row rows)
  where
    by : (b : Bool) → take n (day_ranked_in row (take n rows)) ≡ take n (day_ranked_in row rows)
        → take (suc n) (cond b (other ∷ day_ranked_in row (take n rows)) (row ∷ other ∷ take n rows)) ≡ take (suc n) (cond b (other ∷ day_ranked_in row rows) (row ∷ other ∷ rows))
    by true rest = ap (λ (l : List RankedDay). other ∷ l) rest
    by false rest = ap (λ (l : List RankedDay). row ∷ l) (shorter n other rows)

pub ten-more : (n : ℕ) (row : RankedDay) (rows before after : List RankedDay) → before ≡ take n (days_ranked rows) → after ≡ take n (day_ranked_in row before) → after ≡ take n (days_ranked (row ∷ rows))
unfolding days_ranked
ten-more n row rows before after is next = next ∙ ap (λ (l : List RankedDay). take n (day_ranked_in row l)) is ∙ first-ranked n row (days_ranked rows)

-- ---- the highest, with one day more before all others

pub adds-day : (day : ℕ) (value : Option ℤ) (v : ℤ) (rows : List RankedDay) (before after : Highest) → value ≡ Some v → IsHighest rows before → after.ranked ≡ before.ranked + 1
    → after.days.items ≡ take TEN (day_ranked_in (record { day = day; value = v }) before.days.items) → IsHighest (with_value day value rows) after
adds-day day value v rows before after is held next put =
    let row : RankedDay = record { day = day; value = v } in
    let more : IsHighest (row ∷ rows) after = record {
      ranked_is = one-more row rows before.ranked after.ranked held.ranked_is next;
      days_are = ten-more TEN row rows before.days.items after.days.items held.days_are put;
    }
    in
    subst (λ (o : Option ℤ). IsHighest (with_value day o rows) after) (sym is) more

pub none-ranked : (day : ℕ) (values : List (Option ℤ)) (found : Highest) → found.ranked ≡ 0 → found.days.items ≡ [] → IsHighest (ranked_from day (drop (length values) values)) found
unfolding days_ranked
none-ranked day values found none empty =
    let nothing : IsHighest [] found = record { ranked_is = none; days_are = empty } in
    subst (λ (l : List (Option ℤ)). IsHighest (ranked_from day l) found) (sym (drop-length values)) nothing

pub one-before : (first place : ℕ) (values : List (Option ℤ)) → 0 < place → place ≤ length values
    → ranked_from (first + (place - 1)) (drop (place - 1) values) ≡ with_value (first + (place - 1)) (get_or values (place - 1) None) (ranked_from (first + place) (drop place values))
one-before first zero values some within = absurd (omega (arith, some))
one-before first (suc k) values some within =
    let back : suc k - 1 ≡ k = omega arith in
    rw back (by first k values (omega (arith, within)))
  where
    by : (first k : ℕ) (values : List (Option ℤ)) → k < length values
        → ranked_from (first + k) (drop k values) ≡ with_value (first + k) (get_or values k None) (ranked_from (first + suc k) (drop (suc k) values))
    by first k [] within = absurd (omega (arith, within))
    by first zero (value ∷ values) within =
        let next : first + 0 + 1 ≡ first + 1 = omega arith in
        ap (λ (n : ℕ). with_value (first + 0) value (ranked_from n values)) next
    by first (suc k) (value ∷ values) within =
        let one : first + suc k ≡ first + 1 + k = omega arith in
        let two : first + suc (suc k) ≡ first + 1 + suc k = omega arith in
        rw (one, two) (by (first + 1) k values (omega (arith, within)))

-- ---- the values of days

abbrev pub ranked_by : (ℕ → Option ℤ) → ℕ → Option RankedDay
ranked_by f day = option_map (λ v. record { day = day; value = v }) (f day)

-- the ranked days of the values that the days have
pub ranked-days : (f : ℕ → Option ℤ) (first n : ℕ) → ranked_from first (map f (range_with_len first n)) ≡ filter_map (ranked_by f) (range_with_len first n)
ranked-days f first zero = refl
ranked-days f first (suc n) = ap (λ (l : List RankedDay). cons_option (ranked_by f first) l) (ranked-days f (first + 1) n)
