-- A day's year, month and day of the month are those of its date.
use Rattle.std.proofs.Common.{◌≡◌, ℕ, zero, suc, ◌+◌, ◌-◌, ◌<◌, ◌≤◌, Bool, true, false, cond, nat_le, refl, ap, ◌∙◌, arith, pos}
use Rattle.std.specs.Prelude.{count_by, unsigned_abs}
use Rattle.std.specs.List.{range_with_len}
use Rattle.std.proofs.lemmas.List.Sums.{sum_by-cons}
use Rattle.std.proofs.lemmas.Bool.Decides.{nat_tests}
use Rattle.aq_base.specs.Calendar.{years, days_in_year, days_in_month, days_of_years, days_of_months, day_number, day_of_year, year_of, month_of, day_of_month}
use Rattle.aq_base.specs.declared.day.TheConstants.{FIRST_YEAR, LAST_YEAR}
use Rattle.jiff_core.specs.Calendar as Civil
use Rattle.jiff_core.specs.declared.civil.date.Date.{Date}
use Rattle.jiff_core.proofs.SignedLemmas.{signed_arith}
use Rattle.aq_cal.proofs.Dates.{days_of_years_next, not_negative, month_length}

count_none : (p : ℕ → Bool) (a n : ℕ) → ((i : ℕ) → a ≤ i → p i ≡ false) → count_by p (range_with_len a n) ≡ 0
count_none p a zero above = refl
count_none p a (suc n) above =
    let first = above a (omega arith) in
    let rest = count_none p (a + 1) n (λ i le. above i (omega arith)) in
    sum_by-cons (λ i. cond (p i) 1 0) a (range_with_len (a + 1) n) ∙ ap (λ b. cond b 1 0 + count_by p (range_with_len (a + 1) n)) first ∙ omega arith

-- how many numbers of a range are below a + k, where the test says that
count_below : (p : ℕ → Bool) (a n k : ℕ) → k ≤ n → ((i : ℕ) → i < a + k → p i ≡ true) → ((i : ℕ) → a + k ≤ i → p i ≡ false) → count_by p (range_with_len a n) ≡ k
count_below p a n zero h below above = count_none p a n (λ i le. above i (omega arith))
count_below p a zero (suc k) h below above = absurd (omega arith)
count_below p a (suc n) (suc k) h below above =
    let first = below a (omega arith) in
    let rest = count_below p (a + 1) n k (omega arith) (λ i lt. below i (omega arith)) (λ i le. above i (omega arith)) in
    sum_by-cons (λ i. cond (p i) 1 0) a (range_with_len (a + 1) n) ∙ ap (λ b. cond b 1 0 + count_by p (range_with_len (a + 1) n)) first ∙ omega arith

le_true : (a b : ℕ) → a ≤ b → nat_le a b ≡ true
le_true a b h = grind (arith, nat_tests)

le_false : (a b : ℕ) → b < a → nat_le a b ≡ false
le_false a b h = grind (arith, nat_tests)

years_mono : (n k : ℕ) → days_of_years n ≤ days_of_years (k + n)
years_mono n zero = let same : 0 + n ≡ n = omega arith in rw same (omega arith)
years_mono n (suc k) =
    let next : suc k + n ≡ suc (k + n) = omega arith in
    rw next (omega (arith, years_mono n k, days_of_years_next (k + n)))

-- the years before another are over before it
pub years_before : (m n : ℕ) → m ≤ n → days_of_years m ≤ days_of_years n
years_before m n h = let same : n - m + m ≡ n = omega arith in rw same at (years_mono m (n - m))

pub months_more : (year m : ℕ) → 1 ≤ m → days_of_months year m ≡ days_of_months year (m - 1) + days_in_month year m
unfolding days_of_months
months_more year zero h = absurd (omega arith)
months_more year (suc m) h = let back : suc m - 1 ≡ m = omega arith in rw back

pub months_all : (year : ℕ) → days_of_months year 12 ≡ days_in_year year
unfolding days_of_months
months_all year = grind arith

months_mono : (year m k : ℕ) → days_of_months year m ≤ days_of_months year (k + m)
months_mono year m zero = let same : 0 + m ≡ m = omega arith in rw same (omega arith)
months_mono year m (suc k) =
    let back : suc k + m - 1 ≡ k + m = omega arith in
    omega (arith, months_mono year m k, rw back at (months_more year (suc k + m) (omega arith)))

pub months_before : (year m n : ℕ) → m ≤ n → days_of_months year m ≤ days_of_months year n
months_before year m n h = let same : n - m + m ≡ n = omega arith in rw same at (months_mono year m (n - m))

-- a date of the profile
pub record IsDay (year month day : ℕ) : Type 0 where
  pub year_low : FIRST_YEAR ≤ year
  pub year_high : year ≤ LAST_YEAR
  pub month_low : 1 ≤ month
  pub month_high : month ≤ 12
  pub day_low : 1 ≤ day
  pub day_high : day ≤ days_in_month year month

-- its place in its year
abbrev place : ℕ → ℕ → ℕ → ℕ
place year month day = days_of_months year (month - 1) + (day - 1)

place_before : (year month day later : ℕ) → IsDay year month day → month ≤ later → place year month day < days_of_months year later
place_before year month day later h le =
    omega (arith, months_more year month h.month_low, months_before year month later le)

place_after : (year month day earlier : ℕ) → IsDay year month day → earlier < month → days_of_months year earlier ≤ place year month day
place_after year month day earlier h lt = omega (arith, months_before year earlier (month - 1) (omega arith))

pub year_is : (year month day : ℕ) → IsDay year month day → year_of (day_number year month day) ≡ year
unfolding year_of
year_is year month day h =
    let n = day_number year month day in
    let next : FIRST_YEAR + (year - FIRST_YEAR) ≡ year = omega (arith, h.year_low) in
    let last : n < days_of_years (suc (year - FIRST_YEAR)) = rw (days_of_years_next (year - FIRST_YEAR), next) (omega (arith, place_before year month day 12 h h.month_high, months_all year)) in
    let count = count_below (λ i. nat_le (days_of_years (i + 1)) n) 0 years (year - FIRST_YEAR) (omega (arith, h.year_high))
    (λ i lt. le_true _ _ (omega (arith, years_before (i + 1) (year - FIRST_YEAR) (omega arith))))
    (λ i le. le_false _ _ (omega (arith, years_before (suc (year - FIRST_YEAR)) (i + 1) (omega arith)))) in
    ap (λ k. FIRST_YEAR + k) count ∙ next

in_year : (year month day : ℕ) → IsDay year month day → day_of_year (day_number year month day) ≡ place year month day
in_year year month day h = rw (year_is year month day h) (omega arith)

pub month_is : (year month day : ℕ) → IsDay year month day → month_of (day_number year month day) ≡ month
unfolding month_of
month_is year month day h =
    let count = count_below (λ i. nat_le (days_of_months year i) (place year month day)) 1 12 (month - 1) (omega (arith, h.month_high))
    (λ i lt. le_true _ _ (place_after year month day i h (omega (arith, h.month_low))))
    (λ i le. le_false _ _ (place_before year month day i h (omega (arith, h.month_low)))) in
    rw (in_year year month day h, year_is year month day h) (ap (λ k. 1 + k) count ∙ omega (arith, h.month_low))

pub day_is : (year month day : ℕ) → IsDay year month day → day_of_month (day_number year month day) ≡ day
day_is year month day h =
    rw (in_year year month day h, year_is year month day h, month_is year month day h) (omega (arith, h.day_low))

-- the same of one of jiff's dates
pub is_day : (d : Date) → Civil.IsBetween (pos FIRST_YEAR) (pos LAST_YEAR) d.year → IsDay (unsigned_abs d.year) d.month d.day
is_day d year =
    let same = not_negative d.year year.0 in
    let low : FIRST_YEAR ≤ unsigned_abs d.year = omega (arith, signed_arith, year.0) in
    let high : unsigned_abs d.year ≤ LAST_YEAR = omega (arith, signed_arith, year.1) in
    let last = rw (same, month_length (unsigned_abs d.year) d.month low high) at d.day_in.1 in
    record {
      year_low = low;
      year_high = high;
      month_low = d.month_in.0;
      month_high = d.month_in.1;
      day_low = d.day_in.0;
      day_high = last;
    }
