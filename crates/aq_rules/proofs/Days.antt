-- A day of the profile is the day of its year, month and day of the month.
use Rattle.std.proofs.Common.{◌≡◌, ℕ, suc, zero, ◌+◌, ◌-◌, ◌%◌, ◌<◌, ◌≤◌, true, false, cond, Some, None, refl, sym, ap, ◌∙◌, arith, inl, inr, subst, add-one}
use Rattle.std.specs.Prelude.{nat_lt, nat_le, ◌==◌, count_by, if◌then◌else◌}
use Rattle.std.specs.List.{range_with_len}
use Rattle.std.proofs.lemmas.List.Sums.{sum_by-cons}
use Rattle.std.proofs.lemmas.Bool.Decides.{nat_tests}
use Rattle.std.proofs.lemmas.Bool.{cases_Bool}
use Rattle.aq_base.specs.Calendar.{years, days_of_years, days_of_months, days_in_year, days_in_month, year_of, month_of, day_of_month, day_of_year, year_first, day_number, day_of_date, is_date}
use Rattle.aq_base.specs.declared.day.TheConstants.{FIRST_YEAR, LAST_YEAR, LAST_DAY}

-- how many of a rising row of numbers are at most d
record Counted (h : ℕ → ℕ) (start len d k : ℕ) : Type 0 where
  low : (j : ℕ) → k ≡ j + 1 → h (start + j) ≤ d
  high : k < len → d < h (start + k)
  most : k ≤ len

at_most : (h : ℕ → ℕ) (d : ℕ) → ℕ → ℕ → ℕ
at_most h d start len = count_by (λ n. nat_le (h n) d) (range_with_len start len)

next_test : (h : ℕ → ℕ) (d start len : ℕ) → at_most h d start (suc len) ≡ cond (nat_le (h start) d) 1 0 + at_most h d (start + 1) len
unfolding at_most
next_test h d start len = sum_by-cons (λ n. cond (nat_le (h n) d) 1 0) start (range_with_len (start + 1) len)

none_left : (h : ℕ → ℕ) → ((n : ℕ) → h n ≤ h (n + 1)) → (d start len : ℕ) → d < h start → at_most h d start len ≡ 0
none_left h rising d start zero above = unfold at_most in refl
none_left h rising d start (suc len) above =
    let more = rising start in
    let rest : at_most h d (start + 1) len ≡ 0 = none_left h rising d (start + 1) len (omega arith) in
    let test : nat_le (h start) d ≡ false = grind (arith, nat_tests) in
    let step : at_most h d start (suc len) ≡ 0 + at_most h d (start + 1) len =
    next_test h d start len ∙ ap (λ b. cond b 1 0 + at_most h d (start + 1) len) test
    in
    omega (arith, step, rest)

counted_more : (h : ℕ → ℕ) (start len d k : ℕ) → h start ≤ d → Counted h (start + 1) len d k → Counted h start (suc len) d (1 + k)
counted_more h start len d zero here c = record {
  low = λ j e. subst (λ x. h x ≤ d) (omega arith) here;
  high = λ l. subst (λ x. d < h x) (omega arith) (c.high (omega arith));
  most = omega (arith, c.most);
}
counted_more h start len d (suc k) here c = record {
  low = λ j e. subst (λ x. h x ≤ d) (omega arith) (c.low k (omega arith));
  high = λ l. subst (λ x. d < h x) (omega arith) (c.high (omega arith));
  most = omega (arith, c.most);
}

counted : (h : ℕ → ℕ) → ((n : ℕ) → h n ≤ h (n + 1)) → (start len d : ℕ) → Counted h start len d (at_most h d start len)
counted h rising start zero d =
    let none : at_most h d start zero ≡ 0 = unfold at_most in refl in
    record { low = λ j e. absurd (omega arith); high = λ l. absurd (omega arith); most = omega arith }
counted h rising start (suc len) d =
    elim (cases_Bool (nat_le (h start) d)) [
      | inl here ↦
          let below : h start ≤ d = grind (arith, nat_tests) in
          subst (λ k. Counted h start (suc len) d k)
          (sym (next_test h d start len ∙ ap (λ b. cond b 1 0 + at_most h d (start + 1) len) here))
          (counted_more h start len d (at_most h d (start + 1) len) below (counted h rising (start + 1) len d))
      | inr past ↦
          let above : d < h start = grind (arith, nat_tests) in
          let none = none_left h rising d start (suc len) above in
          record {
            low = λ j e. absurd (omega (arith, none));
            high = λ l. subst (λ x. d < h x) (omega (arith, none)) above;
            most = omega (arith, none);
          }
    ]

-- ---- years

pub years_next : (n : ℕ) → days_of_years (n + 1) ≡ days_of_years n + days_in_year (FIRST_YEAR + n)
unfolding days_of_years
years_next n = rw add-one refl

pub years_rise : (n : ℕ) → days_of_years n ≤ days_of_years (n + 1)
years_rise n = omega (arith, years_next n)

-- the number of a day's year from the first, and the days round it
pub record InYear (d k : ℕ) : Type 0 where
  pub few : k < years
  pub from : days_of_years k ≤ d
  pub before : d < days_of_years (k + 1)
  pub year : year_of d ≡ FIRST_YEAR + k

pub years_count : ℕ → ℕ
years_count d = at_most (λ n. days_of_years (n + 1)) d 0 years

year_few : (d k : ℕ) → d ≤ LAST_DAY → Counted (λ n. days_of_years (n + 1)) 0 years d k → k < years
unfolding days_of_years
year_few d k small c =
    elim (cases_Bool (nat_lt k years)) [
      | inl less ↦ grind (arith, nat_tests)
      | inr not_less ↦
          let most = c.most in
          let full : years ≤ k = grind (arith, nat_tests) in
          let past : LAST_DAY + 1 ≤ d = c.low (years - 1) (omega arith) in
          absurd (omega arith)
    ]

year_from : (d k : ℕ) → Counted (λ n. days_of_years (n + 1)) 0 years d k → days_of_years k ≤ d
year_from d zero c = unfold days_of_years in omega arith
year_from d (suc j) c = subst (λ n. days_of_years n ≤ d) (omega arith) (c.low j (omega arith))

pub in_year : (d : ℕ) → d ≤ LAST_DAY → InYear d (years_count d)
unfolding years_count year_of at_most
in_year d small =
    let c = counted (λ n. days_of_years (n + 1)) (λ n. years_rise (n + 1)) 0 years d in
    let few = year_few d (years_count d) small c in
    record {
      few = few;
      from = year_from d (years_count d) c;
      before = subst (λ n. d < days_of_years n) (omega arith) (c.high few);
      year = refl;
    }

-- ---- months

pub months_next : (y n : ℕ) → days_of_months y (n + 1) ≡ days_of_months y n + days_in_month y (n + 1)
unfolding days_of_months
months_next y n = rw add-one refl

pub months_rise : (y n : ℕ) → days_of_months y n ≤ days_of_months y (n + 1)
months_rise y n = omega (arith, months_next y n)

pub twelve_months : (y : ℕ) → days_of_months y 12 ≡ days_in_year y
unfolding days_of_months
twelve_months y = elim (cases_Bool (y % 4 == 0)) [ inl leap ↦ rw leap refl | inr plain ↦ rw plain refl ]

-- the months of a year that are over by a day of it
pub record InMonth (y day j : ℕ) : Type 0 where
  pub few : j < 12
  pub from : days_of_months y j ≤ day
  pub before : day < days_of_months y (j + 1)

pub months_count : ℕ → ℕ → ℕ
months_count y day = at_most (days_of_months y) day 1 12

month_few : (y day k : ℕ) → day < days_in_year y → Counted (days_of_months y) 1 12 day k → k < 12
month_few y day k small c =
    elim (cases_Bool (nat_lt k 12)) [
      | inl less ↦ grind (arith, nat_tests)
      | inr not_less ↦
          let most = c.most in
          let full : 12 ≤ k = grind (arith, nat_tests) in
          let past : days_of_months y 12 ≤ day = c.low 11 (omega arith) in
          let whole = twelve_months y in
          absurd (omega arith)
    ]

month_from : (y day k : ℕ) → Counted (days_of_months y) 1 12 day k → days_of_months y k ≤ day
month_from y day zero c = unfold days_of_months in omega arith
month_from y day (suc j) c = subst (λ n. days_of_months y n ≤ day) (omega arith) (c.low j (omega arith))

pub in_month : (y day : ℕ) → day < days_in_year y → InMonth y day (months_count y day)
unfolding months_count at_most
in_month y day small =
    let c = counted (days_of_months y) (months_rise y) 1 12 day in
    let few = month_few y day (months_count y day) small c in
    record {
      few = few;
      from = month_from y day (months_count y day) c;
      before = subst (λ n. day < days_of_months y n) (omega arith) (c.high few);
    }

-- ---- the date of a day

pub record IsDate (d y j : ℕ) : Type 0 where
  pub year : year_of d ≡ y
  pub in_profile : (FIRST_YEAR ≤ y) × (y ≤ LAST_YEAR)
  pub month : month_of d ≡ j + 1
  pub few : j < 12
  pub from : days_of_years (y - FIRST_YEAR) + days_of_months y j ≤ d
  pub day : day_of_month d ≡ d - (days_of_years (y - FIRST_YEAR) + days_of_months y j) + 1
  pub within : day_of_month d ≤ days_in_month y (j + 1)
  pub before : d < days_of_years (y - FIRST_YEAR + 1)

date_parts : (d k j : ℕ) → InYear d k → InMonth (FIRST_YEAR + k) (d - days_of_years k) j → month_of d ≡ j + 1
    → day_of_month d ≡ d - days_of_years k - days_of_months (FIRST_YEAR + k) j + 1 → IsDate d (FIRST_YEAR + k) j
date_parts d k j in_y in_m is_month is_day =
    let at : FIRST_YEAR + k - FIRST_YEAR ≡ k = omega arith in
    let from = in_y.from in
    let later = in_m.from in
    let before = in_m.before in
    let next = months_next (FIRST_YEAR + k) j in
    record {
      year = in_y.year;
      in_profile = (omega arith, omega (arith, in_y.few));
      month = is_month;
      few = in_m.few;
      from = rw at (omega arith);
      day = rw at (omega arith);
      within = omega arith;
      before = rw at in_y.before;
    }

month_opened : (d : ℕ) → month_of d ≡ 1 + months_count (year_of d) (day_of_year d)
unfolding month_of months_count at_most
month_opened d = refl

month_is : (d y day : ℕ) → year_of d ≡ y → day_of_year d ≡ day → month_of d ≡ months_count y day + 1
month_is d y day same_year same_day =
    let opened : month_of d ≡ 1 + months_count y day =
    month_opened d ∙ ap (λ t. 1 + months_count t (day_of_year d)) same_year ∙ ap (λ t. 1 + months_count y t) same_day
    in
    omega arith

pub date_of : (d : ℕ) → d ≤ LAST_DAY
    → IsDate d (FIRST_YEAR + years_count d) (months_count (FIRST_YEAR + years_count d) (d - days_of_years (years_count d)))
date_of d small =
    let in_y = in_year d small in
    let k = years_count d in
    let first : year_first (year_of d) ≡ days_of_years k =
    ap (λ y. days_of_years (y - FIRST_YEAR)) in_y.year ∙ ap days_of_years (omega arith)
    in
    let day : day_of_year d ≡ d - days_of_years k = ap (λ f. d - f) first in
    let next = years_next k in
    let low = in_y.from in
    let high = in_y.before in
    let short : d - days_of_years k < days_in_year (FIRST_YEAR + k) = omega arith in
    let in_m = in_month (FIRST_YEAR + k) (d - days_of_years k) short in
    let month = month_is d (FIRST_YEAR + k) (d - days_of_years k) in_y.year day in
    let j = months_count (FIRST_YEAR + k) (d - days_of_years k) in
    let before_month : days_of_months (year_of d) (month_of d - 1) ≡ days_of_months (FIRST_YEAR + k) j =
    ap (λ y. days_of_months y (month_of d - 1)) in_y.year ∙ ap (days_of_months (FIRST_YEAR + k)) (omega arith)
    in
    date_parts d k j in_y in_m month (ap (λ f. d - f - days_of_months (year_of d) (month_of d - 1) + 1) first ∙ ap (λ f. d - days_of_years k - f + 1) before_month)

pub day_of_date-parts : (d y j : ℕ) → IsDate d y j → day_of_date (year_of d) (month_of d) (day_of_month d) ≡ Some d
day_of_date-parts d y j is =
    let day = is.day in
    let from = is.from in
    let valid : is_date y (j + 1) (day_of_month d) ≡ true =
    grind (arith, nat_tests, is.in_profile.0, is.in_profile.1, is.few, is.within, day)
    in
    let month : j + 1 - 1 ≡ j = omega arith in
    let number : day_number y (j + 1) (day_of_month d) ≡ d = rw month (omega arith) in
    ap (λ a. day_of_date a (month_of d) (day_of_month d)) is.year
    ∙ ap (λ m. day_of_date y m (day_of_month d)) is.month
    ∙ ap (λ b. if b then Some (day_number y (j + 1) (day_of_month d)) else None) valid
    ∙ ap Some number

-- a day is the day of its date
pub day_of_date-date : (d : ℕ) → d ≤ LAST_DAY → day_of_date (year_of d) (month_of d) (day_of_month d) ≡ Some d
day_of_date-date d small = day_of_date-parts d _ _ (date_of d small)
