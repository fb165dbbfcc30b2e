-- The days of a quarter of the profile lie in that quarter, and quarters rise with the days.
use Rattle.std.proofs.Common.{◌≡◌, ℕ, ◌+◌, ◌-◌, ◌*◌, ◌/◌, ◌%◌, ◌<◌, ◌≤◌, true, refl, sym, ap, ◌∙◌, subst, arith, inl, inr}
use Rattle.std.specs.Prelude.{nat_le}
use Rattle.std.proofs.lemmas.Bool.{and_from, and_parts, cases_order, leb-true, le-leb}
use Rattle.aq_base.specs.Calendar.{years, is_year, year_of, days_of_years, days_of_months, quarter_of, quarter_number, quarter_year, quarter_first, days_in_quarter}
use Rattle.aq_base.specs.declared.day.TheConstants.{FIRST_YEAR, LAST_YEAR, LAST_DAY}
use Rattle.aq_rules.proofs.Days.{IsDate, date_of, months_next, twelve_months, years_next}
use Rattle.aq_rules.proofs.KeyOrder.{years_in_order, months_in_order}
use Rattle.aq_rules.proofs.Quarters.{first-is, days-are, three_months}
use Rattle.aq_dirty.proofs.OutOfReachLemmas.Years.{year_of-its_day, all-years}

quarter_of-date : (d y j : ℕ) → IsDate d y j → quarter_of d ≡ quarter_number y (j / 3)
quarter_of-date d y j is =
    let back : j + 1 - 1 ≡ j = omega arith in
    let year = is.year in
    let month = is.month in
    rw (year, month, back) refl

pub record InQuarter (quarter day : ℕ) : Type 0 where
  pub is_of : quarter_of day ≡ quarter
  pub in_profile : day ≤ LAST_DAY

-- which month a day of a year lies in, by the days of the months before it
part-of : (y p j d s : ℕ) → p < 4 → j < 12 → s + days_of_months y j ≤ d → d < s + days_of_months y (j + 1)
    → s + days_of_months y (3 * p) ≤ d → d < s + days_of_months y (3 * p + 3) → j / 3 ≡ p
part-of y p j d s few few_months from before low high =
    elim (cases_order (j / 3) p) [
      | inl same ↦ same
      | inr (inl less) ↦ absurd (omega (arith, before, low, months_in_order y (j + 1) (3 * p) (omega (arith, less))))
      | inr (inr more) ↦ absurd (omega (arith, from, high, months_in_order y (3 * p + 3) j (omega (arith, more))))
    ]

by-date : (quarter day y j : ℕ) → IsDate day y j → y ≡ quarter_year quarter
    → days_of_years (quarter / 4) + days_of_months (quarter_year quarter) (3 * (quarter % 4)) ≤ day
    → day < days_of_years (quarter / 4) + days_of_months (quarter_year quarter) (3 * (quarter % 4) + 3)
    → quarter_of day ≡ quarter
by-date quarter day y j date same low high =
    let is : IsDate day (quarter_year quarter) j = subst (λ z. IsDate day z j) same date in
    let place : quarter_year quarter - FIRST_YEAR ≡ quarter / 4 = omega arith in
    let start : days_of_years (quarter_year quarter - FIRST_YEAR) ≡ days_of_years (quarter / 4) = ap days_of_years place in
    let from = is.from in
    let day_is = is.day in
    let within = is.within in
    let next = months_next (quarter_year quarter) j in
    let part = part-of (quarter_year quarter) (quarter % 4) j day (days_of_years (quarter / 4)) (omega arith) is.few (omega (arith, from, start)) (omega (arith, from, day_is, within, next, start)) low high in
    quarter_of-date day (quarter_year quarter) j is ∙ omega (arith, part)

pub in-quarter : (quarter day : ℕ) → is_year (quarter_year quarter) ≡ true → quarter_first quarter ≤ day → day < quarter_first quarter + days_in_quarter quarter → InQuarter quarter day
in-quarter quarter day inside low high =
    let y = quarter_year quarter in
    let p = quarter % 4 in
    let place : y - FIRST_YEAR ≡ quarter / 4 = omega arith in
    let start : days_of_years (y - FIRST_YEAR) ≡ days_of_years (quarter / 4) = ap days_of_years place in
    let first = first-is quarter y p refl refl in
    let days = days-are quarter y p refl refl in
    let whole = three_months y p in
    let months = months_in_order y (3 * p + 3) 12 (omega arith) in
    let twelve = twelve_months y in
    let before = months_in_order y 0 (3 * p) (omega arith) in
    let from : days_of_years (quarter / 4) + days_of_months y (3 * p) ≤ day = omega (arith, low, first, start) in
    let until : day < days_of_years (quarter / 4) + days_of_months y (3 * p + 3) = omega (arith, high, first, start, days, whole) in
    let year : year_of day ≡ y = year_of-its_day y day inside (omega (arith, from, start)) (omega (arith, until, months, twelve, start)) in
    let last : y ≤ LAST_YEAR = leb-true y LAST_YEAR (and_parts (nat_le FIRST_YEAR y) (nat_le y LAST_YEAR) inside).1 in
    let next = years_next (quarter / 4) in
    let small : day ≤ LAST_DAY = omega (arith, until, months, twelve, next, years_in_order (quarter / 4 + 1) years (omega (arith, last)), all-years) in
    let date = date_of day small in
    record { is_of = by-date quarter day _ _ date (sym date.year ∙ year) from until; in_profile = small }

-- ---- quarters rise with the days

rise-dates : (d e y z j i : ℕ) → IsDate d y j → IsDate e z i → d ≤ e → quarter_number y (j / 3) ≤ quarter_number z (i / 3)
rise-dates d e y z j i a b most =
    let fromA = a.from in
    let beforeA = a.before in
    let dayA = a.day in
    let withinA = a.within in
    let nextA = months_next y j in
    let fromB = b.from in
    let beforeB = b.before in
    let dayB = b.day in
    let withinB = b.within in
    let nextB = months_next z i in
    let few = a.few in
    let lowA = a.in_profile.0 in
    let lowB = b.in_profile.0 in
    elim (cases_order y z) [
      | inl same ↦
          let start : days_of_years (y - FIRST_YEAR) ≡ days_of_years (z - FIRST_YEAR) = ap (λ k. days_of_years (k - FIRST_YEAR)) same in
          let months : days_of_months y j ≡ days_of_months z j = ap (λ k. days_of_months k j) same in
          elim (cases_order j i) [
            | inl equal ↦ omega (arith, same, equal)
            | inr (inl less) ↦ omega (arith, same, less)
            | inr (inr more) ↦ absurd (omega (arith, most, start, months, fromA, dayB, withinB, nextB, months_in_order z (i + 1) j (omega (arith, more))))
          ]
      | inr (inl less) ↦ omega (arith, less, few, lowA, lowB)
      | inr (inr more) ↦ absurd (omega (arith, most, fromA, beforeB, years_in_order (z - FIRST_YEAR + 1) (y - FIRST_YEAR) (omega (arith, more, lowB))))
    ]

most-along : (a b c d : ℕ) → a ≡ b → c ≡ d → b ≤ d → a ≤ c
most-along a b c d first second most = omega (arith, first, second, most)

pub quarters-rise : (d e : ℕ) → d ≤ e → e ≤ LAST_DAY → quarter_of d ≤ quarter_of e
quarters-rise d e most last =
    let a = date_of d (omega (arith, most, last)) in
    let b = date_of e last in
    most-along (quarter_of d) _ (quarter_of e) _ (quarter_of-date d _ _ a) (quarter_of-date e _ _ b) (rise-dates d e _ _ _ _ a b most)

-- ---- years of quarters

date-year : (d y j : ℕ) → IsDate d y j → year_of d ≡ quarter_year (quarter_number y (j / 3))
date-year d y j is =
    let year = is.year in
    let few = is.few in
    let low = is.in_profile.0 in
    year ∙ omega (arith, few, low)

pub year-of_quarter : (quarter day : ℕ) → InQuarter quarter day → year_of day ≡ quarter_year quarter
year-of_quarter quarter day is =
    let date = date_of day is.in_profile in
    date-year day _ _ date ∙ ap quarter_year (sym (quarter_of-date day _ _ date) ∙ is.is_of)

-- the quarters of a year lie in it
pub quarter-in_year : (year part : ℕ) → part < 4 → is_year year ≡ true → quarter_year (quarter_number year part) ≡ year
quarter-in_year year part few inside =
    let low : FIRST_YEAR ≤ year = leb-true FIRST_YEAR year (and_parts (nat_le FIRST_YEAR year) (nat_le year LAST_YEAR) inside).0 in
    omega (arith, few, low)

pub quarter_of-is_year : (day : ℕ) → day ≤ LAST_DAY → is_year (quarter_year (quarter_of day)) ≡ true
quarter_of-is_year day small =
    let date = date_of day small in
    let year = sym (year-of_quarter (quarter_of day) day (record { is_of = refl; in_profile = small })) ∙ date.year in
    subst (λ y. is_year y ≡ true) (sym year) (and_from _ _ (le-leb FIRST_YEAR _ date.in_profile.0) (le-leb _ LAST_YEAR date.in_profile.1))
