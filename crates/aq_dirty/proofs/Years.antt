-- The day that reads an hour, and its year, rise by one at most from hour to hour.
use Rattle.std.proofs.Common.{◌≡◌, ℕ, ◌+◌, ◌-◌, ◌≤◌, ◌<◌, ◌⊎◌, inl, inr, refl, ap, sym, ◌∙◌, subst, arith, suc, true, false}
use Rattle.std.specs.Prelude.{◌%◌, ◌/◌, ◌==◌, cond}
use Rattle.std.proofs.lemmas.Bool.{cases_order}
use Rattle.aq_base.specs.Calendar.{days_in_year, days_of_years, year_first, year_of}
use Rattle.aq_base.specs.declared.day.TheConstants.{FIRST_YEAR, LAST_DAY, LAST_HOUR}
use Rattle.aq_cal.proofs.Within.{date_is, year_holds}
use Rattle.aq_dirty.specs.Reach.{day_reading}
use Rattle.aq_dirty.proofs.Ranges.{Climbs, rising}

year_next : (year : ℕ) → FIRST_YEAR ≤ year → year_first (year + 1) ≡ year_first year + days_in_year year
unfolding days_of_years
year_next year h =
    let since : suc (year - FIRST_YEAR) ≡ year + 1 - FIRST_YEAR = omega arith in
    let whole : FIRST_YEAR + (year - FIRST_YEAR) ≡ year = omega arith in
    sym (ap days_of_years since) ∙ ap (λ y. days_of_years (year - FIRST_YEAR) + days_in_year y) whole

some_days : (year : ℕ) → 0 < days_in_year year
some_days year = elim (year % 4 == 0) as (λ b. 0 < cond b 366 365) [ true ↦ omega arith | false ↦ omega arith ]

pub year_step : (d : ℕ) → d < LAST_DAY → (year_of (d + 1) ≡ year_of d) ⊎ (year_of (d + 1) ≡ year_of d + 1)
year_step d h =
    let y = year_of d in
    let low : FIRST_YEAR ≤ y = (date_is d (omega arith)).year_low in
    let within = (year_holds y d low (omega arith)).0 refl in
    elim (order (d + 1) (year_first y + days_in_year y)) [
      | inl before ↦ inl ((year_holds y (d + 1) low (omega arith)).1 (omega (arith, within.0), before))
      | inr from ↦
          let next = year_next y low in
          let some = some_days (y + 1) in
          inr ((year_holds (y + 1) (d + 1) (omega arith) (omega arith)).1 (omega (arith, within.1, next), omega (arith, within.1, next, some)))
    ]
  where
    order : (a b : ℕ) → (a < b) ⊎ (b ≤ a)
    order a b = elim (cases_order a b) [ inl same ↦ inr (omega arith) | inr (inl lt) ↦ inl lt | inr (inr gt) ↦ inr (omega arith) ]

day_step : (h : ℕ) → (day_reading (h + 1) ≡ day_reading h) ⊎ (day_reading (h + 1) ≡ day_reading h + 1)
day_step h =
    elim (cases_order (day_reading (h + 1)) (day_reading h)) [
      | inl same ↦ inl same
      | inr (inl lt) ↦ absurd (omega arith)
      | inr (inr gt) ↦ inr (omega arith)
    ]

still : (h : ℕ) → h < 7 → day_reading (h + 1) ≡ day_reading h
still h low = let e : h + 1 - 7 ≡ h - 7 = omega arith in ap (λ n. n / 24) e

pub days-climb : (a k : ℕ) → Climbs day_reading a k
days-climb a k = λ h low high.
    elim (day_step h) [ inl same ↦ (omega (arith, same), omega (arith, same), still h) | inr more ↦ (omega (arith, more), omega (arith, more), still h) ]

pub years-climb : (a k : ℕ) → a + k ≤ LAST_HOUR → Climbs (λ h. year_of (day_reading h)) a k
years-climb a k end = λ h low high.
    let flat : h < 7 → year_of (day_reading (h + 1)) ≡ year_of (day_reading h) = λ before. ap year_of (still h before) in
    elim (day_step h) [
      | inl same ↦ let e = ap year_of same in (omega (arith, e), omega (arith, e), flat)
      | inr more ↦
          let inside : day_reading h < LAST_DAY = omega (arith, more) in
          elim (year_step (day_reading h) inside) [
            | inl same ↦ let e = ap year_of more ∙ same in (omega (arith, e), omega (arith, e), flat)
            | inr next ↦ let e = ap year_of more ∙ next in (omega (arith, e), omega (arith, e), flat)
          ]
    ]

-- a later hour is read by no earlier day, nor in an earlier year
pub days-rise : (first last : ℕ) → first ≤ last → day_reading first ≤ day_reading last
days-rise first last h =
    let whole : first + (last - first) ≡ last = omega arith in
    subst (λ l. day_reading first ≤ day_reading l) whole (rising day_reading first (last - first) (days-climb first (last - first)))

pub years-rise : (first last : ℕ) → first ≤ last → last ≤ LAST_HOUR → year_of (day_reading first) ≤ year_of (day_reading last)
years-rise first last h end =
    let whole : first + (last - first) ≡ last = omega arith in
    subst (λ l. year_of (day_reading first) ≤ year_of (day_reading l)) whole
    (rising (λ h. year_of (day_reading h)) first (last - first) (years-climb first (last - first) (omega (arith, whole))))
