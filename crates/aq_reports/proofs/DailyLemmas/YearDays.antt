-- The days of a year are those of its four quarters.
use Rattle.std.proofs.Common.{◌≡◌, ℕ, zero, suc, ◌+◌, ◌-◌, ◌*◌, ◌%◌, ◌≤◌, List, [], ◌∷◌, ◌++◌, length, map, refl, ap, ◌∙◌, arith}
use Rattle.std.specs.Int.{IsInRange}
use Rattle.std.specs.List.{range_with_len}
use Rattle.std.proofs.lemmas.List.FromFn.{length-map-range_with_len}
use Rattle.aq_base.specs.Calendar.{day_number, days_in_quarter, days_in_year, days_of_years, quarter_first, quarter_number, quarter_year, year_first}
use Rattle.aq_base.specs.declared.day.TheConstants.{FIRST_YEAR, LAST_YEAR}
use Rattle.aq_cal.proofs.Dates.{days_of_years_next}
use Rattle.aq_cal.proofs.Lengths.{new_year}
use Rattle.aq_cal.proofs.Within.{quarter_next}
use Rattle.aq_rules.specs.Ozone.OzoneYear.{days_of}
use Rattle.aq_rules.specs.Particles.QuarterCounts.{days_of_quarter}

joined : (a m n : ℕ) → range_with_len a m ++ range_with_len (a + m) n ≡ range_with_len a (m + n)
joined a zero n = let same : a + 0 ≡ a = omega arith in let less : 0 + n ≡ n = omega arith in rw (same, less) refl
joined a (suc m) n =
    let same : a + suc m ≡ a + 1 + m = omega arith in
    let more : suc m + n ≡ suc (m + n) = omega arith in
    rw (same, more) (ap (λ (l : List ℕ). a ∷ l) (joined (a + 1) m n))

pub as-many : {X : Type 0} (f : ℕ → X) (year : ℕ) → length (map f (days_of year)) ≡ days_in_year year
unfolding days_of
as-many f year = length-map-range_with_len f (year_first year) (days_in_year year)

module _ (year : ℕ) where
  -- the first day of a quarter, by its part of the year
  abbrev first_of : ℕ → ℕ
  first_of part = quarter_first (quarter_number year part)

  next-first : (part : ℕ) → first_of (suc part) ≡ first_of part + days_in_quarter (quarter_number year part)
  next-first part =
      let next : quarter_number year (suc part) ≡ quarter_number year part + 1 = omega arith in
      ap (λ q. quarter_first q) next ∙ quarter_next (quarter_number year part)

  -- the days of the quarters before a part
  abbrev pub days_before : ℕ → List ℕ
  days_before zero = []
  days_before (suc part) = days_before part ++ days_of_quarter (quarter_number year part)

  pub one-quarter-more : (part : ℕ) → days_before part ++ days_of_quarter (quarter_number year part) ≡ days_before (part + 1)
  one-quarter-more part = let next : suc part ≡ part + 1 = omega arith in ap (λ n. days_before n) next

  no-earlier : (part : ℕ) → first_of 0 ≤ first_of part
  no-earlier zero = omega arith
  no-earlier (suc part) = omega (arith, no-earlier part, next-first part)

  before-are : (part : ℕ) → days_before part ≡ range_with_len (first_of 0) (first_of part - first_of 0)
  unfolding days_of_quarter
  before-are zero = let none : first_of 0 - first_of 0 ≡ 0 = omega arith in rw none refl
  before-are (suc part) =
      let long : ℕ = days_in_quarter (quarter_number year part) in
      let from : first_of part ≡ first_of 0 + (first_of part - first_of 0) = omega (arith, no-earlier part) in
      let all : first_of part - first_of 0 + long ≡ first_of (suc part) - first_of 0 = omega (arith, no-earlier part, next-first part) in
      (λ i. before-are part i ++ range_with_len (from i) long)
      ∙ joined (first_of 0) (first_of part - first_of 0) long
      ∙ ap (range_with_len (first_of 0)) all

  module _ (within : IsInRange FIRST_YEAR LAST_YEAR year) where
    begins-year : first_of 0 ≡ year_first year
    begins-year =
        let part : quarter_number year 0 % 4 ≡ 0 = omega arith in
        let whole : quarter_year (quarter_number year 0) ≡ year = omega (arith, within) in
        (λ i. day_number (whole i) (3 * part i + 1) 1) ∙ new_year year

    ends-year : first_of 4 ≡ year_first year + days_in_year year
    ends-year =
        let part : quarter_number year 4 % 4 ≡ 0 = omega arith in
        let whole : quarter_year (quarter_number year 4) ≡ year + 1 = omega (arith, within) in
        let since : year + 1 - FIRST_YEAR ≡ suc (year - FIRST_YEAR) = omega (arith, within) in
        let back : FIRST_YEAR + (year - FIRST_YEAR) ≡ year = omega (arith, within) in
        (λ i. day_number (whole i) (3 * part i + 1) 1) ∙ new_year (year + 1)
        ∙ ap days_of_years since ∙ days_of_years_next (year - FIRST_YEAR) ∙ ap (λ y. year_first year + days_in_year y) back

    pub year-days : days_before 4 ≡ days_of year
    unfolding days_of
    year-days =
        let long : first_of 4 - first_of 0 ≡ days_in_year year = omega (arith, begins-year, ends-year) in
        before-are 4 ∙ (λ i. range_with_len (begins-year i) (long i))
