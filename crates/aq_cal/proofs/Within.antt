-- Laws for callers: each day of the profile has a date, and a year and a quarter hold the days of their spans alone.
use Rattle.std.proofs.Common.{◌≡◌, ℕ, zero, suc, ◌+◌, ◌-◌, ◌*◌, ◌/◌, ◌%◌, ◌<◌, ◌≤◌, ◌↔◌, inl, inr, refl, sym, ap, ◌∙◌, arith}
use Rattle.std.proofs.lemmas.Bool.{cases_order}
use Rattle.aq_base.specs.Calendar.{years, days_in_year, days_in_month, days_of_years, days_of_months, day_number, year_first, year_of, month_of, day_of_month, quarter_number, quarter_of, quarter_year, quarter_first, days_in_quarter}
use Rattle.aq_base.specs.declared.day.TheConstants.{FIRST_YEAR, LAST_DAY}
use Rattle.aq_cal.proofs.Dates.{all_years, days_of_years_next}
use Rattle.aq_cal.proofs.Counts.{IsDay, years_before, months_before, months_more, months_all, year_is, month_is, day_is}
use Rattle.aq_cal.proofs.Lengths.{whole_quarter}

-- the place that a number has among rising ones
record Found (f : ℕ → ℕ) (k n : ℕ) : Type 0 where
  at : ℕ
  below : at < k
  low : f at ≤ n
  high : n < f (suc at)

find : (f : ℕ → ℕ) (k n : ℕ) → f 0 ≡ 0 → n < f k → Found f k n
find f zero n none h = absurd (omega arith)
find f (suc k) n none h =
    elim (cases_order n (f k)) [
      | inl same ↦ record { at = k; below = omega arith; low = omega arith; high = h }
      | inr (inl lt) ↦
          let found = find f k n none lt in
          record { at = found.at; below = omega arith; low = found.low; high = found.high }
      | inr (inr gt) ↦ record { at = k; below = omega arith; low = omega arith; high = h }
    ]

no_years : days_of_years 0 ≡ 0
unfolding days_of_years
no_years = refl

no_months : (year : ℕ) → days_of_months year 0 ≡ 0
unfolding days_of_months
no_months year = refl

-- the date of a number
record Dated (n : ℕ) : Type 0 where
  year : ℕ
  month : ℕ
  day : ℕ
  is : IsDay year month day
  number : day_number year month day ≡ n

dated : (n : ℕ) → n ≤ LAST_DAY → Dated n
dated n h =
    let y = find days_of_years years n no_years (omega (arith, all_years)) in
    let place : n - days_of_years y.at < days_of_months (FIRST_YEAR + y.at) 12 = omega (arith, y.low, y.high, days_of_years_next y.at, months_all (FIRST_YEAR + y.at)) in
    let m = find (days_of_months (FIRST_YEAR + y.at)) 12 (n - days_of_years y.at) (no_months (FIRST_YEAR + y.at)) place in
    let back : suc m.at - 1 ≡ m.at = omega arith in
    let more = rw back at (months_more (FIRST_YEAR + y.at) (suc m.at) (omega arith)) in
    let since : FIRST_YEAR + y.at - FIRST_YEAR ≡ y.at = omega arith in
    record {
      year = FIRST_YEAR + y.at;
      month = suc m.at;
      day = n - days_of_years y.at - days_of_months (FIRST_YEAR + y.at) m.at + 1;
      is = record {
        year_low = omega arith;
        year_high = omega (arith, y.below);
        month_low = omega arith;
        month_high = omega (arith, m.below);
        day_low = omega arith;
        day_high = omega (arith, m.high, m.low, more);
      };
      number = rw (since, back) (omega (arith, y.low, m.low));
    }

-- each number of a day is its date's
dated_so : (n : ℕ) → n ≤ LAST_DAY → IsDay (year_of n) (month_of n) (day_of_month n) × (day_number (year_of n) (month_of n) (day_of_month n) ≡ n)
dated_so n h =
    let d = dated n h in
    let y = ap year_of (sym d.number) ∙ year_is _ _ _ d.is in
    let m = ap month_of (sym d.number) ∙ month_is _ _ _ d.is in
    let k = ap day_of_month (sym d.number) ∙ day_is _ _ _ d.is in
    rw (k, m, y) (d.is, d.number)

pub date_is : (n : ℕ) → n ≤ LAST_DAY → IsDay (year_of n) (month_of n) (day_of_month n)
date_is n h = (dated_so n h).0

pub date_number : (n : ℕ) → n ≤ LAST_DAY → day_number (year_of n) (month_of n) (day_of_month n) ≡ n
date_number n h = (dated_so n h).1

-- where a quarter begins and ends, by its year and its place in that
first_is : (q year part : ℕ) → quarter_year q ≡ year → q % 4 ≡ part → quarter_first q ≡ days_of_years (year - FIRST_YEAR) + days_of_months year (3 * part)
first_is q year part y p =
    let back : 3 * part + 1 - 1 ≡ 3 * part = omega arith in
    rw (y, p, back) (omega arith)

end_is : (q year part : ℕ) → quarter_year q ≡ year → q % 4 ≡ part → quarter_first q + days_in_quarter q ≡ days_of_years (year - FIRST_YEAR) + days_of_months year (3 * part + 3)
end_is q year part y p =
    let three : 3 * part + 1 + 2 ≡ 3 * part + 3 = omega arith in
    let whole = rw (y, p, three) at (whole_quarter q) in
    let month : 28 ≤ days_in_month year (3 * part + 3) = grind arith in
    rw (y, p) (omega (arith, whole, months_more year (3 * part + 3) (omega arith)))

-- quarters follow one another
pub quarter_next : (q : ℕ) → quarter_first (q + 1) ≡ quarter_first q + days_in_quarter q
quarter_next q =
    elim (cases_order (q % 4) 3) [
      | inl last ↦
          let y : quarter_year (q + 1) ≡ quarter_year q + 1 = omega arith in
          let p : (q + 1) % 4 ≡ 0 = omega arith in
          let since : quarter_year q + 1 - FIRST_YEAR ≡ suc (quarter_year q - FIRST_YEAR) = omega arith in
          let whole : FIRST_YEAR + (quarter_year q - FIRST_YEAR) ≡ quarter_year q = omega arith in
          let begins = rw since at (first_is (q + 1) (quarter_year q + 1) 0 y p) in
          let ends = end_is q (quarter_year q) 3 refl last in
          let next = rw whole at (days_of_years_next (quarter_year q - FIRST_YEAR)) in
          begins ∙ omega (arith, next, months_all (quarter_year q), no_months (quarter_year q + 1)) ∙ sym ends
      | inr (inl lt) ↦
          let y : quarter_year (q + 1) ≡ quarter_year q = omega arith in
          let p : (q + 1) % 4 ≡ q % 4 + 1 = omega arith in
          let part : 3 * (q % 4 + 1) ≡ 3 * (q % 4) + 3 = omega arith in
          let begins = rw part at (first_is (q + 1) (quarter_year q) (q % 4 + 1) y p) in
          begins ∙ sym (end_is q (quarter_year q) (q % 4) refl refl)
      | inr (inr gt) ↦ absurd (omega arith)
    ]

quarters_mono : (q k : ℕ) → quarter_first q ≤ quarter_first (k + q)
quarters_mono q zero = let same : 0 + q ≡ q = omega arith in rw same (omega arith)
quarters_mono q (suc k) =
    let next : suc k + q ≡ k + q + 1 = omega arith in
    rw next (omega (arith, quarters_mono q k, quarter_next (k + q)))

quarters_before : (q r : ℕ) → q ≤ r → quarter_first q ≤ quarter_first r
quarters_before q r h = let same : r - q + q ≡ r = omega arith in rw same at (quarters_mono q (r - q))

date_within : (year month day q : ℕ) → IsDay year month day → q ≡ quarter_number year ((month - 1) / 3) → (quarter_first q ≤ day_number year month day) × (day_number year month day < quarter_first q + days_in_quarter q)
date_within year month day q h e =
    let y : quarter_year q ≡ year = omega (arith, h.year_low, h.month_high) in
    let p : q % 4 ≡ (month - 1) / 3 = omega (arith, h.month_high) in
    let begins = first_is q year ((month - 1) / 3) y p in
    let ends = end_is q year ((month - 1) / 3) y p in
    let low = months_before year (3 * ((month - 1) / 3)) (month - 1) (omega arith) in
    let high = months_before year month (3 * ((month - 1) / 3) + 3) (omega (arith, h.month_low)) in
    let more = months_more year month h.month_low in
    (omega (arith, begins, low), omega (arith, ends, high, more, h.day_low, h.day_high))

day_within : (n : ℕ) → n ≤ LAST_DAY → (quarter_first (quarter_of n) ≤ n) × (n < quarter_first (quarter_of n) + days_in_quarter (quarter_of n))
day_within n h =
    let within = date_within (year_of n) (month_of n) (day_of_month n) (quarter_of n) (date_is n h) refl in
    let same = date_number n h in
    (omega (arith, within.0, same), omega (arith, within.1, same))

-- a quarter's days are those from its first on, as many as it has
pub quarter_holds : (q n : ℕ) → n ≤ LAST_DAY → (quarter_of n ≡ q) ↔ ((quarter_first q ≤ n) × (n < quarter_first q + days_in_quarter q))
quarter_holds q n h = (
  λ e. rw (← e) (day_within n h),
  λ within.
      elim (cases_order (quarter_of n) q) [
        | inl same ↦ same
        | inr (inl lt) ↦ absurd (omega (arith, within.0, day_within n h, quarter_next (quarter_of n), quarters_before (quarter_of n + 1) q (omega arith)))
        | inr (inr gt) ↦ absurd (omega (arith, within.1, day_within n h, quarter_next q, quarters_before (q + 1) (quarter_of n) (omega arith)))
      ],
)

year_within : (n : ℕ) → n ≤ LAST_DAY → (year_first (year_of n) ≤ n) × (n < year_first (year_of n) + days_in_year (year_of n))
year_within n h =
    let is = date_is n h in
    let more = months_more (year_of n) (month_of n) is.month_low in
    let high = months_before (year_of n) (month_of n) 12 is.month_high in
    omega (arith, date_number n h, more, high, months_all (year_of n), is.day_low, is.day_high)

year_next : (year : ℕ) → FIRST_YEAR ≤ year → year_first (year + 1) ≡ year_first year + days_in_year year
year_next year h =
    let since : year + 1 - FIRST_YEAR ≡ suc (year - FIRST_YEAR) = omega arith in
    let whole : FIRST_YEAR + (year - FIRST_YEAR) ≡ year = omega arith in
    rw since (rw whole at (days_of_years_next (year - FIRST_YEAR)))

-- a year's days are those from its first on, as many as it has
pub year_holds : (year n : ℕ) → FIRST_YEAR ≤ year → n ≤ LAST_DAY → (year_of n ≡ year) ↔ ((year_first year ≤ n) × (n < year_first year + days_in_year year))
year_holds year n low h = (
  λ e. rw (← e) (year_within n h),
  λ within.
      elim (cases_order (year_of n) year) [
        | inl same ↦ same
        | inr (inl lt) ↦ absurd (omega (arith, within.0, year_within n h, year_next (year_of n) (date_is n h).year_low, years_before (year_of n + 1 - FIRST_YEAR) (year - FIRST_YEAR) (omega arith)))
        | inr (inr gt) ↦ absurd (omega (arith, within.1, year_within n h, year_next year low, years_before (year + 1 - FIRST_YEAR) (year_of n - FIRST_YEAR) (omega arith)))
      ],
)
