-- The days of a quarter and of a year are those from its first on, as many as it has.
use Rattle.std.proofs.Common.{◌≡◌, ℕ, ◌+◌, ◌-◌, ◌*◌, ◌/◌, ◌%◌, ◌<◌, ◌≤◌, refl, sym, ◌∙◌, arith}
use Rattle.aq_base.specs.Calendar.{days_in_month, days_in_quarter, days_of_years, days_of_months, quarter_first, quarter_number, quarter_of, quarter_year}
use Rattle.aq_base.specs.declared.day.TheConstants.{FIRST_YEAR}
use Rattle.aq_rules.proofs.Days.{IsDate, date_of, in_year, months_next, years_next, years_count}
use Rattle.aq_rules.proofs.KeyOrder.{months_in_order}
use Rattle.aq_rules.proofs.Pm25Counts.{HoldsDays}
use Rattle.aq_rules.proofs.OzoneFacts.{HoldsYear}

pub first-is : (q y p : ℕ) → quarter_year q ≡ y → q % 4 ≡ p → quarter_first q ≡ days_of_years (y - FIRST_YEAR) + days_of_months y (3 * p)
first-is q y p year part =
    let back : 3 * p + 1 - 1 ≡ 3 * p = omega arith in
    rw (year, part, back) (omega arith)

pub days-are : (q y p : ℕ) → quarter_year q ≡ y → q % 4 ≡ p → days_in_quarter q ≡ days_in_month y (3 * p + 1) + days_in_month y (3 * p + 2) + days_in_month y (3 * p + 3)
days-are q y p year part =
    let second : 3 * p + 1 + 1 ≡ 3 * p + 2 = omega arith in
    let third : 3 * p + 1 + 1 + 1 ≡ 3 * p + 3 = omega arith in
    rw (year, part, third, second) (omega arith)

pub three_months : (y p : ℕ) → days_of_months y (3 * p + 3) ≡ days_of_months y (3 * p) + (days_in_month y (3 * p + 1) + days_in_month y (3 * p + 2) + days_in_month y (3 * p + 3))
three_months y p =
    let second : 3 * p + 1 + 1 ≡ 3 * p + 2 = omega arith in
    let third : 3 * p + 2 + 1 ≡ 3 * p + 3 = omega arith in
    let a = months_next y (3 * p) in
    let b = rw second at (months_next y (3 * p + 1)) in
    let c = rw third at (months_next y (3 * p + 2)) in
    omega (arith, a, b, c)

by_date : (q d y j : ℕ) → IsDate d y j → q ≡ quarter_number y (j / 3) → (quarter_first q ≤ d) × (d < quarter_first q + days_in_quarter q)
by_date q d y j is e =
    let low = is.in_profile.0 in
    let few = is.few in
    let year : quarter_year q ≡ y = omega arith in
    let part : q % 4 ≡ j / 3 = omega arith in
    let first = first-is q y (j / 3) year part in
    let days = days-are q y (j / 3) year part in
    let whole = three_months y (j / 3) in
    let from = is.from in
    let day = is.day in
    let within = is.within in
    let before = months_in_order y (3 * (j / 3)) j (omega arith) in
    let after = months_in_order y (j + 1) (3 * (j / 3) + 3) (omega arith) in
    let next = months_next y j in
    (omega (arith, first, before, from), omega (arith, first, days, whole, after, next, day, within, from))

quarter_of-date : (d y j : ℕ) → IsDate d y j → quarter_of d ≡ quarter_number y (j / 3)
quarter_of-date d y j is =
    let back : j + 1 - 1 ≡ j = omega arith in
    let year = is.year in
    let month = is.month in
    rw (year, month, back) refl

pub quarter-holds : (quarter : ℕ) → HoldsDays quarter
quarter-holds quarter n small is =
    let date = date_of n small in
    by_date quarter n _ _ date (sym is ∙ quarter_of-date n _ _ date)

pub year-holds : (year : ℕ) → HoldsYear year
year-holds year n small is =
    let y = in_year n small in
    let k = years_count n in
    let same : year ≡ FIRST_YEAR + k = sym is ∙ y.year in
    let at : FIRST_YEAR + k - FIRST_YEAR ≡ k = omega arith in
    rw (same, at) (omega (arith, y.from), omega (arith, y.before, years_next k))
