-- How many days lie between the ends of a quarter and of a year.
use Rattle.std.proofs.Common.{◌≡◌, ℕ, zero, suc, ◌+◌, ◌-◌, ◌*◌, ◌%◌, ◌<◌, ◌≤◌, arith}
use Rattle.std.specs.Int.{IsInRange}
use Rattle.aq_base.specs.Calendar.{days_in_year, days_in_month, days_of_months, day_number, year_first, quarter_year, quarter_first, days_in_quarter}
use Rattle.aq_cal.proofs.Counts.{months_more, months_all}

-- the days of three months, from the first day of the first to the last of the third
three_months : (year month : ℕ) → 1 ≤ month → day_number year (month + 2) (days_in_month year (month + 2)) + 1 ≡ day_number year month 1 + (days_in_month year month + days_in_month year (month + 1) + days_in_month year (month + 2))
three_months year month h =
    let one : month + 1 - 1 ≡ month = omega arith in
    let two : month + 2 - 1 ≡ month + 1 = omega arith in
    let second = rw one at (months_more year (month + 1) (omega arith)) in
    let third = rw two at (months_more year (month + 2) (omega arith)) in
    let last : 28 ≤ days_in_month year (month + 2) = grind arith in
    rw two (omega (arith, second, third, months_more year month h))

-- the shortest quarter is the first of a common year
part_range : (year part : ℕ) → part < 4 → IsInRange 90 92 (days_in_month year (3 * part + 1) + days_in_month year (3 * part + 2) + days_in_month year (3 * part + 3))
part_range year zero h = grind arith
part_range year (suc zero) h = grind arith
part_range year (suc (suc zero)) h = grind arith
part_range year (suc (suc (suc zero))) h = grind arith
part_range year (suc (suc (suc (suc n)))) h = absurd (omega arith)

quarter_is : (q : ℕ) → days_in_quarter q ≡ days_in_month (quarter_year q) (3 * (q % 4) + 1) + days_in_month (quarter_year q) (3 * (q % 4) + 2) + days_in_month (quarter_year q) (3 * (q % 4) + 3)
quarter_is q =
    let two : 3 * (q % 4) + 1 + 1 ≡ 3 * (q % 4) + 2 = omega arith in
    let three : 3 * (q % 4) + 1 + 1 + 1 ≡ 3 * (q % 4) + 3 = omega arith in
    rw (three, two) (omega arith)

pub quarter_range : (q : ℕ) → IsInRange 90 92 (days_in_quarter q)
quarter_range q = let e = quarter_is q in rw e (part_range (quarter_year q) (q % 4) (omega arith))

-- the days of a quarter lie from its first to the last of its third month
pub whole_quarter : (q : ℕ) → day_number (quarter_year q) (3 * (q % 4) + 1 + 2) (days_in_month (quarter_year q) (3 * (q % 4) + 1 + 2)) + 1 ≡ quarter_first q + days_in_quarter q
whole_quarter q =
    let two : 3 * (q % 4) + 1 + 1 ≡ 3 * (q % 4) + 2 = omega arith in
    let three : 3 * (q % 4) + 1 + 2 ≡ 3 * (q % 4) + 3 = omega arith in
    let all = rw (two, three) at (three_months (quarter_year q) (3 * (q % 4) + 1) (omega arith)) in
    rw three (omega (arith, all, quarter_is q))

pub new_year : (year : ℕ) → day_number year 1 1 ≡ year_first year
unfolding days_of_months
new_year year = omega arith

pub whole_year : (year : ℕ) → day_number year 12 31 + 1 ≡ year_first year + days_in_year year
whole_year year = omega (arith, months_more year 12 (omega arith), months_all year)
