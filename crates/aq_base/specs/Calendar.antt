-- Days, hours, quarters and years of the profile, in local standard time (own).
-- Day 0 is 1 January of FIRST_YEAR, and the last day is 31 December of LAST_YEAR. All other definitions cite this pair.
use Rattle.std.specs.Prelude.{ℕ, zero, suc, ◌+◌, ◌-◌, ◌*◌, ◌/◌, ◌%◌, Bool, ◌&&◌, ◌||◌, ◌==◌, nat_le, if◌then◌else◌, Option, Some, None, sum, count_by, map}
use Rattle.std.specs.List.{range_with_len}
use Rattle.aq_base.specs.declared.day.TheConstants.{FIRST_YEAR, LAST_YEAR, FIRST_DESIGN_YEAR}

-- how many years the profile has
abbrev pub years : ℕ
years = LAST_YEAR + 1 - FIRST_YEAR

-- a year of the profile, none of which is a century without a leap day
abbrev pub is_year : ℕ → Bool
is_year year = nat_le FIRST_YEAR year && nat_le year LAST_YEAR

-- a year of which there are design values: it ends three years of the profile
abbrev pub is_design_year : ℕ → Bool
is_design_year year = nat_le FIRST_DESIGN_YEAR year && nat_le year LAST_YEAR

abbrev pub days_in_year : ℕ → ℕ
days_in_year year = if year % 4 == 0 then 366 else 365

-- the days of a month, from 1 for January
abbrev pub days_in_month : ℕ → ℕ → ℕ
days_in_month year month =
    if month == 2 then (if year % 4 == 0 then 29 else 28)
    else (if (month == 4) || (month == 6) || (month == 9) || (month == 11) then 30 else 31)

-- the days of the first n years of the profile
unfoldable pub days_of_years : ℕ → ℕ
days_of_years zero = 0
days_of_years (suc n) = days_of_years n + days_in_year (FIRST_YEAR + n)

-- the days of the first n months of a year
unfoldable pub days_of_months : ℕ → ℕ → ℕ
days_of_months year zero = 0
days_of_months year (suc n) = days_of_months year n + days_in_month year (suc n)

-- a date of the profile
abbrev pub is_date : ℕ → ℕ → ℕ → Bool
is_date year month day =
    is_year year && nat_le 1 month && nat_le month 12 && nat_le 1 day && nat_le day (days_in_month year month)

-- the number of a date: the lengths of the years from FIRST_YEAR and of the months before it, plus its day less one
abbrev pub day_number : ℕ → ℕ → ℕ → ℕ
day_number year month day =
    days_of_years (year - FIRST_YEAR) + days_of_months year (month - 1) + (day - 1)

-- the number of a date, or nothing if the profile has no such date
abbrev pub day_of_date : ℕ → ℕ → ℕ → Option ℕ
day_of_date year month day = if is_date year month day then Some (day_number year month day) else None

-- the number of the hour that starts at `hour`:00
abbrev pub hour_number : ℕ → ℕ → ℕ
hour_number day hour = 24 * day + hour

-- the day of an hour, and its hour of that day
abbrev pub day_of_hour : ℕ → ℕ
day_of_hour hour = hour / 24

abbrev pub hour_of_day : ℕ → ℕ
hour_of_day hour = hour % 24

-- the first day of a year
abbrev pub year_first : ℕ → ℕ
year_first year = days_of_years (year - FIRST_YEAR)

-- the year of a day: as many years after the first as are over by that day
unfoldable pub year_of : ℕ → ℕ
year_of day = FIRST_YEAR + count_by (λ n. nat_le (days_of_years (n + 1)) day) (range_with_len 0 years)

-- the place of a day in its year, from 0
abbrev pub day_of_year : ℕ → ℕ
day_of_year day = day - year_first (year_of day)

-- the month of a day: one more than the months of its year that are over by that day
unfoldable pub month_of : ℕ → ℕ
month_of day = 1 + count_by (λ month. nat_le (days_of_months (year_of day) month) (day_of_year day)) (range_with_len 1 12)

-- the day of the month, from 1
abbrev pub day_of_month : ℕ → ℕ
day_of_month day = day_of_year day - days_of_months (year_of day) (month_of day - 1) + 1

-- calendar quarters are numbered on from the first one of FIRST_YEAR; `part` is 0 to 3
abbrev pub quarter_number : ℕ → ℕ → ℕ
quarter_number year part = 4 * (year - FIRST_YEAR) + part

abbrev pub quarter_of : ℕ → ℕ
quarter_of day = quarter_number (year_of day) ((month_of day - 1) / 3)

abbrev pub quarter_year : ℕ → ℕ
quarter_year quarter = FIRST_YEAR + quarter / 4

-- the first day of a quarter
abbrev pub quarter_first : ℕ → ℕ
quarter_first quarter = day_number (quarter_year quarter) (3 * (quarter % 4) + 1) 1

-- the days of a quarter
abbrev pub days_in_quarter : ℕ → ℕ
days_in_quarter quarter =
    sum (map (days_in_month (quarter_year quarter)) (range_with_len (3 * (quarter % 4) + 1) 3))
