-- In the profile's years jiff's calendar and the definitions are one.
use Rattle.std.proofs.Common.{◌≡◌, ℕ, zero, suc, ◌+◌, ◌-◌, ◌%◌, ◌≤◌, Bool, true, false, cond, nat_eq, refl, ap, ◌∙◌, arith, ℤ, pos, negsuc, w32, w8, to_z, of_z, FitsSigned, to_z-of_z, subst, Some, None, Result, Ok, Err, ◌+ℤ◌, ◌-ℤ◌, ◌≤ℤ◌}
use Rattle.std.specs.Prelude.{unsigned_abs}
use Rattle.std.specs.Result.{OkIff, IfOk, result_ok}
use Rattle.std.proofs.lemmas.Bool.Decides.{nat_tests}
use Rattle.aq_base.specs.Calendar.{years, days_in_year, days_in_month, days_of_years, days_of_months, day_number, is_date, day_of_date}
use Rattle.aq_base.specs.declared.day.TheConstants.{FIRST_YEAR, LAST_YEAR, LAST_DAY}
use Rattle.jiff_core.specs.Calendar as Civil
use Rattle.jiff_core.proofs.SignedLemmas.{signed_arith}
use Rattle.jiff_core.specs.Date.{epoch_day, IsYmd}
use Rattle.jiff_core.specs.declared.civil.date.Date.{Date}
use Rattle.jiff_core.proofs.CalendarLemmas as Facts
use Rattle.jiff_core.proofs.CalendarLemmas.{days_from_civil-day_count}
use Rattle.jiff_core.proofs.DateLemmas.{civil}
use Rattle.jiff_core.proofs.MarchLemmas.{day_count-early}
use Rattle.std.proofs.lemmas.Int.{by_lt_z, to_z_pos}

-- of the profile's centuries 2000 alone is there, and it is a leap year
pub leap_year : (year : ℕ) → FIRST_YEAR ≤ year → year ≤ LAST_YEAR → Civil.is_leap_year (pos year) ≡ nat_eq (year % 4) 0
leap_year year low high = grind (arith, nat_tests)

pub year_length : (year : ℕ) → FIRST_YEAR ≤ year → year ≤ LAST_YEAR → Civil.days_in_year (pos year) ≡ days_in_year year
year_length year low high = rw (leap_year year low high)

pub month_length : (year month : ℕ) → FIRST_YEAR ≤ year → year ≤ LAST_YEAR → Civil.days_in_month (pos year) month ≡ days_in_month year month
month_length year month low high = rw (leap_year year low high)

pub months_length : (year n : ℕ) → FIRST_YEAR ≤ year → year ≤ LAST_YEAR → Civil.days_of_months (pos year) n ≡ days_of_months year n
unfolding Civil.days_of_months days_of_months
months_length year zero low high = refl
months_length year (suc n) low high = rw (months_length year n low high, month_length year (suc n) low high)

-- the first days of two years are as far apart as the definition says
pub years_length : (n : ℕ) → n ≤ years → Civil.day_count (pos (FIRST_YEAR + n)) 1 1 ≡ Civil.day_count (pos FIRST_YEAR) 1 1 + days_of_years n
unfolding days_of_years
years_length zero h = omega arith
years_length (suc n) h =
    let next = Facts.day_count-next_year (pos (FIRST_YEAR + n)) (pos (FIRST_YEAR + suc n)) (omega (arith, signed_arith)) (omega (arith, signed_arith)) in
    omega (arith, next, years_length n (omega arith), year_length (FIRST_YEAR + n) (omega arith) (omega arith))

pub days_of_years_next : (n : ℕ) → days_of_years (suc n) ≡ days_of_years n + days_in_year (FIRST_YEAR + n)
unfolding days_of_years
days_of_years_next n = refl

-- a date's days since the year -10000 are those of the profile's first date and its number
pub count_is : (year month day : ℕ) → FIRST_YEAR ≤ year → year ≤ LAST_YEAR → 1 ≤ month → 1 ≤ day → Civil.day_count (pos year) month day ≡ Civil.day_count (pos FIRST_YEAR) 1 1 + day_number year month day
count_is year month day low high m d =
    let same : FIRST_YEAR + (year - FIRST_YEAR) ≡ year = omega arith in
    let first = rw same at (years_length (year - FIRST_YEAR) (omega arith)) in
    omega (arith, first, Facts.day_count-day_of_year (pos year) month day d, months_length year (month - 1) low high)

-- the days of all years of the profile
pub all_years : days_of_years years ≡ LAST_DAY + 1
unfolding days_of_years
all_years = refl

-- the year of a date that comes so many days after the first one of the profile
year_low : (d : Date) (n : ℕ) → Civil.day_count d.year d.month d.day ≡ Civil.day_count (pos FIRST_YEAR) 1 1 + n → pos FIRST_YEAR ≤ℤ d.year
year_low d n e =
    by_lt_z d.year (pos FIRST_YEAR)
    (λ lt. absurd (omega (arith, Facts.day_count-lt_year d.year d.month d.day (pos FIRST_YEAR) 1 1 (civil d) (omega arith) lt)))
    (λ ge. ge)

year_high : (d : Date) (n : ℕ) → n ≤ LAST_DAY → Civil.day_count d.year d.month d.day ≡ Civil.day_count (pos FIRST_YEAR) 1 1 + n → d.year ≤ℤ pos LAST_YEAR
year_high d n h e =
    by_lt_z (pos LAST_YEAR) d.year
    (λ lt. absurd (omega (arith, Facts.day_count-later_year (pos LAST_YEAR) d.year (omega (arith, signed_arith)) lt, Facts.day_count-day_of_year d.year d.month d.day d.day_in.0, years_length (LAST_YEAR - FIRST_YEAR) (omega arith), year_length LAST_YEAR (omega arith) (omega arith), days_of_years_next (LAST_YEAR - FIRST_YEAR), all_years)))
    (λ le. le)

pub not_negative : (z : ℤ) → pos FIRST_YEAR ≤ℤ z → z ≡ pos (unsigned_abs z)
not_negative (pos n) h = refl
not_negative (negsuc n) h = absurd (omega (arith, signed_arith))

-- a date's day number from the profile's first date on
number_is : (d : Date) → pos FIRST_YEAR ≤ℤ d.year → d.year ≤ℤ pos LAST_YEAR → Civil.day_count d.year d.month d.day ≡ Civil.day_count (pos FIRST_YEAR) 1 1 + day_number (unsigned_abs d.year) d.month d.day
number_is d low high =
    let same : d.year ≡ pos (unsigned_abs d.year) = not_negative d.year low in
    let e = count_is (unsigned_abs d.year) d.month d.day (omega (arith, signed_arith)) (omega (arith, signed_arith)) d.month_in.0 d.day_in.0 in
    ap (λ y. Civil.day_count y d.month d.day) same ∙ e

-- the first date of the profile
first_count : (first : Date) → IsYmd (pos FIRST_YEAR) (pos 1) (pos 1) first → Civil.day_count first.year first.month first.day ≡ Civil.day_count (pos FIRST_YEAR) 1 1
first_count first h =
    let m : first.month ≡ 1 = ap unsigned_abs h.1 in
    let d : first.day ≡ 1 = ap unsigned_abs h.2 in
    rw (h.0, m, d)

-- the days of the profile are days of jiff
pub has_day : (first : Date) (n : ℕ) → IsYmd (pos FIRST_YEAR) (pos 1) (pos 1) first → n ≤ LAST_DAY → Civil.IsEpochDay (epoch_day first +ℤ pos n)
has_day first n h small =
    let january = day_count-early (pos FIRST_YEAR) (FIRST_YEAR + 9999) 1 1 refl (omega arith) (omega arith) (omega arith) in
    omega (arith, signed_arith, january, first_count first h, days_from_civil-day_count first.year first.month first.day)

-- how many days a date of the profile is after its first
pub apart : (first d : Date) → IsYmd (pos FIRST_YEAR) (pos 1) (pos 1) first → Civil.IsBetween (pos FIRST_YEAR) (pos LAST_YEAR) d.year → epoch_day d -ℤ epoch_day first ≡ pos (day_number (unsigned_abs d.year) d.month d.day)
apart first d h year =
    omega (arith, signed_arith, first_count first h, number_is d year.0 year.1, days_from_civil-day_count first.year first.month first.day, days_from_civil-day_count d.year d.month d.day)

-- and the date that is so many days after it
pub back : (first d : Date) (n : ℕ) → IsYmd (pos FIRST_YEAR) (pos 1) (pos 1) first → n ≤ LAST_DAY → epoch_day d ≡ epoch_day first +ℤ pos n → Civil.IsBetween (pos FIRST_YEAR) (pos LAST_YEAR) d.year × (day_number (unsigned_abs d.year) d.month d.day ≡ n)
back first d n h small e =
    let counts : Civil.day_count d.year d.month d.day ≡ Civil.day_count (pos FIRST_YEAR) 1 1 + n = omega (arith, signed_arith, first_count first h, days_from_civil-day_count first.year first.month first.day, days_from_civil-day_count d.year d.month d.day) in
    let low = year_low d n counts in
    let high = year_high d n small counts in
    ((low, high), omega (arith, number_is d low high))

-- the number is one of the profile's
pub number_small : (d : Date) → Civil.IsBetween (pos FIRST_YEAR) (pos LAST_YEAR) d.year → day_number (unsigned_abs d.year) d.month d.day ≤ LAST_DAY
number_small d year =
    let n = day_number (unsigned_abs d.year) d.month d.day in
    let later = Facts.day_count-lt_year d.year d.month d.day (pos (LAST_YEAR + 1)) 1 1 (civil d) (omega arith) (omega (arith, signed_arith)) in
    omega (arith, number_is d year.0 year.1, later, years_length years (omega arith), all_years)

cast_back : (z : ℤ) (n : ℕ) → z ≡ pos n → n ≤ LAST_DAY → to_z w32 (of_z w32 z) ≡ pos n
cast_back z n e h = rw e (to_z_pos w32 n (omega arith))

-- the same behind the code's cast
pub days_between : (first d : Date) (z : ℤ) → IsYmd (pos FIRST_YEAR) (pos 1) (pos 1) first → Civil.IsBetween (pos FIRST_YEAR) (pos LAST_YEAR) d.year → z ≡ epoch_day d -ℤ epoch_day first → to_z w32 (of_z w32 z) ≡ pos (day_number (unsigned_abs d.year) d.month d.day)
days_between first d z h year e = cast_back z _ (e ∙ apart first d h year) (number_small d year)

-- a date of the profile's years is one of jiff's
pub is_date_is : (year month day : ℕ) → FIRST_YEAR ≤ year → year ≤ LAST_YEAR → Civil.IsDate (pos year) (pos month) (pos day) → is_date year month day ≡ true
is_date_is year month day low high h =
    let m : (1 ≤ month) × (month ≤ 12) = omega (arith, signed_arith, h.1) in
    let longest : day ≤ days_in_month year month = rw (← month_length year month low high) (omega (arith, signed_arith, h.2)) in
    let d : 1 ≤ day = omega (arith, signed_arith, h.2) in
    grind (arith, nat_tests)

pub is_date_only : (year month day : ℕ) → is_date year month day ≡ true → Civil.IsDate (pos year) (pos month) (pos day)
is_date_only year month day e =
    let is : (FIRST_YEAR ≤ year) × (year ≤ LAST_YEAR) × (1 ≤ month) × (month ≤ 12) × (1 ≤ day) × (day ≤ days_in_month year month) = grind (arith, nat_tests) in
    let longest : day ≤ Civil.days_in_month (pos year) month = rw (month_length year month is.0 is.1) is.5 in
    (omega (arith, signed_arith), omega (arith, signed_arith), omega (arith, signed_arith))

day_if : (b : Bool) (n : ℕ) → ¬ (b ≡ true) → None ≡ cond b (Some n) None
day_if true n h = absurd (h refl)
day_if false n h = refl

-- a date that jiff has not is no day
pub no_day : (year month day : ℕ) → ¬ (Civil.IsDate (pos year) (pos month) (pos day)) → None ≡ day_of_date year month day
no_day year month day h = day_if (is_date year month day) _ (λ e. h (is_date_only year month day e))

-- and one that it has is one
pub a_day : (year month day : ℕ) → FIRST_YEAR ≤ year → year ≤ LAST_YEAR → Civil.IsDate (pos year) (pos month) (pos day) → Some (day_number year month day) ≡ day_of_date year month day
a_day year month day low high h = rw (is_date_is year month day low high h)

-- what a call says of its answer, where that is taken as an option
pub at_ok : {T E : Type 0} (P : T → Type 0) (r : Result T E) (x : T) → Some x ≡ result_ok r → IfOk r P → P x
at_ok P (Ok y) x e h = let same : y ≡ x = cc in subst P same h
at_ok P (Err y) x e h = cc

-- what a cast to a smaller type keeps
pub kept : {E : Type 0} (r : Result ℤ E) (n : ℕ) (z : ℤ) → OkIff r (FitsSigned w8 (pos n)) (pos n) → Some z ≡ result_ok r → to_z w8 (of_z w8 z) ≡ pos n
kept (Ok x) n z h e =
    let same : z ≡ x = cc in
    rw (same ∙ h.1) (to_z-of_z h.0)
kept (Err x) n z h e = cc

-- a date with these parts has their number
pub ymd_number : (year month day : ℕ) (d : Date) → IsYmd (pos year) (pos month) (pos day) d → day_number (unsigned_abs d.year) d.month d.day ≡ day_number year month day
ymd_number year month day d h =
    let m : d.month ≡ month = ap unsigned_abs h.1 in
    let n : d.day ≡ day = ap unsigned_abs h.2 in
    rw (h.0, m, n)
