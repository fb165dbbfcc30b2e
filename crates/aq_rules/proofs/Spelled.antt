-- The text of each part of a value is read as that part.
use Rattle.std.proofs.Common.{◌≡◌, ℕ, ◌+◌, ◌-◌, ◌<◌, ◌≤◌, Bool, true, false, not, ◌||◌, ◌++◌, Some, None, Option, refl, ap, ◌∙◌, arith, subst}
use Rattle.std.specs.Prelude.{nat_le, codes, decimal, if◌then◌else◌}
use Rattle.std.specs.Fmt.{digits}
use Rattle.std.specs.List.{range_with_len, list_all}
use Rattle.std.proofs.lemmas.Bool.{false≢true, and_parts}
use Rattle.std.proofs.lemmas.Bool.Decides.{nat_tests}
use Rattle.aq_base.specs.Calendar.{day_of_date, year_of, month_of, day_of_month, day_of_hour, hour_of_day, is_year}
use Rattle.aq_base.specs.Decimal.{last_digits}
use Rattle.aq_base.specs.Site.{Site}
use Rattle.aq_base.specs.declared.day.TheConstants.{FIRST_YEAR, LAST_YEAR, LAST_DAY, LAST_HOUR}
use Rattle.aq_base.specs.declared.monitor.Pollutant.{Pollutant}
use Rattle.aq_base.specs.declared.monitor.Pollutant.TheVariants.{Ozone, Pm25, Pm10}
use Rattle.aq_base.specs.declared.monitor.Duration.{Duration}
use Rattle.aq_base.specs.declared.monitor.Duration.TheVariants.{Hour, Day}
use Rattle.aq_rules.specs.Lines.Spellings.{◌>>=◌, site_in, parameter_in, parameter_of, has_parameter, Tag, duration_in, has_duration, date_in, year_in, time_in, poc_in, primary_in, interval_in, is_interval, truth_in}
use Rattle.aq_rules.specs.Lines.OfficeForms.{hour_in}
use Rattle.aq_rules.specs.Lines.Canonical.{parameter_text, duration_text, date_text, time_text, truth_text}
use Rattle.aq_rules.specs.Office.Office.{is_site, is_poc}
use Rattle.aq_rules.proofs.Digits.{in_range, from_none, is_number, number_is, digits_two, digits_three, digits_four}
use Rattle.aq_rules.proofs.KeyOrder.{site_bounds, less_or, month_short}
use Rattle.aq_rules.proofs.Days.{IsDate, date_of, day_of_date-date}

pub bind-is : {A B : Type 0} {part : Option A} {x : A} (f : A → Option B) → part ≡ Some x → (part >>= f) ≡ f x
bind-is f is = ap (λ q. q >>= f) is

pub site_is : (s : Site) → is_site s ≡ true → site_in (last_digits 2 s.state) (last_digits 3 s.county) (last_digits 4 s.number) ≡ Some s
unfolding site_in
site_is s h =
    let b = site_bounds s h in
    bind-is _ (digits_two s.state b.0) ∙ bind-is _ (digits_three s.county b.1) ∙ bind-is _ (digits_four s.number b.2)

pub parameter_is : (p : Pollutant) → parameter_in (parameter_text p) ≡ Some p
parameter_is Ozone = refl
parameter_is Pm25 = refl
parameter_is Pm10 = refl

pub parameter_of-is : (tag : Tag) (p : Pollutant) → has_parameter tag p ≡ true → parameter_of tag (parameter_text p) ≡ Some p
unfolding parameter_of
parameter_of-is tag p h = bind-is _ (parameter_is p) ∙ ap (λ b. if b then Some p else None) h

pub duration_is : (p : Pollutant) (d : Duration) → has_duration p d ≡ true → duration_in p (duration_text d) ≡ Some d
duration_is Ozone Hour h = refl
duration_is Pm25 Hour h = refl
duration_is Pm10 Hour h = refl
duration_is Ozone Day h = absurd (false≢true h)
duration_is Pm25 Day h = refl
duration_is Pm10 Day h = refl

pub truth_is : (b : Bool) → truth_in (truth_text b) ≡ Some b
truth_is true = refl
truth_is false = refl

pub year_is : (y : ℕ) → is_year y ≡ true → year_in (last_digits 4 y) ≡ Some y
unfolding year_in
year_is y h =
    let k = and_parts (nat_le FIRST_YEAR y) (nat_le y LAST_YEAR) h in
    bind-is _ (digits_four y (less_or y LAST_YEAR 10000 k.1 (omega arith))) ∙ ap (λ b. if b then Some y else None) h

date_in-texts : (y m d : ℕ) → y < 10000 → m < 100 → d < 100
    → date_in (last_digits 4 y ++ last_digits 2 m ++ last_digits 2 d) ≡ day_of_date y m d
unfolding date_in last_digits
date_in-texts y m d p q r = bind-is _ (digits_four y p) ∙ bind-is _ (digits_two m q) ∙ bind-is _ (digits_two d r)

date_parts : (d y j : ℕ) → IsDate d y j → (year_of d < 10000) × (month_of d < 100) × (day_of_month d < 100)
date_parts d y j a =
    let year = a.year in
    let month = a.month in
    let within = a.within in
    let few = a.few in
    let last = a.in_profile.1 in
    let short = month_short y (j + 1) in
    (omega arith, omega arith, omega arith)

pub date_is : (d : ℕ) → d ≤ LAST_DAY → date_in (date_text d) ≡ Some d
date_is d small =
    let parts = date_parts d _ _ (date_of d small) in
    date_in-texts (year_of d) (month_of d) (day_of_month d) parts.0 parts.1 parts.2 ∙ day_of_date-date d small

all_hours : list_all (λ h. is_number h (time_in (last_digits 2 h ++ codes ":00"))) (range_with_len 0 24) ≡ true
unfolding is_number last_digits time_in
all_hours = refl

time_is : (h : ℕ) → h < 24 → time_in (last_digits 2 h ++ codes ":00") ≡ Some h
time_is h small = number_is h _ (from_none (λ h. is_number h (time_in (last_digits 2 h ++ codes ":00"))) 24 h all_hours small)

pub hour_is : (hour : ℕ) → hour ≤ LAST_HOUR → hour_in (date_text (day_of_hour hour)) (time_text hour) ≡ Some hour
hour_is hour small =
    bind-is _ (date_is (day_of_hour hour) (omega arith)) ∙ bind-is _ (time_is (hour_of_day hour) (omega arith)) ∙ ap Some (omega arith)

all_pocs : list_all (λ p. is_number p (poc_in (decimal p))) (range_with_len 1 99) ≡ true
unfolding is_number digits
all_pocs = refl

pub poc_is : (p : ℕ) → is_poc p ≡ true → poc_in (decimal p) ≡ Some p
poc_is p h =
    let k = and_parts (nat_le 1 p) (nat_le p 99) h in
    let low : 1 ≤ p = grind (arith, nat_tests) in
    let high : p ≤ 99 = grind (arith, nat_tests) in
    number_is p _ (subst (λ n. is_number n (poc_in (decimal n)) ≡ true) {x = 1 + (p - 1)} (omega arith)
    (in_range (λ p. is_number p (poc_in (decimal p))) 1 99 (p - 1) all_pocs (omega arith)))

all_primaries : list_all (λ p. is_number p (primary_in (decimal p))) (range_with_len 0 100) ≡ true
unfolding is_number digits
all_primaries = refl

pub primary_is : (p : ℕ) → nat_le p 99 ≡ true → primary_in (decimal p) ≡ Some p
primary_is p h = number_is p _ (from_none (λ p. is_number p (primary_in (decimal p))) 100 p all_primaries (less_or p 99 100 h (omega arith)))

all_intervals : list_all (λ d. not (is_interval d) || is_number d (interval_in (decimal d))) (range_with_len 0 7) ≡ true
unfolding is_number digits interval_in
all_intervals = refl

or_second : (a b : Bool) → (not a || b) ≡ true → a ≡ true → b ≡ true
or_second true b h p = h
or_second false b h p = absurd (false≢true p)

pub interval_is : (days : ℕ) → is_interval days ≡ true → interval_in (decimal days) ≡ Some days
interval_is days h =
    let few : days < 7 = grind (arith, nat_tests) in
    number_is days _ (or_second (is_interval days) (is_number days (interval_in (decimal days)))
    (from_none (λ d. not (is_interval d) || is_number d (interval_in (decimal d))) 7 days all_intervals few) h)
