-- What a line spells is in range.
use Rattle.std.proofs.Common.{◌≡◌, ℕ, suc, zero, ◌+◌, ◌-◌, ◌^◌, ◌<◌, ◌≤◌, Bool, true, false, ◌&&◌, List, [], ◌∷◌, length, Some, None, Option, refl, ap, arith, subst}
use Rattle.std.specs.Prelude.{nat_le, ◌==◌, codes, bytes_eq, if◌then◌else◌, IfSome, slice_index, take, drop}
use Rattle.std.specs.Char.{digit_value, is_ascii_digit}
use Rattle.std.specs.Str.Parse.{AllDigits, digits_value}
use Rattle.std.proofs.lemmas.Int.Digits.{digits_value-lt}
use Rattle.std.proofs.lemmas.Bool.Decides.{nat_tests}
use Rattle.std.proofs.lemmas.Bool.{and_from, and_parts, eqb-true, leb-true}
use Rattle.aq_base.specs.Calendar.{years, days_of_years, days_of_months, days_in_year, days_in_month, day_number, is_date, is_year, hour_number}
use Rattle.aq_base.specs.Decimal.{are_digits}
use Rattle.aq_base.specs.Site.{Site}
use Rattle.aq_base.specs.declared.day.TheConstants.{FIRST_YEAR, LAST_YEAR, LAST_DAY, LAST_HOUR}
use Rattle.aq_base.specs.declared.monitor.Pollutant.{Pollutant}
use Rattle.aq_base.specs.declared.monitor.Duration.TheVariants.{Hour, Day}
use Rattle.aq_rules.specs.Lines.Spellings.{◌>>=◌, Tag, digits_in, site_in, poc_in, primary_in, parameter_in, parameter_of, has_parameter, duration_in, has_duration, date_in, year_in, time_in, interval_in, is_interval, event_number_in, is_event_number, event_code_in, is_event_code, null_in}
use Rattle.aq_rules.specs.Lines.OfficeForms.{hour_in}
use Rattle.aq_rules.specs.Office.Office.{is_site, is_poc, is_day}
use Rattle.aq_rules.proofs.Days.{years_next, months_next, twelve_months}
use Rattle.aq_rules.proofs.KeyOrder.{years_in_order, months_in_order}

-- what holds of a part's value and then of what is made of it
pub valid : {A B : Type 0} (P : A → Type 0) (Q : B → Type 0) (part : Option A) (next : A → Option B)
    → IfSome part P → ((x : A) → P x → IfSome (next x) Q) → IfSome (part >>= next) Q
valid P Q None next p go = tt
valid P Q (Some x) next p go = go x p

pub valid_if : {A : Type 0} (P : A → Type 0) (b : Bool) (x : A) → (b ≡ true → P x) → IfSome (if b then Some x else None) P
valid_if P true x h = h refl
valid_if P false x h = tt

digit : (c : ℕ) → is_ascii_digit c ≡ true → digit_value c < 10
digit c h = grind (arith, nat_tests)

digits : (text : List ℕ) → are_digits text ≡ true → AllDigits 10 text
digits [] h = tt
digits (c ∷ text) h =
    let parts = and_parts (is_ascii_digit c) (are_digits text) h in
    (digit c parts.0, digits text parts.1)

pub digits_valid : (width : ℕ) (text : List ℕ) → IfSome (digits_in width text) (λ n. n < 10 ^ width)
digits_valid width text =
    valid_if (λ n. n < 10 ^ width) ((length text == width) && are_digits text) (digits_value 10 text)
    (λ h.
    let parts = and_parts (length text == width) (are_digits text) h in
    subst (λ w. digits_value 10 text < 10 ^ w) (eqb-true (length text) width parts.0) (digits_value-lt 10 text (digits text parts.1)))

pub at_most : (n m : ℕ) → n < m + 1 → nat_le n m ≡ true
at_most n m h = grind (arith, nat_tests)

pub site_valid : (a b c : List ℕ) → IfSome (site_in a b c) (λ s. is_site s ≡ true)
unfolding site_in
site_valid a b c =
    valid (λ n. n < 100) (λ (s : Site). is_site s ≡ true) (digits_in 2 a) _ (digits_valid 2 a) λ x p.
    valid (λ n. n < 1000) (λ (s : Site). is_site s ≡ true) (digits_in 3 b) _ (digits_valid 3 b) λ y q.
    valid (λ n. n < 10000) (λ (s : Site). is_site s ≡ true) (digits_in 4 c) _ (digits_valid 4 c) λ z r.
    and_from (nat_le x 99 && nat_le y 999) (nat_le z 9999) (and_from (nat_le x 99) (nat_le y 999) (at_most x 99 p) (at_most y 999 q)) (at_most z 9999 r)

pub anything : {A : Type 0} (part : Option A) → IfSome part (λ x. x ≡ x)
anything None = tt
anything (Some x) = refl

pub parameter_valid : (tag : Tag) (text : List ℕ) → IfSome (parameter_of tag text) (λ p. has_parameter tag p ≡ true)
unfolding parameter_of
parameter_valid tag text =
    valid (λ p. p ≡ p) (λ p. has_parameter tag p ≡ true) (parameter_in text) _ (anything (parameter_in text)) λ p e.
    valid_if (λ p. has_parameter tag p ≡ true) (has_parameter tag p) p (λ h. h)

power_small : (n : ℕ) → nat_le n 2 ≡ true → 10 ^ n ≤ 100
power_small zero h = omega arith
power_small (suc zero) h = omega arith
power_small (suc (suc zero)) h = omega arith
power_small (suc (suc (suc n))) h = absurd (grind (arith, nat_tests))

pub poc_valid : (text : List ℕ) → IfSome (poc_in text) (λ p. is_poc p ≡ true)
poc_valid text =
    valid_if (λ p. is_poc p ≡ true) (nat_le (length text) 2 && are_digits text && nat_le 1 (digits_value 10 text)) (digits_value 10 text)
    (λ h.
    let x = and_parts (nat_le (length text) 2 && are_digits text) (nat_le 1 (digits_value 10 text)) h in
    let y = and_parts (nat_le (length text) 2) (are_digits text) x.0 in
    let small = digits_value-lt 10 text (digits text y.1) in
    let power = power_small (length text) y.0 in
    and_from (nat_le 1 (digits_value 10 text)) (nat_le (digits_value 10 text) 99) x.1 (at_most (digits_value 10 text) 99 (omega arith)))

pub year_valid : (text : List ℕ) → IfSome (year_in text) (λ y. is_year y ≡ true)
unfolding year_in
year_valid text =
    valid (λ n. n < 10000) (λ y. is_year y ≡ true) (digits_in 4 text) _ (digits_valid 4 text) λ y p.
    valid_if (λ y. is_year y ≡ true) (is_year y) y (λ h. h)

whole_years : days_of_years years ≡ LAST_DAY + 1
unfolding days_of_years
whole_years = refl

in_profile : (y m d k j : ℕ) → y ≡ FIRST_YEAR + k → m ≡ j + 1 → k < years → j < 12 → 1 ≤ d → d ≤ days_in_month y m
    → days_of_years (y - FIRST_YEAR) + days_of_months y (m - 1) + (d - 1) < LAST_DAY + 1
in_profile y m d k j a b p q one r =
    let year : y - FIRST_YEAR ≡ k = omega arith in
    let month : m - 1 ≡ j = omega arith in
    let within : d ≤ days_in_month y (j + 1) = subst (λ t. d ≤ days_in_month y t) b r in
    let next = months_next y j in
    let last = months_in_order y (j + 1) 12 (omega arith) in
    let twelve = twelve_months y in
    let over = years_next k in
    let same : days_in_year y ≡ days_in_year (FIRST_YEAR + k) = ap days_in_year a in
    let end = years_in_order (k + 1) years (omega arith) in
    let whole = whole_years in
    rw (year, month) (sums (days_of_years k) (days_of_months y j) d (days_in_month y (j + 1)) (days_of_months y (j + 1)) (days_of_months y 12) (days_in_year y) (days_in_year (FIRST_YEAR + k)) (days_of_years (k + 1)) (days_of_years years) one within next last twelve same over end whole)
  where
    sums : (f m d w n t y z g e : ℕ) → 1 ≤ d → d ≤ w → n ≡ m + w → n ≤ t → t ≡ y → y ≡ z → g ≡ f + z → g ≤ e → e ≡ LAST_DAY + 1 → f + m + (d - 1) < LAST_DAY + 1
    sums f m d w n t y z g e h1 h2 h3 h4 h5 h6 h7 h8 h9 = omega arith

pub date_number : (y m d : ℕ) → is_date y m d ≡ true → day_number y m d < LAST_DAY + 1
date_number y m d h =
    let a = and_parts (is_year y && nat_le 1 m && nat_le m 12 && nat_le 1 d) (nat_le d (days_in_month y m)) h in
    let b = and_parts (is_year y && nat_le 1 m && nat_le m 12) (nat_le 1 d) a.0 in
    let c = and_parts (is_year y && nat_le 1 m) (nat_le m 12) b.0 in
    let e = and_parts (is_year y) (nat_le 1 m) c.0 in
    let f = and_parts (nat_le FIRST_YEAR y) (nat_le y LAST_YEAR) e.0 in
    let low = leb-true FIRST_YEAR y f.0 in
    let high = leb-true y LAST_YEAR f.1 in
    let one = leb-true 1 m e.1 in
    let twelve = leb-true m 12 c.1 in
    in_profile y m d (y - FIRST_YEAR) (m - 1) (omega arith) (omega arith) (omega arith) (omega arith) (leb-true 1 d b.1) (leb-true d (days_in_month y m) a.1)

pub date_valid : (text : List ℕ) → IfSome (date_in text) (λ d. is_day d ≡ true)
unfolding date_in
date_valid text =
    valid (λ n. n ≡ n) (λ d. is_day d ≡ true) (digits_in 4 (take 4 text)) _ (anything (digits_in 4 (take 4 text))) λ y p.
    valid (λ n. n ≡ n) (λ d. is_day d ≡ true) (digits_in 2 (take 2 (drop 4 text))) _ (anything (digits_in 2 (take 2 (drop 4 text)))) λ m q.
    valid (λ n. n ≡ n) (λ d. is_day d ≡ true) (digits_in 2 (drop 6 text)) _ (anything (digits_in 2 (drop 6 text))) λ d r.
    valid_if (λ d. is_day d ≡ true) (is_date y m d) (day_number y m d) (λ h. at_most (day_number y m d) LAST_DAY (date_number y m d h))

pub time_valid : (text : List ℕ) → IfSome (time_in text) (λ h. h ≤ 23)
unfolding time_in
time_valid text =
    valid (λ n. n ≡ n) (λ h. h ≤ 23) (digits_in 2 (take 2 text)) _ (anything (digits_in 2 (take 2 text))) λ h p.
    valid_if (λ h. h ≤ 23) (bytes_eq (drop 2 text) (codes ":00") && nat_le h 23) h
    (λ t. leb-true h 23 (and_parts (bytes_eq (drop 2 text) (codes ":00")) (nat_le h 23) t).1)

pub hour_valid : (date time : List ℕ) → IfSome (hour_in date time) (λ h. nat_le h LAST_HOUR ≡ true)
hour_valid date time =
    valid (λ d. is_day d ≡ true) (λ h. nat_le h LAST_HOUR ≡ true) (date_in date) _ (date_valid date) λ d p.
    valid (λ h. h ≤ 23) (λ h. nat_le h LAST_HOUR ≡ true) (time_in time) _ (time_valid time) λ h q.
    let day = leb-true d LAST_DAY p in
    at_most (hour_number d h) LAST_HOUR (omega arith)

pub duration_valid : (pollutant : Pollutant) (text : List ℕ) → IfSome (duration_in pollutant text) (λ d. has_duration pollutant d ≡ true)
duration_valid pollutant text = choice (has_duration pollutant Day) (bytes_eq text (codes "1")) (bytes_eq text (codes "7")) refl
  where
    choice : (days a b : Bool) → has_duration pollutant Day ≡ days
        → IfSome (if a then Some Hour else (if b && days then Some Day else None)) (λ d. has_duration pollutant d ≡ true)
    choice days true b is = refl
    choice true false true is = is
    choice false false true is = tt
    choice days false false is = tt

pub primary_valid : (text : List ℕ) → IfSome (primary_in text) (λ p. nat_le p 99 ≡ true)
primary_valid text = choice (bytes_eq text (codes "0")) (poc_in text) (poc_valid text)
  where
    choice : (a : Bool) (part : Option ℕ) → IfSome part (λ p. is_poc p ≡ true) → IfSome (if a then Some 0 else part) (λ p. nat_le p 99 ≡ true)
    choice true part h = refl
    choice false None h = tt
    choice false (Some p) h = (and_parts (nat_le 1 p) (nat_le p 99) h).1

pub interval_valid : (text : List ℕ) → IfSome (interval_in text) (λ d. is_interval d ≡ true)
unfolding interval_in
interval_valid text =
    valid (λ n. n ≡ n) (λ d. is_interval d ≡ true) (digits_in 1 text) _ (anything (digits_in 1 text)) λ d p.
    valid_if (λ d. is_interval d ≡ true) (is_interval d) d (λ h. h)

pub number_valid : (text : List ℕ) → IfSome (event_number_in text) (λ n. is_event_number n ≡ true)
unfolding event_number_in
number_valid text =
    valid_if (λ n. is_event_number n ≡ true) (are_digits text && nat_le 49 (slice_index text 0) && is_event_number (digits_value 10 text)) (digits_value 10 text)
    (λ h. (and_parts (are_digits text && nat_le 49 (slice_index text 0)) (is_event_number (digits_value 10 text)) h).1)

pub code_valid : (text : List ℕ) → IfSome (event_code_in text) (λ c. is_event_code c ≡ true)
unfolding event_code_in
code_valid text =
    valid (λ c. c ≡ c) (λ c. is_event_code c ≡ true) (null_in text) _ (anything (null_in text)) λ c p.
    valid_if (λ c. is_event_code c ≡ true) (is_event_code c) c (λ h. h)
