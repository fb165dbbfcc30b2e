-- The spelling of each field: the value that a text spells, or nothing (AQS raw data transaction format; that of the office lines is (own)).
use Rattle.std.specs.Prelude.{ℕ, Bool, true, false, ◌&&◌, ◌||◌, ◌==◌, nat_le, if◌then◌else◌, Option, Some, None, List, [], ◌∷◌, length, take, drop, codes, bytes_eq, ℤ, int_le, slice_index}
use Rattle.std.specs.List.{list_any}
use Rattle.std.specs.Char.{is_ascii_digit, is_ascii_uppercase}
use Rattle.std.specs.Str.Parse.{digits_value}
use Rattle.aq_base.specs.Site.{Site}
use Rattle.aq_base.specs.Calendar.{day_of_date, is_year}
use Rattle.aq_base.specs.Decimal.{are_digits, is_decimal, cut}
use Rattle.aq_base.specs.Quals.{with_code}
use Rattle.aq_base.specs.declared.code.Code.{Code}
use Rattle.aq_base.specs.declared.monitor.Pollutant.{Pollutant}
use Rattle.aq_base.specs.declared.monitor.Pollutant.TheVariants.{Ozone, Pm25, Pm10}
use Rattle.aq_base.specs.declared.monitor.Duration.{Duration}
use Rattle.aq_base.specs.declared.monitor.Duration.TheVariants.{Hour, Day}
use Rattle.aq_rules.specs.Limits.{least_value, greatest_value, LAST_EVENT_NUMBER}

-- what the first spells is handed on; if it spells nothing, the whole spells nothing
infixl 10 ◌>>=◌
abbrev pub ◌>>=◌ : {A B : Type 0} → Option A → (A → Option B) → Option B
None >>= next = None
Some x >>= next = next x

-- the forms of lines: RD for samples, and the agency's own for its office
pub data Tag : Type 0 where
  Rd Xm Xp Xs Xo Xu Xe Xc Xa Xb : Tag

pub data Action : Type 0 where
  Insert Update Delete : Action

abbrev pub tag_in : List ℕ → Option Tag
tag_in text =
    if bytes_eq text (codes "RD") then Some Rd
    else (if bytes_eq text (codes "XM") then Some Xm
    else (if bytes_eq text (codes "XP") then Some Xp
    else (if bytes_eq text (codes "XS") then Some Xs
    else (if bytes_eq text (codes "XO") then Some Xo
    else (if bytes_eq text (codes "XU") then Some Xu
    else (if bytes_eq text (codes "XE") then Some Xe
    else (if bytes_eq text (codes "XC") then Some Xc
    else (if bytes_eq text (codes "XA") then Some Xa
    else (if bytes_eq text (codes "XB") then Some Xb else None)))))))))

abbrev pub action_in : List ℕ → Option Action
action_in text =
    if bytes_eq text (codes "I") then Some Insert
    else (if bytes_eq text (codes "U") then Some Update
    else (if bytes_eq text (codes "D") then Some Delete else None))

-- exactly so many digits
abbrev pub digits_in : ℕ → List ℕ → Option ℕ
digits_in width text =
    if (length text == width) && are_digits text then Some (digits_value 10 text) else None

-- state, county and site number, of two, three and four digits
unfoldable pub site_in : List ℕ → List ℕ → List ℕ → Option Site
site_in state county number = do
  s ← digits_in 2 state
  c ← digits_in 3 county
  n ← digits_in 4 number
  Some (record { state = s; county = c; number = n })

-- the parameter: ozone, PM2.5 at local conditions, and PM10 at standard conditions
abbrev pub parameter_in : List ℕ → Option Pollutant
parameter_in text =
    if bytes_eq text (codes "44201") then Some Ozone
    else (if bytes_eq text (codes "88101") then Some Pm25
    else (if bytes_eq text (codes "81102") then Some Pm10 else None))

-- the parameters of a form: schedules are for particles, make-up samples for PM2.5, and combined sites for ozone and PM2.5
abbrev pub has_parameter : Tag → Pollutant → Bool
has_parameter Xs Ozone = false
has_parameter Xu Ozone = false
has_parameter Xu Pm10 = false
has_parameter Xb Pm10 = false
has_parameter tag pollutant = true

unfoldable pub parameter_of : Tag → List ℕ → Option Pollutant
parameter_of tag text = do
  pollutant ← parameter_in text
  if has_parameter tag pollutant then Some pollutant else None

-- the POC: one or two digits, from 1
abbrev pub poc_in : List ℕ → Option ℕ
poc_in text =
    if nat_le (length text) 2 && are_digits text && nat_le 1 (digits_value 10 text)
    then Some (digits_value 10 text) else None

-- the POC of a designation, which may also be `0`, for no monitor
abbrev pub primary_in : List ℕ → Option ℕ
primary_in text = if bytes_eq text (codes "0") then Some 0 else poc_in text

-- the sample durations that a pollutant has
abbrev pub has_duration : Pollutant → Duration → Bool
has_duration pollutant Hour = true
has_duration Ozone Day = false
has_duration Pm25 Day = true
has_duration Pm10 Day = true

-- the sample duration: `1` for an hour, and `7` for 24 hours, which ozone does not have
abbrev pub duration_in : Pollutant → List ℕ → Option Duration
duration_in pollutant text =
    if bytes_eq text (codes "1") then Some Hour
    else (if bytes_eq text (codes "7") && has_duration pollutant Day then Some Day else None)

-- the unit, by how many places its values are cut at: ppm at three, ppb at none, and µg/m3 at one
abbrev pub unit_in : Pollutant → List ℕ → Option ℕ
unit_in Ozone text =
    if bytes_eq text (codes "007") then Some 3 else (if bytes_eq text (codes "008") then Some 0 else None)
unit_in Pm25 text = if bytes_eq text (codes "105") then Some 1 else None
unit_in Pm10 text = if bytes_eq text (codes "001") then Some 1 else None

abbrev pub method_in : List ℕ → Option ℕ
method_in text = digits_in 3 text

-- a date as YYYYMMDD
unfoldable pub date_in : List ℕ → Option ℕ
date_in text = do
  year ← digits_in 4 (take 4 text)
  month ← digits_in 2 (take 2 (drop 4 text))
  day ← digits_in 2 (drop 6 text)
  day_of_date year month day

-- a year of the profile, of four digits
unfoldable pub year_in : List ℕ → Option ℕ
year_in text = do
  year ← digits_in 4 text
  if is_year year then Some year else None

-- a full hour as HH:00
unfoldable pub time_in : List ℕ → Option ℕ
time_in text = do
  hour ← digits_in 2 (take 2 text)
  if bytes_eq (drop 2 text) (codes ":00") && nat_le hour 23 then Some hour else None

-- ozone in thousandths of a ppm and PM in tenths of a µg/m3, within the pollutant's range
abbrev pub is_in_range : Pollutant → ℤ → Bool
is_in_range pollutant value = int_le least_value value && int_le value (greatest_value pollutant)

-- a sample value, cut at its unit's places
unfoldable pub value_in : Pollutant → ℕ → List ℕ → Option ℤ
value_in pollutant places text =
    if is_decimal text && is_in_range pollutant (cut text places) then Some (cut text places) else None

-- the characters of codes
abbrev pub is_code_byte : ℕ → Bool
is_code_byte byte = is_ascii_uppercase byte || is_ascii_digit byte

-- a null data code, of two characters
abbrev pub null_in : List ℕ → Option Code
null_in (first ∷ second ∷ []) =
    if is_code_byte first && is_code_byte second then Some (record { first = first; second = second }) else None
null_in _ = None

-- a qualifier code, of one character or two
abbrev pub qualifier_in : List ℕ → Option Code
qualifier_in (first ∷ []) = if is_code_byte first then Some (record { first = first; second = 0 }) else None
qualifier_in text = null_in text

-- the codes of the qualifier fields after these codes: an empty field is passed over, and a code that came before is dropped
abbrev pub qualifiers_onto : List Code → List (List ℕ) → Option (List Code)
qualifiers_onto codes [] = Some codes
qualifiers_onto codes ([] ∷ texts) = qualifiers_onto codes texts
qualifiers_onto codes ((byte ∷ bytes) ∷ texts) = do
  code ← qualifier_in (byte ∷ bytes)
  qualifiers_onto (with_code codes code) texts

unfoldable pub qualifiers_in : List (List ℕ) → Option (List Code)
qualifiers_in texts = qualifiers_onto [] texts

-- the sampling interval in days
abbrev pub is_interval : ℕ → Bool
is_interval days = list_any (λ interval. days == interval) (1 ∷ 2 ∷ 3 ∷ 6 ∷ [])

unfoldable pub interval_in : List ℕ → Option ℕ
interval_in text = do
  days ← digits_in 1 text
  if is_interval days then Some days else None

-- eligible, or concurred
abbrev pub truth_in : List ℕ → Option Bool
truth_in text =
    if bytes_eq text (codes "Y") then Some true else (if bytes_eq text (codes "N") then Some false else None)

-- an event's number, without leading zeros
abbrev pub is_event_number : ℕ → Bool
is_event_number number = nat_le 1 number && nat_le number LAST_EVENT_NUMBER

unfoldable pub event_number_in : List ℕ → Option ℕ
event_number_in text =
    if are_digits text && nat_le 49 (slice_index text 0) && is_event_number (digits_value 10 text)
    then Some (digits_value 10 text) else None

-- the qualifier codes that request exclusion of an event, RA to RZ
abbrev pub is_event_code : Code → Bool
is_event_code code = (code.first == 82) && is_ascii_uppercase code.second

unfoldable pub event_code_in : List ℕ → Option Code
event_code_in text = do
  code ← null_in text
  if is_event_code code then Some code else None
