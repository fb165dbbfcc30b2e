-- How words of a command and parts of a path spell standards, sites, days, numbers, assumed concurrences and areas (own).
use Rattle.std.specs.Prelude.{ℕ, ◌-◌, ◌&&◌, ◌==◌, nat_le, if◌then◌else◌, Option, Some, None, option_map, List, [], ◌∷◌, length, take, drop, find, codes, bytes_eq, slice_index}
use Rattle.std.specs.List.{slice_split}
use Rattle.std.specs.Str.Parse.{digits_value}
use Rattle.aq_base.specs.Calendar.{day_of_date, is_design_year}
use Rattle.aq_base.specs.Decimal.{are_digits}
use Rattle.aq_base.specs.Site.{Site}
use Rattle.aq_base.specs.Sites.{all_sites_distinct}
use Rattle.aq_base.specs.Standard.{standards, standard_name}
use Rattle.aq_base.specs.declared.area.Area.{Area}
use Rattle.aq_base.specs.declared.area.Area.TheVariants.{County, Sites}
use Rattle.aq_base.specs.declared.area.TheConstants.{MOST_AREA_SITES}
use Rattle.aq_base.specs.declared.assumed.Assumed.{Assumed}
use Rattle.aq_base.specs.declared.assumed.TheConstants.{MOST_ASSUMED}
use Rattle.aq_base.specs.declared.standard.Standard.{Standard}
use Rattle.aq_base.specs.declared.standard.Standard.TheVariants.{Pm10Of1987}
use Rattle.aq_rules.specs.Limits.{LAST_EVENT_NUMBER}
use Rattle.aq_rules.specs.Lines.Spellings.{◌>>=◌, digits_in, site_in, truth_in, year_in}

-- what stands after a hyphen
abbrev pub behind_hyphen : List ℕ → Option (List ℕ)
behind_hyphen text = if bytes_eq (take 1 text) (codes "-") then Some (drop 1 text) else None

-- SS-CCC-NNNN
unfoldable pub site_word : List ℕ → Option Site
site_word word = do
  county ← behind_hyphen (drop 2 word)
  number ← behind_hyphen (drop 3 county)
  site_in (take 2 word) (take 3 county) number

-- a date by its year, month and day, of four, two and two digits
unfoldable pub date_of : List ℕ → List ℕ → List ℕ → Option ℕ
date_of year month day = do
  y ← digits_in 4 year
  m ← digits_in 2 month
  d ← digits_in 2 day
  day_of_date y m d

-- YYYY-MM-DD
unfoldable pub day_word : List ℕ → Option ℕ
day_word word = do
  month ← behind_hyphen (drop 4 word)
  day ← behind_hyphen (drop 2 month)
  date_of (take 4 word) (take 2 month) day

-- a standard by its name
abbrev pub standard_word : List ℕ → Option Standard
standard_word text = find (λ standard. bytes_eq (standard_name standard) text) standards

-- a standard of whose pollutant sites are combined: not PM10
abbrev pub if_combined : Standard → Option Standard
if_combined Pm10Of1987 = None
if_combined standard = Some standard

unfoldable pub combined_word : List ℕ → Option Standard
combined_word text = do
  standard ← standard_word text
  if_combined standard

-- a number from 1 to a last one, of digits without a leading zero
abbrev pub number_to : ℕ → List ℕ → Option ℕ
number_to last text =
    if are_digits text && nat_le 49 (slice_index text 0) && (nat_le 1 (digits_value 10 text) && nat_le (digits_value 10 text) last)
    then Some (digits_value 10 text) else None

-- a year that ends three years of the profile
unfoldable pub design_year : List ℕ → Option ℕ
design_year text = do
  year ← year_in text
  if is_design_year year then Some year else None

-- ---- lists with commas between their entries

-- what all texts are read as, if each is
abbrev pub all_read : {X : Type 0} → (List ℕ → Option X) → List (List ℕ) → Option (List X)
all_read read [] = Some []
all_read read (text ∷ texts) = do
  first ← read text
  others ← all_read read texts
  Some (first ∷ others)

-- what stands between the commas of a text
abbrev pub between_commas : List ℕ → List (List ℕ)
between_commas text = slice_split (λ byte. byte == 44) text

-- an event's number without a leading zero, and then `Y` or `N`
unfoldable pub assumed_in : List ℕ → Option Assumed
assumed_in text = do
  number ← number_to LAST_EVENT_NUMBER (take (length text - 1) text)
  agreed ← truth_in (drop (length text - 1) text)
  Some (record { number = number; agreed = agreed })

abbrev pub if_few : List Assumed → Option (List Assumed)
if_few entries = if nat_le (length entries) MOST_ASSUMED then Some entries else None

-- 1 to 64 entries
unfoldable pub assumed_list : List ℕ → Option (List Assumed)
assumed_list text = do
  entries ← all_read assumed_in (between_commas text)
  if_few entries

-- a county as `SS-CCC`
unfoldable pub county_word : List ℕ → Option Area
county_word text = do
  state ← digits_in 2 (take 2 text)
  code ← behind_hyphen (drop 2 text)
  county ← digits_in 3 code
  Some (County state county)

abbrev pub if_sites : List Site → Option (List Site)
if_sites sites = if all_sites_distinct sites && nat_le (length sites) MOST_AREA_SITES then Some sites else None

-- 1 to 32 sites, none twice
unfoldable pub sites_word : List ℕ → Option (List Site)
sites_word text = do
  sites ← all_read site_word (between_commas text)
  if_sites sites

abbrev pub area_or : Option Area → Option (List Site) → Option Area
area_or (Some county) sites = Some county
area_or None sites = option_map Sites sites

-- a county, or sites
unfoldable pub area_word : List ℕ → Option Area
area_word text = area_or (county_word text) (sites_word text)
