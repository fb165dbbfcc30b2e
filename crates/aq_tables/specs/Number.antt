-- The number under which an observation stands in `observations3`, and the key that a number stands for.
use Rattle.std.specs.Prelude.{ℕ, ◌/◌, ◌%◌, Bool, false, ◌&&◌, nat_lt, if◌then◌else◌, Option, Some, None, ℤ, pos, negsuc, ◌+ℤ◌, ◌-ℤ◌, ◌*ℤ◌, ◌≤ℤ◌, ◌<ℤ◌, unsigned_abs}
use Rattle.std.specs.Int.{int_div_euclid, int_rem_euclid}
use Rattle.sqlite_sql.specs.Numeral.{fits_i64}

-- In decimal places: the site, one place for the pollutant, two for the POC, and six for the hour, counted from 1990-01-01 00:00.
abbrev pub number_with : (site pollutant poc hour : ℤ) → ℤ
number_with site pollutant poc hour = site *ℤ pos 1000000000 +ℤ pollutant *ℤ pos 100000000 +ℤ poc *ℤ pos 1000000 +ℤ (hour +ℤ pos 87648)

abbrev pub lies_below : ℤ → ℕ → Bool
lies_below (pos n) bound = nat_lt n bound
lies_below (negsuc n) bound = false

-- whether each part keeps to its places, and a column can hold the number
abbrev pub has_number : (site pollutant poc hour : ℤ) → Bool
has_number site pollutant poc hour =
    lies_below pollutant 10 && lies_below poc 100 && lies_below (hour +ℤ pos 87648) 1000000 && fits_i64 (number_with site pollutant poc hour)

-- the parts behind a site keep to their places; the hours are counted from 1990-01-01 00:00
pub record KeepPlaces (pollutant poc hours : ℤ) : Type 0 where
  pub pollutant_from : pos 0 ≤ℤ pollutant
  pub pollutant_below : pollutant <ℤ pos 10
  pub poc_from : pos 0 ≤ℤ poc
  pub poc_below : poc <ℤ pos 100
  pub hours_from : pos 0 ≤ℤ hours
  pub hours_below : hours <ℤ pos 1000000

unfoldable pub number_at : (site pollutant poc hour : ℤ) → Option ℤ
number_at site pollutant poc hour = if has_number site pollutant poc hour then Some (number_with site pollutant poc hour) else None

-- ---- the key of a number, by Euclid's division, so that each number has one

abbrev pub site_in : ℤ → ℤ
site_in number = int_div_euclid number (pos 1000000000)

-- the nine places behind the site
abbrev pub behind_in : ℤ → ℕ
behind_in number = unsigned_abs (int_rem_euclid number (pos 1000000000))

abbrev pub pollutant_in : ℤ → ℤ
pollutant_in number = pos (behind_in number / 100000000)

abbrev pub poc_in : ℤ → ℤ
poc_in number = pos (behind_in number / 1000000 % 100)

abbrev pub hour_in : ℤ → ℤ
hour_in number = pos (behind_in number % 1000000) -ℤ pos 87648
