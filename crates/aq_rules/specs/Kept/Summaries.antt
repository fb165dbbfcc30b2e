-- What the program keeps of a site's quarters and years, with the facts that each keeps, and how it is filled (own).
use Rattle.std.specs.Prelude.{◌≡◌, ℕ, ◌+◌, ◌*◌, ◌≤◌, Bool, true, ◌&&◌, ◌==◌, nat_le, min, IsTrue, List, [], ◌∷◌, length, map, take, filter_map, sum_by, slice_get, All, Option, is_some, ℤ, pos, ◌*ℤ◌, int_le}
use Rattle.std.specs.List.{list_all}
use Rattle.std.specs.Option.{option_map_or}
use Rattle.aq_base.specs.Site.{Site}
use Rattle.aq_base.specs.declared.monitor.Pollutant.{Pollutant}
use Rattle.aq_base.specs.declared.monitor.Pollutant.TheVariants.{Ozone, Pm25}
use Rattle.aq_rules.specs.Office.Office.{Office}
use Rattle.aq_rules.specs.Lines.Spellings.{is_in_range}
use Rattle.aq_rules.specs.Lists.{total, least, greatest, ranked}
use Rattle.aq_rules.specs.Ozone.OzoneYear.{OzoneYear}
use Rattle.aq_rules.specs.Particles.QuarterCounts.{QuarterCounts, QuarterDays, pm25_year, values_in}
use Rattle.aq_rules.specs.Particles.Pm10Estimate.{Pm10Quarter}

-- a value, if there is one, is in its pollutant's range
abbrev pub is_value : Pollutant → Option ℤ → Bool
is_value pollutant value = option_map_or (is_in_range pollutant) value true

-- ---- ozone

pub record KeepsOzoneYear (year : OzoneYear) : Type 0 where
  pub some_season : 1 ≤ year.season_days
  pub season_days : year.season_days ≤ 366
  pub season_valid : year.season_valid ≤ year.season_days
  pub ranked : year.ranked ≤ 366
  pub fourth : is_some year.fourth ≡ nat_le 4 year.ranked
  pub fourth_in_range : IsTrue (is_value Ozone year.fourth)

-- ---- PM2.5

-- a quarter's counts, and of the values that are not excluded their number, sum, least and greatest one
pub record PmQuarter : Type 0 where
  pub scheduled : ℕ
  pub creditable : ℕ
  pub counted : ℕ
  pub net_days : ℕ
  pub sum : ℤ
  pub least : Option ℤ
  pub greatest : Option ℤ

abbrev pub counts_of : PmQuarter → QuarterCounts
counts_of q = record { scheduled = q.scheduled; creditable = q.creditable; counted = q.counted }

-- four quarters, and the eight greatest values of the year, downwards
pub record PmYear : Type 0 where
  pub quarters : List PmQuarter
  pub top : List ℤ

abbrev pub eight_greatest : List ℤ → List ℤ
eight_greatest values = take 8 (ranked values)

abbrev pub summary_of_quarter : QuarterDays → PmQuarter
summary_of_quarter q = record {
  scheduled = q.counts.scheduled;
  creditable = q.counts.creditable;
  counted = q.counts.counted;
  net_days = length q.values;
  sum = total q.values;
  least = least q.values;
  greatest = greatest q.values;
}

abbrev pub summary_of_year : List QuarterDays → PmYear
summary_of_year quarters = record { quarters = map summary_of_quarter quarters; top = eight_greatest (values_in quarters) }

unfoldable pub pm25_summary : Office → Site → ℕ → PmYear
pm25_summary office site year = summary_of_year (pm25_year office site year)

-- the sum lies between so many times the least and the greatest value
abbrev pub is_sum_within : PmQuarter → Bool
is_sum_within q =
    option_map_or (λ low. int_le (low *ℤ pos q.net_days) q.sum) q.least true
    && option_map_or (λ high. int_le q.sum (high *ℤ pos q.net_days)) q.greatest true

pub record KeepsPmQuarter (q : PmQuarter) : Type 0 where
  pub counted : q.counted ≤ q.creditable
  pub creditable : q.creditable ≤ q.scheduled
  pub scheduled : q.scheduled ≤ 92
  pub counted_net : q.counted ≤ q.net_days
  pub net_days : q.net_days + q.scheduled ≤ 92 + q.creditable
  pub some_least : is_some q.least ≡ nat_le 1 q.net_days
  pub some_greatest : is_some q.greatest ≡ nat_le 1 q.net_days
  pub least_in_range : IsTrue (is_value Pm25 q.least)
  pub greatest_in_range : IsTrue (is_value Pm25 q.greatest)
  pub sum_within : IsTrue (is_sum_within q)
  pub no_sum : q.net_days ≡ 0 → q.sum ≡ pos 0

abbrev pub scheduled_in : List PmQuarter → ℕ
scheduled_in quarters = sum_by (λ (q : PmQuarter). q.scheduled) quarters

abbrev pub net_days_in : List PmQuarter → ℕ
net_days_in quarters = sum_by (λ (q : PmQuarter). q.net_days) quarters

abbrev pub falls : List ℤ → Bool
falls [] = true
falls (value ∷ []) = true
falls (value ∷ next ∷ values) = int_le next value && falls (next ∷ values)

pub record KeepsPmYear (year : PmYear) : Type 0 where
  pub four : length year.quarters ≡ 4
  pub quarters : All KeepsPmQuarter year.quarters
  pub scheduled : scheduled_in year.quarters ≤ 366
  pub top_falls : IsTrue (falls year.top)
  pub top_in_range : IsTrue (list_all (is_in_range Pm25) year.top)
  pub top_count : length year.top ≡ min 8 (net_days_in year.quarters)
  pub top_greatest : slice_get year.top 0 ≡ greatest (filter_map (λ (q : PmQuarter). q.greatest) year.quarters)

-- ---- PM10

pub record KeepsPm10Quarter (q : Pm10Quarter) : Type 0 where
  pub at_least : 90 ≤ q.calendar_days
  pub at_most : q.calendar_days ≤ 92
  pub captured : q.captured ≤ q.scheduled
  pub scheduled : q.scheduled ≤ q.calendar_days
  pub strata : q.strata ≤ q.samples
  pub samples : q.samples ≤ q.calendar_days
  pub sampled : (q.strata == 0) ≡ (q.samples == 0)
  pub scheduled_exceedances : q.scheduled_exceedances ≤ q.exceedances
  pub exceedances : q.exceedances ≤ q.samples
  pub captured_exceedances : q.scheduled_exceedances ≤ q.captured
  pub sixtieths : q.sixtieths ≤ 60 * q.strata

-- a PM10 year is the list of its four quarters
pub record KeepsPm10Year (quarters : List Pm10Quarter) : Type 0 where
  pub four : length quarters ≡ 4
  pub each : All KeepsPm10Quarter quarters
