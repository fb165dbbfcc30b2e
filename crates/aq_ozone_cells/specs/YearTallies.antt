-- What the days of the years of sites give them: the maxima that are ranked, and the days that count as valid.
use Rattle.std.specs.Prelude.{◌≡◌, ◌<◌, ℕ, ◌&&◌, ◌==◌, false, if◌then◌else◌, List, length, Option, Some, None, ℤ, pos}
use Rattle.aq_base.specs.Site.{Site}
use Rattle.aq_agg.specs.Bags.{with_item}
use Rattle.aq_agg.specs.Sums.{AreOf}
use Rattle.aq_agg.specs.Tallies.{BagAt}
use Rattle.aq_agg.specs.declared.sum_count.SumCount.{SumCount}
use Rattle.aq_rules.specs.Office.Monitors.{is_same_site}
use Rattle.aq_ozone_cells.specs.RankedMaxima.{AreRanksOf}
use Rattle.aq_ozone_cells.specs.SiteKeys.{key_cmp, site_key}
use Rattle.aq_ozone_cells.specs.declared.kept_days.HeldDay.{HeldDay}
use Rattle.aq_ozone_cells.specs.declared.year_tallies.YearTallies.{YearTallies}

-- ---- what a day gives its year

-- the maximum of a valid day, and an item for a day of the season that is valid or approved
abbrev pub maximum_of : HeldDay → Option ℤ
maximum_of day = if day.valid then day.maximum else None

abbrev pub count_of : HeldDay → Option ℤ
count_of day = if day.counted then Some (pos 0) else None

-- ---- the years

-- what is kept of a bag of such items
abbrev pub IsCountOf : List ℤ → SumCount → Type 0
IsCountOf bag kept = AreOf bag kept.sum kept.number

-- the maxima and the counted days of a year
pub record AreBags (site : Site) (year : ℕ) (maxima counted : List ℤ) (tallies : YearTallies) : Type 0 where
  pub maxima_are : BagAt key_cmp AreRanksOf (site_key site year) maxima tallies.maxima
  pub counted_are : BagAt key_cmp IsCountOf (site_key site year) counted tallies.counted

-- the day is one of those that the year has, of which there are few
pub record HasDay (site : Site) (year : ℕ) (day : HeldDay) (tallies : YearTallies) : Type 0 where
  pub maxima : List ℤ
  pub counted : List ℤ
  pub bags : AreBags site year (with_item (maximum_of day) maxima) (with_item (count_of day) counted) tallies
  pub few_maxima : length maxima < 366
  pub few_counted : length counted < 366

-- the year has the second day in place of the first
abbrev pub Exchanges : Site → ℕ → HeldDay → HeldDay → YearTallies → YearTallies → Type 0
Exchanges site year old new before after =
    (maxima counted : List ℤ)
    → AreBags site year (with_item (maximum_of old) maxima) (with_item (count_of old) counted) before
    → AreBags site year (with_item (maximum_of new) maxima) (with_item (count_of new) counted) after

-- what all other years have stays
abbrev pub OthersStay : Site → ℕ → YearTallies → YearTallies → Type 0
OthersStay site year before after =
    (other : Site) (number : ℕ) (maxima counted : List ℤ) → (is_same_site site other && (year == number)) ≡ false
    → AreBags other number maxima counted before → AreBags other number maxima counted after
