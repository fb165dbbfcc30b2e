-- The highest days of an ozone year, from the days that a book has.
use Rattle.std.proofs.Common.{◌≡◌, ℕ, ◌+◌, ◌≤◌, List, length, map, take, Option, length-take, ap, ◌∙◌, arith}
use Rattle.std.specs.Prelude.{ℤ}
use Rattle.std.proofs.lemmas.List.{length-map}
use Rattle.std.proofs.lemmas.Simd.{map-map}
use Rattle.aq_base.specs.Calendar.{days_in_year}
use Rattle.aq_base.specs.Site.{Site}
use Rattle.aq_base.specs.declared.day.TheConstants.{LAST_DAY}
use Rattle.aq_base.specs.declared.monitor.Pollutant.TheVariants.{Ozone}
use Rattle.aq_rules.specs.Listed.Highest.{MaximumAt, RankedDay, TEN, days_ranked, ranked_value, with_start}
use Rattle.aq_rules.specs.Office.Office.{Office}
use Rattle.aq_rules.specs.Ozone.OzoneDay.{OzoneDay, ozone_day}
use Rattle.aq_rules.specs.Ozone.OzoneYear.{days_of, ozone_days, ranked_maximum}
use Rattle.aq_reports.specs.Daily.Ranked.{IsHighest}
use Rattle.aq_reports.specs.declared.daily.ranked.Highest.{Highest}
use Rattle.aq_reports.proofs.DailyLemmas.YearDays.{as-many}

module _ (office : Office) (site : Site) (year : ℕ) where
  -- what is ranked of the days
  pub maxima-are : (days : List OzoneDay) (values : List (Option ℤ)) → days ≡ ozone_days office site year → values ≡ map ranked_maximum days → values ≡ map (ranked_value office site Ozone) (days_of year)
  unfolding ozone_days
  maxima-are days values are ranked =
      ranked ∙ ap (map ranked_maximum) are ∙ map-map ranked_maximum (ozone_day office site) (days_of year)

  pub maxima-within : (first days : ℕ) (values : List (Option ℤ)) → days ≡ days_in_year year → first + days ≤ LAST_DAY + 1 → values ≡ map (ranked_value office site Ozone) (days_of year)
      → first + length values ≤ LAST_DAY + 1
  maxima-within first days values long within are =
      let many : length values ≡ days_in_year year = ap (λ (l : List (Option ℤ)). length l) are ∙ as-many (ranked_value office site Ozone) year in
      omega (arith, long, within, many)

  -- at most ten are listed
  pub ten-rows : (ranked : List RankedDay) (found : Highest) (rows : List (RankedDay × Option MaximumAt)) → IsHighest ranked found → rows ≡ map (with_start office site) found.days.items
      → length rows ≤ 10
  ten-rows ranked found rows held starts =
      let many : length rows ≡ length found.days.items = ap (λ (l : List (RankedDay × Option MaximumAt)). length l) starts ∙ length-map found.days.items (with_start office site) in
      let few : length found.days.items ≡ length (take TEN (days_ranked ranked)) = ap (λ (l : List RankedDay). length l) held.days_are in
      omega (arith, many, few, length-take TEN (days_ranked ranked))
