-- The highest days of a year, and the rank that decides.
use Rattle.std.proofs.Common.{◌≡◌, ℕ, Option, Some, List, length, map, take, refl, ap, sym, ◌∙◌}
use Rattle.std.specs.Prelude.{ℤ}
use Rattle.aq_base.specs.Calendar.{days_in_year, year_first}
use Rattle.aq_base.specs.Site.{Site}
use Rattle.aq_base.specs.declared.monitor.Pollutant.{Pollutant}
use Rattle.aq_base.specs.declared.monitor.Pollutant.TheVariants.{Ozone, Pm25, Pm10}
use Rattle.aq_rules.specs.Kept.Summaries.{pm25_summary}
use Rattle.aq_rules.specs.Kept.SummaryVerdicts.{kept_counted}
use Rattle.aq_rules.specs.Listed.Highest.{MaximumAt, RankedDay, TEN, days_ranked, deciding_pm25, deciding_rank, highest_answer, first_at, highest_of, highest_ozone_sheet, highest_particles_sheet, ranked_days, ranked_value, with_start}
use Rattle.aq_rules.specs.Office.Office.{Office}
use Rattle.aq_rules.specs.Ozone.EightHour.{WindowRow}
use Rattle.aq_rules.specs.Ozone.OzoneDay.{windows}
use Rattle.aq_rules.specs.Ozone.OzoneYear.{days_of}
use Rattle.aq_rules.specs.Particles.ParticleDay.{net_day}
use Rattle.aq_rules.specs.Particles.QuarterCounts.{counted_in, pm25_year}
use Rattle.aq_series.specs.DayCells.{IsParticulate}
use Rattle.aq_reports.specs.Daily.Maxima.{first_among}
use Rattle.aq_reports.specs.Daily.Ranked.{ranked_from, IsHighest}
use Rattle.aq_reports.specs.declared.daily.ranked.Highest.{Highest}
use Rattle.aq_reports.proofs.DailyLemmas.Ranks.{ranked-days}

module _ (office : Office) (site : Site) (year : ℕ) where
  -- the samples of what is kept of a year are those of the year
  counted-same : kept_counted (pm25_summary office site year).quarters ≡ counted_in (pm25_year office site year)
  unfolding pm25_summary pm25_year
  counted-same = refl

  pub pm25-decides : (pollutant : Pollutant) (counted : ℕ) → pollutant ≡ Pm25 → counted ≡ kept_counted (pm25_summary office site year).quarters → deciding_pm25 counted ≡ deciding_rank office site pollutant year
  unfolding deciding_rank
  pm25-decides pollutant counted is sum =
      ap deciding_pm25 (sum ∙ counted-same) ∙ ap (λ (p : Pollutant). deciding_rank office site p year) (sym is)

  -- ---- the days of a year that have a value are those that are ranked

  module _ (pollutant : Pollutant) (values : List (Option ℤ)) (first : ℕ) (from : first ≡ year_first year) (found : Highest) (held : IsHighest (ranked_from first values) found) where
    are-ranked : values ≡ map (ranked_value office site pollutant) (days_of year) → days_ranked (ranked_from first values) ≡ ranked_days office site pollutant year
    unfolding ranked_days days_of
    are-ranked are = ap days_ranked ((λ i. ranked_from (from i) (are i)) ∙ ranked-days (ranked_value office site pollutant) (year_first year) (days_in_year year))

    number-is : values ≡ map (ranked_value office site pollutant) (days_of year) → found.ranked ≡ length (ranked_days office site pollutant year)
    number-is are = held.ranked_is ∙ ap (λ (l : List RankedDay). length l) (are-ranked are)

    ten-are : values ≡ map (ranked_value office site pollutant) (days_of year) → found.days.items ≡ take TEN (ranked_days office site pollutant year)
    ten-are are = held.days_are ∙ ap (take TEN) (are-ranked are)

    -- ---- the sheet of a particle year

    net-values : (p : Pollutant) → IsParticulate p → (days : List ℕ) → map (net_day office site p) days ≡ map (ranked_value office site p) days
    net-values Ozone particles days = absurd particles
    net-values Pm25 particles days = refl
    net-values Pm10 particles days = refl

    as-answer : (p : Pollutant) → IsParticulate p → (rows : List RankedDay) → highest_particles_sheet site p year (length rows) (deciding_rank office site p year) (take TEN rows) ≡ highest_of office site p year rows
    as-answer Ozone particles rows = absurd particles
    as-answer Pm25 particles rows = refl
    as-answer Pm10 particles rows = refl

    pub highest-is : IsParticulate pollutant → values ≡ map (net_day office site pollutant) (days_of year) → (decides : Option ℕ) → decides ≡ deciding_rank office site pollutant year
        → highest_particles_sheet site pollutant year found.ranked decides found.days.items ≡ highest_answer office site pollutant year
    unfolding highest_answer
    highest-is particles are decides decided =
        let ranked = are ∙ net-values pollutant particles (days_of year) in
        (λ i. highest_particles_sheet site pollutant year (number-is ranked i) (decided i) (ten-are ranked i))
        ∙ as-answer pollutant particles (ranked_days office site pollutant year)

  -- ---- the sheet of an ozone year, for whoever has its maxima and the averages of its highest days

  pub highest-ozone-is : (values : List (Option ℤ)) (first : ℕ) → first ≡ year_first year → values ≡ map (ranked_value office site Ozone) (days_of year)
      → (found : Highest) → IsHighest (ranked_from first values) found → (rows : List (RankedDay × Option MaximumAt)) → rows ≡ map (with_start office site) found.days.items
      → highest_ozone_sheet site year found.ranked (Some 4) rows ≡ highest_answer office site Ozone year
  unfolding highest_answer deciding_rank
  highest-ozone-is values first from are found held rows starts =
      let rows-are = starts ∙ ap (map (with_start office site)) (ten-are Ozone values first from found held are) in
      λ i. highest_ozone_sheet site year (number-is Ozone values first from found held are i) (Some 4) (rows-are i)

  -- the start of a day's maximum, among its averages
  pub start-among : (day : ℕ) (value : ℤ) (rows : List WindowRow) → rows ≡ windows office site day → first_among value rows ≡ first_at office site day value
  unfolding first_at
  start-among day value rows are = ap (first_among value) are
