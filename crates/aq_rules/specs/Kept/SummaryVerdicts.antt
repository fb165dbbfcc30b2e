-- The PM2.5 verdicts on what is kept: the rules of `AnnualVerdict` and `DailyVerdict`, read of sums, counts and the eight greatest values instead of the lists (own). The ozone and PM10 verdicts are stated on what is kept from the start.
use Rattle.std.specs.Prelude.{ℕ, ◌+◌, List, ◌++◌, length, sum_by, Option, ℤ, ◌+ℤ◌}
use Rattle.aq_rules.specs.Lists.{total}
use Rattle.aq_rules.specs.Particles.Percentile.{percentile}
use Rattle.aq_rules.specs.Particles.YearParts.{Parts}
use Rattle.aq_rules.specs.Particles.AnnualVerdict.{ParticleDv, mean_of, annual_rule}
use Rattle.aq_rules.specs.Particles.DailyVerdict.{percentile_of, daily_rule}
use Rattle.aq_rules.specs.Kept.Summaries.{PmQuarter, PmYear, counts_of}

abbrev pub kept_counted : List PmQuarter → ℕ
kept_counted quarters = sum_by (λ (q : PmQuarter). q.counted) quarters

-- copies are added to the sum and the number of a quarter, and join the eight greatest of the year
abbrev pub of_summaries : Parts PmQuarter PmYear
of_summaries = record {
  quarters = λ year. year.quarters;
  counts = counts_of;
  number = λ q. q.net_days;
  least_value = λ q. q.least;
  greatest_value = λ q. q.greatest;
  mean_with = λ copies q. (q.sum +ℤ total copies, q.net_days + length copies);
  percentile_with = λ copies year. percentile (year.top ++ copies) (kept_counted year.quarters + length copies);
}

abbrev pub mean_of_sums : List PmQuarter → Option ℤ
mean_of_sums quarters = mean_of of_summaries quarters

abbrev pub kept_percentile : PmYear → Option ℤ
kept_percentile year = percentile_of of_summaries year

abbrev pub kept_annual_dv : ℤ → List PmYear → ParticleDv
kept_annual_dv level years = annual_rule of_summaries level years

abbrev pub kept_daily_dv : List PmYear → ParticleDv
kept_daily_dv years = daily_rule of_summaries years
