-- What the PM2.5 verdicts read of a quarter and of a year. Each rule is written once, over these parts: `of_values` has those of the lists of values, and `of_summaries` (in `SummaryVerdicts`) those of what is kept of them (own).
use Rattle.std.specs.Prelude.{ℕ, ◌+◌, List, ◌++◌, length, Option, ℤ}
use Rattle.aq_rules.specs.Lists.{least, greatest}
use Rattle.aq_rules.specs.Particles.QuarterCounts.{QuarterCounts, QuarterDays, counted_in, values_in}
use Rattle.aq_rules.specs.Particles.Means.{Fraction, quarterly_mean}
use Rattle.aq_rules.specs.Particles.Percentile.{percentile}

-- of a year its quarters; of a quarter its counts, the number of its values, the least and the greatest of them, and the mean of them and of copies of a value; and the percentile of a year's values and of such copies
pub record Parts (Quarter Year : Type 0) : Type 0 where
  pub quarters : Year → List Quarter
  pub counts : Quarter → QuarterCounts
  pub number : Quarter → ℕ
  pub least_value : Quarter → Option ℤ
  pub greatest_value : Quarter → Option ℤ
  pub mean_with : List ℤ → Quarter → Fraction
  pub percentile_with : List ℤ → Year → Option ℤ

-- the lists of values: copies join the list, and for the percentile they count as samples
abbrev pub of_values : Parts QuarterDays (List QuarterDays)
of_values = record {
  quarters = λ year. year;
  counts = λ q. q.counts;
  number = λ q. length q.values;
  least_value = λ q. least q.values;
  greatest_value = λ q. greatest q.values;
  mean_with = λ copies q. quarterly_mean (q.values ++ copies);
  percentile_with = λ copies year. percentile (values_in year ++ copies) (counted_in year + length copies);
}
