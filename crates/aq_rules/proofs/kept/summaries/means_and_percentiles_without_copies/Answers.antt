use Rattle.aq_rules.proofs.KeptSums.{mean-plain, percentile-plain, sums-plain, kept-plain}
use Rattle.aq_rules.proofs.kept.summaries.means_and_percentiles_without_copies.Goals as goal

pub returns : goal.returns
returns c = record { mean = mean-plain; percentile = percentile-plain; mean_of_sums = sums-plain; kept_percentile = kept-plain }
