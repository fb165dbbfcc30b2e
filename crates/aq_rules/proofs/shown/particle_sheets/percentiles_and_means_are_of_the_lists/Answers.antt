use Rattle.aq_rules.proofs.PrintedLists.{percentile-printed, mean-printed, percentiles-printed, means-printed}
use Rattle.aq_rules.proofs.shown.particle_sheets.percentiles_and_means_are_of_the_lists.Goals as goal

pub returns : goal.returns
returns c = record { percentile = percentile-printed; mean = mean-printed; percentiles = percentiles-printed; means = means-printed }
