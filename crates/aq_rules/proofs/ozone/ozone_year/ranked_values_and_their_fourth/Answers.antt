use Rattle.std.proofs.Common.{refl}
use Rattle.aq_rules.specs.Lists.{ranked}
use Rattle.aq_rules.proofs.ozone.ozone_year.ranked_values_and_their_fourth.Goals as goal

pub returns : goal.returns
unfolding ranked
returns c = record { fourth_highest_counts_ties = refl; three_values_have_no_fourth = refl; valid_maxima_are_ranked = refl }
