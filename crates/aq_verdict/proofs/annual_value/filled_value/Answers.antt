use Rattle.std.proofs.Common.{◌≡◌, List, length, map, get_or, ◌∙◌, ap}
use Rattle.std.specs.Prelude.{Option, option_and_then}
use Rattle.aq_rules.specs.Lists.{all_of}
use Rattle.aq_rules.specs.Particles.Means.{Fraction, mean_of_means}
use Rattle.aq_rules.specs.Particles.Substitution.{matched}
use Rattle.aq_rules.specs.Particles.AnnualVerdict.{filled_mean, filled_value}
use Rattle.aq_rules.specs.Kept.Summaries.{PmYear}
use Rattle.aq_rules.specs.Kept.SummaryVerdicts.{of_summaries}
use Rattle.aq_verdict.specs.Filled.{copies_in_test, joined_three}
use Rattle.aq_verdict.specs.declared.substitution.Test.{Test}
use Rattle.aq_verdict.proofs.Rows.{all-three}
use Rattle.aq_verdict.proofs.annual_value.filled_value.Goals as goal

abbrev means_in : List PmYear → Test → PmYear → Option (List Fraction)
means_in years test year = all_of (map (filled_mean of_summaries (copies_in_test test)) (matched of_summaries years year))

filled-is : (years : List PmYear) (test : Test) (a b c : PmYear) (first second third all : Option (List Fraction)) → length years ≡ 3 → all ≡ joined_three first second third
    → first ≡ means_in years test (get_or years 0 a) → second ≡ means_in years test (get_or years 1 b) → third ≡ means_in years test (get_or years 2 c)
    → option_and_then mean_of_means all ≡ filled_value of_summaries (copies_in_test test) years
filled-is years test a b c first second third all three is is_first is_second is_third =
    ap (option_and_then mean_of_means)
    (all-three (filled_mean of_summaries (copies_in_test test)) (matched of_summaries years) years a b c first second third all three is is_first is_second is_third)

pub returns-in_err-all_together : goal.returns-in_err-all_together
returns-in_err-all_together c =
    c.from_residual.ensures
    ∙ filled-is c.args.years.now c.args.test _ _ _ _ _ _ _ c.told-years c.in_err-all_together.ensures.all c.filled_means-first.ensures.means c.filled_means-second.ensures.means c.filled_means-third.ensures.means

pub returns : goal.returns
returns c =
    c.mean_of_three_years.ensures
    ∙ filled-is c.args.years.now c.args.test _ _ _ _ _ _ _ c.told-years c.in_ok-all_together.ensures.all c.filled_means-first.ensures.means c.filled_means-second.ensures.means c.filled_means-third.ensures.means
