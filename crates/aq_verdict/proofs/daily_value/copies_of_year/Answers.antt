use Rattle.std.proofs.Common.{◌∙◌, ap}
use Rattle.std.specs.Prelude.{option_map}
use Rattle.std.specs.List.{flat_map}
use Rattle.aq_rules.specs.Lists.{all_of}
use Rattle.aq_rules.specs.Particles.Substitution.{maximum_for}
use Rattle.aq_rules.specs.Kept.SummaryVerdicts.{of_summaries}
use Rattle.aq_verdict.specs.Filled.{copies_of}
use Rattle.aq_verdict.proofs.Rows.{map-matched}
use Rattle.aq_verdict.proofs.PercentilePlaces.{all-copies, filled-year-few}
use Rattle.aq_verdict.proofs.daily_value.copies_of_year.Goals as goal

pub returns-clause-copies : goal.returns-clause-copies
returns-clause-copies c =
    ap (option_map (flat_map copies_of)) c.all_four.ensures
    ∙ all-copies c.maximum_for.result c.maximum_for-2.result c.maximum_for-3.result c.maximum_for-4.result
    ∙ ap (option_map (flat_map (λ copies. copies)))
    (ap all_of
    (map-matched (maximum_for of_summaries) c.args.years.now c.args.year.now c.quarters.result.now _ _ _ _ _ _ _ _ c.quarters.ensures.value c.quarters.ensures.facts.four
    c.maximum_for.ensures.copies c.maximum_for-2.ensures.copies c.maximum_for-3.ensures.copies c.maximum_for-4.ensures.copies))

pub returns-clause-few : goal.returns-clause-few
returns-clause-few c =
    filled-year-few c.args.year.now c.quarters.result.now _ _ _ _ c.maximum_for.result c.maximum_for-2.result c.maximum_for-3.result c.maximum_for-4.result c.all_four.result
    c.quarters.ensures.facts c.quarters.ensures.value c.all_four.ensures
    c.maximum_for.ensures.fills c.maximum_for-2.ensures.fills c.maximum_for-3.ensures.fills c.maximum_for-4.ensures.fills
