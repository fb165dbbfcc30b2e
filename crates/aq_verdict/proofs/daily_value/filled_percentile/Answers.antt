use Rattle.std.proofs.Common.{◌∙◌, ap, List, ℤ}
use Rattle.std.specs.Prelude.{option_and_then}
use Rattle.aq_rules.specs.Kept.SummaryVerdicts.{of_summaries}
use Rattle.aq_verdict.proofs.daily_value.filled_percentile.Goals as goal

pub returns-in_err-copies_of_year : goal.returns-in_err-copies_of_year
returns-in_err-copies_of_year c =
    c.from_residual.ensures
    ∙ ap (option_and_then (λ (copies : List ℤ). of_summaries.percentile_with copies c.args.year.now)) c.in_err-copies_of_year.ensures.copies

pub returns : goal.returns
returns c =
    c.percentile_with.ensures
    ∙ ap (option_and_then (λ (copies : List ℤ). of_summaries.percentile_with copies c.args.year.now)) c.in_ok-copies_of_year.ensures.copies
