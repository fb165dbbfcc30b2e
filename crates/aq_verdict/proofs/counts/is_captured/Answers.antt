use Rattle.std.proofs.Common.{◌∙◌, sym, ap}
use Rattle.std.specs.Prelude.{nat_le}
use Rattle.std.specs.List.{list_all}
use Rattle.std.proofs.lemmas.List.Folds.{list_all-map}
use Rattle.aq_rules.specs.Particles.QuarterCounts.{capture}
use Rattle.aq_rules.specs.Kept.Summaries.{counts_of}
use Rattle.aq_verdict.specs.Counts.{is_quarter_captured}
use Rattle.aq_verdict.proofs.counts.is_captured.Goals as goal

pub returns : goal.returns
returns c =
    c.are_quarters_captured.ensures ∙ ap (list_all is_quarter_captured) c.quarters.ensures.value
    ∙ sym (list_all-map (λ counts. nat_le 75 (capture counts)) counts_of c.args.year.now.quarters)
