use Rattle.std.proofs.Common.{◌≤◌, ◌∙◌, ap, sym, subst}
use Rattle.aq_rules.specs.Kept.SummaryVerdicts.{kept_counted}
use Rattle.aq_verdict.proofs.PercentilePlaces.{counted-few}
use Rattle.aq_verdict.proofs.counts.counted_in.Goals as goal

pub returns-clause-most : goal.returns-clause-most
returns-clause-most c =
    let facts = c.quarters.ensures.facts in
    subst (λ n. n ≤ 366) (sym (c.counted_of.ensures ∙ ap kept_counted c.quarters.ensures.value))
    (counted-few c.args.year.now.quarters facts.four facts.quarters facts.scheduled)
