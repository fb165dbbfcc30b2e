use Rattle.std.proofs.Common.{◌∙◌, sym, ap}
use Rattle.std.specs.Prelude.{nat_le}
use Rattle.std.specs.List.{list_all}
use Rattle.std.proofs.lemmas.List.Folds.{list_all-map}
use Rattle.aq_rules.specs.Particles.QuarterCounts.{QuarterCounts}
use Rattle.aq_rules.specs.Kept.Summaries.{counts_of}
use Rattle.aq_verdict.specs.Counts.{has_eleven}
use Rattle.aq_verdict.proofs.counts.has_eleven_each.Goals as goal

pub returns : goal.returns
returns c =
    c.have_eleven.ensures ∙ ap (list_all has_eleven) c.quarters.ensures.value
    ∙ sym (list_all-map (λ (counts : QuarterCounts). nat_le 11 counts.creditable) counts_of c.args.year.now.quarters)
