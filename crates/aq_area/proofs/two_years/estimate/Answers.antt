use Rattle.std.proofs.Common.{sym, subst}
use Rattle.std.specs.Option.{IfSome}
use Rattle.aq_area.specs.NextYear.{IsPart}
use Rattle.aq_area.proofs.Sizes.{estimate-part}
use Rattle.aq_area.proofs.two_years.estimate.Goals as goal

pub returns-clause-range : goal.returns-clause-range
returns-clause-range c = subst (λ o. IfSome o IsPart) (sym c.year_estimate.ensures) (estimate-part c.args.year.now c.quarters.ensures.facts)
