use Rattle.std.proofs.Common.{[], ◌∷◌, subst}
use Rattle.aq_rules.specs.Kept.Summaries.{KeepsPmYear}
use Rattle.aq_design.proofs.combined.value.three_pm25_years.Goals as goal

pub returns-clause-years : goal.returns-clause-years
returns-clause-years g c = λ i. c.pm25_year-first.ensures i ∷ c.pm25_year-second.ensures i ∷ c.pm25_year-third.ensures i ∷ []

pub returns-clause-first_kept : goal.returns-clause-first_kept
returns-clause-first_kept g c = subst KeepsPmYear c.pm25_year-first.ensures c.quarters.ensures.facts

pub returns-clause-second_kept : goal.returns-clause-second_kept
returns-clause-second_kept g c = subst KeepsPmYear c.pm25_year-second.ensures c.quarters-2.ensures.facts

pub returns-clause-third_kept : goal.returns-clause-third_kept
returns-clause-third_kept g c = subst KeepsPmYear c.pm25_year-third.ensures c.quarters-3.ensures.facts
