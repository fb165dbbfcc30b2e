use Rattle.std.proofs.Common.{◌∙◌, List, subst}
use Rattle.aq_rules.specs.Listed.Events.{StandingEvent}
use Rattle.aq_listed.specs.FlagWords.{is_covered, AreThose}
use Rattle.aq_listed.proofs.flag_marks.flag_marks.Goals as goal

pub returns-clause-covered : goal.returns-clause-covered
returns-clause-covered g c =
    subst (λ (events : List StandingEvent). AreThose (is_covered events) c.in_ok-all.all c.in_ok-covered.covered) (c.as_slice.ensures ∙ c.in_ok-standing.ensures) c.in_ok-covered.ensures
