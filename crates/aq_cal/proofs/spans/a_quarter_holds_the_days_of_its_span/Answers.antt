use Rattle.aq_cal.proofs.Within.{quarter_holds}
use Rattle.aq_cal.proofs.spans.a_quarter_holds_the_days_of_its_span.Goals as goal

pub returns : goal.returns
returns c quarter day h = quarter_holds quarter day h
