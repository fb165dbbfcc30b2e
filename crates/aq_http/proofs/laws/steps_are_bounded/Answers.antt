use Rattle.aq_http.proofs.Fronts.{open_is_short}
use Rattle.aq_http.proofs.Steps.{more_is_short, refusal_has_reply, whole_within}
use Rattle.aq_http.proofs.laws.steps_are_bounded.Goals as goal

pub returns-clause-more_of_head : goal.returns-clause-more_of_head
returns-clause-more_of_head c input is = open_is_short input is

pub returns-clause-more : goal.returns-clause-more
returns-clause-more c input is = more_is_short input is

pub returns-clause-used : goal.returns-clause-used
returns-clause-used c input request is = (whole_within input request is).used

pub returns-clause-body : goal.returns-clause-body
returns-clause-body c input request is = (whole_within input request is).body

pub returns-clause-refusal : goal.returns-clause-refusal
returns-clause-refusal c input status is = refusal_has_reply input status is
