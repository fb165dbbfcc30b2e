use Rattle.aq_rules.proofs.AreaHistories.{met-push, first-some}
use Rattle.aq_rules.proofs.areas.area_value.histories_grow_by_the_year.Goals as goal

pub returns : goal.returns
returns c = record { met = met-push; first = first-some }
