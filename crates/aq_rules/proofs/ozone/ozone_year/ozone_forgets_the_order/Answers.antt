use Rattle.aq_rules.proofs.AnyOrder.{window-any_order, ozone_day-any_order, ozone_year-any_order}
use Rattle.aq_rules.proofs.ozone.ozone_year.ozone_forgets_the_order.Goals as goal

pub returns : goal.returns
returns c = record { average = window-any_order; day = ozone_day-any_order; year = ozone_year-any_order }
