use Rattle.aq_rules.proofs.AnyOrder.{site_hour-any_order}
use Rattle.aq_rules.proofs.ozone.site_hour.site_hour_forgets_the_order.Goals as goal

pub returns : goal.returns
returns c = site_hour-any_order
