use Rattle.std.proofs.Common.{refl}
use Rattle.aq_rules.specs.Lists.{ranked}
use Rattle.aq_rules.specs.Areas.CriticalValue.{critical}
use Rattle.aq_rules.proofs.areas.critical_value.critical_values_of_design_values.Goals as goal

pub returns : goal.returns
unfolding ranked critical
returns c = record { ozone = refl; no_fourth_before = refl; no_fourth_last = refl; annual = refl; other_level = refl; empty_quarter = refl; daily = refl; pm10 = refl; no_sample = refl }
