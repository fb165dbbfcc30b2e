use Rattle.std.proofs.Common.{ap}
use Rattle.std.specs.Prelude.{option_and_then, map, filter}
use Rattle.aq_rules.specs.Areas.AreaValue.{has_value, least_site, site_in}
use Rattle.aq_rules.proofs.GoverningSites.{least_site-is, governing-some}
use Rattle.aq_rules.proofs.areas.area_value.the_least_site_with_the_greatest_value_governs.Goals as goal

pub returns : goal.returns
returns c = record { least = least_site-is; governs = λ rows value is. ap (option_and_then (λ v. least_site (map site_in (filter (has_value v) rows)))) is; some = governing-some }
