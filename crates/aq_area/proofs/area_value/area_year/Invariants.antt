use Rattle.std.proofs.Common.{◌≡◌, take}
use Rattle.aq_rules.specs.Areas.AreaValue.{area_year}
use Rattle.aq_area.specs.AreaRows.{site_values}
use Rattle.aq_area.proofs.area_value.area_year.Given as goal

abbrev pub invariant-loop-site : goal.invariant-loop-site
invariant-loop-site l = l.year ≡ area_year (site_values (take l.site-index l.rows)) l.area
