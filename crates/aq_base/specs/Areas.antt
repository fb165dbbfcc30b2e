-- Which sites an area has (own).
use Rattle.std.specs.Prelude.{Bool, ◌&&◌, ◌==◌}
use Rattle.aq_base.specs.Site.{Site}
use Rattle.aq_base.specs.Sites.{has_site}
use Rattle.aq_base.specs.declared.area.Area.{Area}
use Rattle.aq_base.specs.declared.area.Area.TheVariants.{County, Sites}

-- the sites of a county, or those that are named
abbrev pub area_holds : Area → Site → Bool
area_holds (County state county) site = (site.state == state) && (site.county == county)
area_holds (Sites sites) site = has_site site sites
