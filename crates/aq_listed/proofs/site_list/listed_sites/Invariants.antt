use Rattle.std.proofs.Common.{◌≡◌, ◌++◌, length, map}
use Rattle.aq_registry.specs.Registry.{office_with}
use Rattle.aq_rules.specs.Listed.Sites.{listed_site}
use Rattle.aq_rules.specs.Office.Office.{sites_of}
use Rattle.aq_rules.specs.Shown.OtherSheets.{rising_sites}
use Rattle.aq_listed.proofs.ListedSites.{AreChecked}
use Rattle.aq_series.proofs.SiteWalk.{sites_above}
use Rattle.aq_listed.proofs.site_list.listed_sites.Given as goal

abbrev pub invariant-loop-site : goal.invariant-loop-site
invariant-loop-site l = record {
  rows :
      l.rows ++ map (listed_site (office_with l.registry)) (sites_above l.registry l.after)
      ≡ map (listed_site (office_with l.registry)) (rising_sites (sites_of l.registry));
  valid : AreChecked l.registry l.after;
}

abbrev pub decreases-loop-site : goal.decreases-loop-site
decreases-loop-site l = length (sites_above l.registry l.after)
