use Rattle.std.proofs.Common.{◌≡◌, length, flat_map}
use Rattle.aq_rules.specs.Listed.Monitors.{listed_monitors}
use Rattle.aq_rules.specs.Office.Office.{sites_of}
use Rattle.aq_rules.specs.Shown.OtherSheets.{rising_sites}
use Rattle.aq_series.specs.OfficeView.{office_of}
use Rattle.aq_listed.specs.LastDay.{later, latest}
use Rattle.aq_listed.proofs.ListedSites.{AreChecked}
use Rattle.aq_series.proofs.SiteWalk.{sites_above}
use Rattle.aq_listed.proofs.last_days.last_day.Given as goal

abbrev pub invariant-loop-site : goal.invariant-loop-site
invariant-loop-site g l = record {
  day :
      later l.day (latest (flat_map (listed_monitors (office_of l.registry l.shelf)) (sites_above l.registry l.after)))
      ≡ latest (flat_map (listed_monitors (office_of l.registry l.shelf)) (rising_sites (sites_of l.registry)));
  valid : AreChecked l.registry l.after;
}

abbrev pub decreases-loop-site : goal.decreases-loop-site
decreases-loop-site g l = length (sites_above l.registry l.after)
