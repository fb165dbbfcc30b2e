use Rattle.std.proofs.Common.{◌≡◌, ◌++◌, drop, flat_map}
use Rattle.aq_browser.specs.Links.{report_link}
use Rattle.aq_browser.proofs.links.write_report_of_each.Given as goal

abbrev pub invariant-loop-standard : goal.invariant-loop-standard
invariant-loop-standard l =
    l.out.items ++ flat_map (report_link l.year) (drop l.standard-index l.standards) ≡ l.fn.out.items ++ flat_map (report_link l.year) l.standards
