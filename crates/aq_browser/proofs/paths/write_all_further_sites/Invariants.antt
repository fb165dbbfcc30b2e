use Rattle.std.proofs.Common.{◌≡◌, ◌++◌, drop, flat_map}
use Rattle.aq_browser.specs.Paths.{further_site}
use Rattle.aq_browser.proofs.paths.write_all_further_sites.Given as goal

abbrev pub invariant-loop-site : goal.invariant-loop-site
invariant-loop-site l =
    l.out.items ++ flat_map further_site (drop l.site-index l.sites) ≡ l.fn.out.items ++ flat_map further_site l.sites
