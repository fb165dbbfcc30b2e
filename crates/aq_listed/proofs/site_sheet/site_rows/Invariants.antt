use Rattle.std.proofs.Common.{◌≡◌, ◌++◌, drop, map}
use Rattle.aq_rules.specs.Listed.Sites.{site_cells}
use Rattle.aq_listed.proofs.site_sheet.site_rows.Given as goal

abbrev pub invariant-loop-site : goal.invariant-loop-site
invariant-loop-site l = l.rows ++ map site_cells (drop l.site-index l.sites) ≡ map site_cells l.sites
