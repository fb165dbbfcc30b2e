use Rattle.std.proofs.Common.{◌≡◌, ◌++◌, drop}
use Rattle.aq_office.proofs.Areas.{rows_for}
use Rattle.aq_office.proofs.area.site_rows.Given as goal

abbrev pub invariant-loop-site : goal.invariant-loop-site
invariant-loop-site l = l.rows.items ++ rows_for l.standard l.area (drop l.site-index l.values) ≡ rows_for l.standard l.area l.values
