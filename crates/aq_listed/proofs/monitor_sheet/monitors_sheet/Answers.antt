use Rattle.std.proofs.Common.{◌≡◌, [], ◌∷◌, codes}
use Rattle.aq_rules.specs.Listed.Monitors as listed
use Rattle.aq_listed.proofs.monitor_sheet.monitors_sheet.Goals as goal

pub returns : goal.returns
unfolding listed.monitors_sheet
returns c =
    let columns : c.in_ok-columns.columns ≡ codes "parameter" ∷ codes "poc" ∷ codes "duration" ∷ codes "eligible" ∷ codes "observations" ∷ codes "first" ∷ codes "last" ∷ [] = c.in_ok-columns.ensures in
    cc (c.new-2.ensures, c.in_ok-heads.ensures, c.in_ok-site.ensures, c.in_ok-text.ensures, c.site_text.ensures, c.in_ok-rows.ensures, columns)
