use Rattle.std.proofs.Common.{◌≡◌, [], ◌∷◌, codes}
use Rattle.aq_rules.specs.Listed.Sites as listed
use Rattle.aq_listed.proofs.site_sheet.sites_sheet.Goals as goal

pub returns : goal.returns
unfolding listed.sites_sheet
returns c =
    let columns : c.in_ok-columns.columns ≡ codes "site" ∷ codes "ozone" ∷ codes "pm25" ∷ codes "pm10" ∷ [] = c.in_ok-columns.ensures in
    cc (c.new-2.ensures, c.in_ok-heads.ensures, c.in_ok-number.ensures, c.count.ensures, c.in_ok-rows.ensures, columns)
