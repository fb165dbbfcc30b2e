use Rattle.std.proofs.Common.{◌≡◌, [], ◌∷◌, codes}
use Rattle.aq_rules.specs.Listed.Flags as flags
use Rattle.aq_listed.proofs.flag_sheet.flags_sheet.Goals as goal

pub returns : goal.returns
unfolding flags.flags_sheet
returns c =
    let columns : c.in_ok-columns.columns ≡ codes "day" ∷ codes "code" ∷ codes "flagged" ∷ codes "covered" ∷ codes "excluded" ∷ [] = c.in_ok-columns.ensures in
    cc (c.new-4.ensures, c.in_ok-heads.ensures, c.in_ok-site.ensures, c.in_ok-text.ensures, c.site_text.ensures, c.in_ok-parameter.ensures, c.in_ok-name.ensures, c.parameter_name.ensures, c.in_ok-year.ensures, c.count.ensures, c.in_ok-rows.ensures, columns)
