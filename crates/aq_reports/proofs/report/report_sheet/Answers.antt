use Rattle.std.proofs.Common.{◌≡◌, [], ◌∷◌, codes}
use Rattle.aq_rules.specs.Shown.OtherSheets as other_sheets
use Rattle.aq_reports.proofs.report.report_sheet.Goals as goal

pub returns : goal.returns
unfolding other_sheets.report_sheet
returns c =
    let columns : c.in_ok-columns.columns ≡ codes "site" ∷ codes "value" ∷ codes "verdict" ∷ [] = c.in_ok-columns.ensures in
    cc (c.new.ensures, c.in_ok-heads.ensures.value, c.in_ok-rows.ensures, columns)
