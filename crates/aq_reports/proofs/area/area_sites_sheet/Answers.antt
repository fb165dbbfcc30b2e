use Rattle.std.proofs.Common.{◌≡◌, [], ◌∷◌, refl, codes}
use Rattle.aq_rules.specs.Shown.AreaSheets as sheets
use Rattle.aq_rules.specs.Shown.OtherSheets as other_sheets
use Rattle.aq_reports.proofs.Formed.{sheet-formed}
use Rattle.aq_reports.proofs.area.area_sites_sheet.Goals as goal

pub returns-clause-value : goal.returns-clause-value
unfolding sheets.area_sites_sheet other_sheets.report_sheet
returns-clause-value c =
    let columns : c.in_ok-columns.columns ≡ codes "site" ∷ codes "value" ∷ codes "verdict" ∷ codes "critical" ∷ [] = c.in_ok-columns.ensures in
    cc (c.new.ensures, c.in_ok-heads.ensures.value, c.in_ok-rows.ensures.value, columns)

pub returns-clause-well_formed : goal.returns-clause-well_formed
returns-clause-well_formed c =
    sheet-formed _ _ _ _ _ c.new.ensures c.in_ok-columns.ensures refl c.in_ok-heads.ensures.heads c.in_ok-rows.ensures.rows
