use Rattle.std.proofs.Common.{◌≡◌, [], ◌∷◌, refl, codes}
use Rattle.aq_rules.specs.Shown.AreaSheets as sheets
use Rattle.aq_reports.proofs.Formed.{sheet-formed}
use Rattle.aq_reports.proofs.decisive.decisive_sheet.Goals as goal

pub returns-clause-value : goal.returns-clause-value
unfolding sheets.decisive_sheet
returns-clause-value c =
    let columns : c.in_ok-columns.columns ≡ codes "event" ∷ codes "verdict" ∷ [] = c.in_ok-columns.ensures in
    cc (c.new.ensures, c.in_ok-heads.ensures.value, c.in_ok-rows.ensures.value, columns)

pub returns-clause-well_formed : goal.returns-clause-well_formed
returns-clause-well_formed c =
    sheet-formed _ _ _ _ _ c.new.ensures c.in_ok-columns.ensures refl c.in_ok-heads.ensures.heads c.in_ok-rows.ensures.rows
