use Rattle.std.proofs.Common.{◌≡◌, [], ◌∷◌, codes}
use Rattle.aq_rules.specs.Shown.Sheets as sheets
use Rattle.aq_reports.proofs.days.days_sheet.Goals as goal

pub returns : goal.returns
unfolding sheets.days_sheet
returns c =
    let columns : c.in_ok-columns.columns ≡ codes "day" ∷ codes "averages" ∷ codes "valid" ∷ codes "approved" ∷ codes "maximum" ∷ [] = c.in_ok-columns.ensures in
    cc (c.new.ensures, c.in_ok-heads.ensures, c.in_ok-rows.ensures, c.year_span-first.ensures.first, columns)
