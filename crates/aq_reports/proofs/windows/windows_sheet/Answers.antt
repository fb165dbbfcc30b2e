use Rattle.std.proofs.Common.{◌≡◌, [], ◌∷◌, codes}
use Rattle.aq_rules.specs.Shown.Sheets as sheets
use Rattle.aq_reports.proofs.windows.windows_sheet.Goals as goal

pub returns : goal.returns
unfolding sheets.windows_sheet
returns c =
    let columns : c.in_ok-columns.columns ≡ codes "hour" ∷ codes "average" ∷ codes "hours" ∷ codes "full" ∷ codes "full_hours" ∷ [] = c.in_ok-columns.ensures in
    cc (c.new-3.ensures, c.in_ok-heads.ensures, c.in_ok-site.ensures, c.in_ok-text.ensures, c.site_text.ensures, c.in_ok-day.ensures, c.in_ok-text-2.ensures, c.day_text.ensures, c.in_ok-rows.ensures, columns)
