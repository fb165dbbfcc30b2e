use Rattle.std.proofs.Common.{◌≡◌, [], ◌∷◌, codes}
use Rattle.aq_rules.specs.Shown.ParticleSheets as particle_sheets
use Rattle.aq_reports.proofs.quarters.pm10_sheet.Goals as goal

pub returns : goal.returns
unfolding particle_sheets.pm10_sheet
returns c =
    let columns : c.in_ok-columns.columns ≡ codes "quarter" ∷ codes "days" ∷ codes "scheduled" ∷ codes "captured" ∷ codes "strata" ∷ codes "samples" ∷ codes "exceedances" ∷ codes "estimate" ∷ codes "lower" ∷ [] = c.in_ok-columns.ensures in
    cc (c.new.ensures, c.in_ok-heads.ensures, c.in_ok-rows.ensures.value, c.quarters.ensures.value, columns)
