use Rattle.std.proofs.Common.{◌≡◌, ℕ, ◌-◌, [], ◌∷◌, map, zip, ap, ◌∙◌, refl, codes}
use Rattle.std.specs.List.{enumerate_from}
use Rattle.aq_rules.specs.Particles.AnnualVerdict.{ParticleDv}
use Rattle.aq_rules.specs.Shown.ParticleSheets as particle_sheets
use Rattle.aq_reports.proofs.Parts.{same_sheet}
use Rattle.aq_reports.proofs.Formed.{sheet-formed}
use Rattle.aq_reports.proofs.value_pm25.annual_value_sheet.Goals as goal

pub returns-clause-value : goal.returns-clause-value
unfolding particle_sheets.annual_value_sheet
returns-clause-value c =
    let columns : c.in_ok-columns.columns ≡ codes "year" ∷ codes "mean" ∷ codes "capture1" ∷ codes "capture2" ∷ codes "capture3" ∷ codes "capture4" ∷ codes "valid" ∷ [] = c.in_ok-columns.ensures in
    let rows : c.in_ok-rows.rows ≡ map particle_sheets.annual_cells (enumerate_from (c.args.year - 2) (zip c.args.years.now c.design.inside.valid)) =
    c.in_ok-rows.ensures.value ∙ ap (λ (n : ℕ). map particle_sheets.annual_cells (enumerate_from n (zip c.args.years.now c.design.inside.valid))) c.oldest_year.ensures.value in
    c.new.ensures ∙ same_sheet _ _ _ _ _ _ c.in_ok-heads.ensures.value columns rows
    ∙ ap (λ (design : ParticleDv). particle_sheets.annual_value_sheet c.args.standard c.args.site c.args.year c.args.years.now design) c.design.view_is

pub returns-clause-well_formed : goal.returns-clause-well_formed
returns-clause-well_formed c =
    sheet-formed _ _ _ _ _ c.new.ensures c.in_ok-columns.ensures refl c.in_ok-heads.ensures.heads c.in_ok-rows.ensures.rows
