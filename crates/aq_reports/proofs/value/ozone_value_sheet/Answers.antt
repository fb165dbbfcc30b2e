use Rattle.std.proofs.Common.{◌≡◌, ℕ, ◌-◌, [], ◌∷◌, map, ap, ◌∙◌, refl, codes}
use Rattle.std.specs.List.{enumerate_from}
use Rattle.aq_rules.specs.Ozone.OzoneVerdict.{OzoneDv}
use Rattle.aq_rules.specs.Shown.Sheets as sheets
use Rattle.aq_reports.proofs.Parts.{same_sheet}
use Rattle.aq_reports.proofs.Formed.{sheet-formed}
use Rattle.aq_reports.proofs.value.ozone_value_sheet.Goals as goal

pub returns-clause-value : goal.returns-clause-value
unfolding sheets.ozone_value_sheet
returns-clause-value c =
    let columns : c.in_ok-columns.columns ≡ codes "year" ∷ codes "ranked" ∷ codes "fourth" ∷ codes "season_days" ∷ codes "season_valid" ∷ [] = c.in_ok-columns.ensures in
    let rows : c.in_ok-rows.rows ≡ map sheets.year_cells (enumerate_from (c.args.year - 2) c.args.years.now) =
    c.in_ok-rows.ensures.value ∙ ap (λ (n : ℕ). map sheets.year_cells (enumerate_from n c.args.years.now)) c.oldest_year.ensures.value in
    c.new.ensures ∙ same_sheet _ _ _ _ _ _ c.in_ok-heads.ensures.value columns rows
    ∙ ap (λ (design : OzoneDv). sheets.ozone_value_sheet c.args.site c.args.year c.args.years.now design) c.design.view_is

pub returns-clause-well_formed : goal.returns-clause-well_formed
returns-clause-well_formed c =
    sheet-formed _ _ _ _ _ c.new.ensures c.in_ok-columns.ensures refl c.in_ok-heads.ensures.heads c.in_ok-rows.ensures.rows
