-- How many rows the sheets have, and what the rows of a report say.
use Rattle.std.proofs.Common.{◌≡◌, ℕ, zero, suc, ◌+◌, List, [], ◌∷◌, length, map, refl, ap, ◌∙◌}
use Rattle.std.specs.Prelude.{codes}
use Rattle.std.specs.List.{range_with_len, enumerate_from, zip}
use Rattle.aq_base.specs.Calendar.{year_first, days_in_year}
use Rattle.aq_base.specs.Site.{Site}
use Rattle.aq_base.specs.declared.standard.Standard.{Standard}
use Rattle.aq_base.specs.declared.standard.Standard.TheVariants.{Ozone2015}
use Rattle.aq_rules.specs.Standards.{pollutant_of}
use Rattle.aq_rules.specs.DesignValues.{design_value}
use Rattle.aq_rules.specs.Particles.AnnualVerdict.{annual_design}
use Rattle.aq_rules.specs.Particles.DailyVerdict.{daily_design}
use Rattle.aq_rules.specs.Office.Office.{Office}
use Rattle.aq_rules.specs.Office.Approval.{is_approved}
use Rattle.aq_rules.specs.Ozone.OzoneDay.{ozone_day, windows, starts_of}
use Rattle.aq_rules.specs.Ozone.OzoneYear.{days_of, ozone_days}
use Rattle.aq_rules.specs.Ozone.OzoneVerdict.{three_years}
use Rattle.aq_rules.specs.Shown.Sheet.{SheetCell, cell_at, site_text}
use Rattle.aq_rules.specs.Shown.Sheet.SheetCell.{Text}
use Rattle.aq_rules.specs.Shown.Sheets.{day_cells, windows_sheet, windows_answer, days_sheet, days_answer, ozone_value_sheet}
use Rattle.aq_rules.specs.Shown.ParticleSheets.{annual_value_sheet, daily_value_sheet, pm10_value_sheet}
use Rattle.aq_rules.specs.Shown.OtherSheets.{judged, judged_cells, report_answer, report_sheet, sites_with, value_answer, value_sheet}

length-range : (a n : ℕ) → length (range_with_len a n) ≡ n
length-range a zero = refl
length-range a (suc n) = ap suc (length-range (a + 1) n)

length-rows : {A B C : Type 0} (row : ℕ × (A × B) → C) (f : ℕ → A) (g : ℕ → B) (n : ℕ) (xs : List ℕ)
    → length (map row (enumerate_from n (zip (map f xs) (map g xs)))) ≡ length xs
length-rows row f g n [] = refl
length-rows row f g n (x ∷ xs) = ap suc (length-rows row f g (n + 1) xs)

pub windows-rows : (office : Office) (site : Site) (day : ℕ) → length (windows_answer office site day).rows ≡ 17
unfolding windows_answer windows_sheet windows starts_of
windows-rows office site day = refl

pub days-rows : (office : Office) (site : Site) (year : ℕ) → length (days_answer office site year).rows ≡ days_in_year year
unfolding days_answer days_sheet ozone_days days_of
days-rows office site year =
    length-rows day_cells (ozone_day office site) (is_approved office.records site) (year_first year) (range_with_len (year_first year) (days_in_year year))
    ∙ length-range (year_first year) (days_in_year year)

pub value-rows : (standard : Standard) (office : Office) (site : Site) (year : ℕ) → length (value_answer standard office site year).rows ≡ 3
unfolding value_answer value_sheet design_value ozone_value_sheet annual_value_sheet daily_value_sheet pm10_value_sheet three_years annual_design daily_design
value-rows Ozone2015 office site year = refl
value-rows standard office site year = refl

-- ---- a report's row is what the value sheet says

said : Standard → Office → ℕ → Site → List SheetCell
said standard office year site =
    Text (site_text site) ∷ cell_at (codes "value") (value_answer standard office site year) ∷ cell_at (codes "verdict") (value_answer standard office site year) ∷ []

same-row : (standard : Standard) (office : Office) (year : ℕ) (site : Site) → judged_cells standard (judged standard office year site) ≡ said standard office year site
unfolding said judged value_answer value_sheet design_value ozone_value_sheet annual_value_sheet daily_value_sheet pm10_value_sheet
same-row Ozone2015 office year site = refl
same-row standard office year site = refl

same-rows : (standard : Standard) (office : Office) (year : ℕ) (sites : List Site)
    → map (judged_cells standard) (map (judged standard office year) sites) ≡ map (said standard office year) sites
same-rows standard office year [] = refl
same-rows standard office year (site ∷ sites) = λ i. same-row standard office year site i ∷ same-rows standard office year sites i

pub report-rows : (standard : Standard) (office : Office) (year : ℕ) → (report_answer standard office year).rows ≡ map
    (λ site. Text (site_text site) ∷ cell_at (codes "value") (value_answer standard office site year) ∷ cell_at (codes "verdict") (value_answer standard office site year) ∷ [])
    (sites_with office (pollutant_of standard))
unfolding report_answer report_sheet said
report-rows standard office year = same-rows standard office year (sites_with office (pollutant_of standard))
