-- What answers a question about an office.
use Rattle.std.proofs.Common.{◌≡◌, ℕ, ◌+◌, Bool, true, false, List, [], ◌∷◌, ◌++◌, length, map, Option, Some, None, refl, sym, ap, subst, ◌∙◌}
use Rattle.std.specs.Prelude.{IfOk, Result}
use Rattle.std.specs.List.{range_with_len}
use Rattle.std.specs.Option.{option_map}
use Rattle.std.proofs.lemmas.List.{length-map}
use Rattle.std.proofs.lemmas.List.FromFn.{length-range_with_len, map-range_with_len_more}
use Rattle.aq_base.specs.Calendar.{days_in_year, year_first}
use Rattle.aq_base.specs.Site.{Site}
use Rattle.aq_base.specs.declared.refusal.Memory.{Memory}
use Rattle.aq_base.specs.declared.reply.LoadReply.{LoadReply}
use Rattle.aq_base.specs.declared.standard.Standard.{Standard}
use Rattle.aq_rows.specs.KeptLoads.{reply_in}
use Rattle.aq_book.specs.Questions.{valued, valued_in}
use Rattle.aq_reports.specs.Rows.{judged_in}
use Rattle.aq_rules.specs.DesignValues.{DesignValue as Design}
use Rattle.aq_rules.specs.Office.Approval.{is_approved}
use Rattle.aq_rules.specs.Office.Office.{Office, StoredLoad}
use Rattle.aq_rules.specs.Office.Season.{season_of}
use Rattle.aq_rules.specs.Ozone.OzoneDay.{OzoneDay}
use Rattle.aq_rules.specs.Ozone.OzoneYear.{OzoneYear, days_of, ozone_days, ozone_year}
use Rattle.aq_rules.specs.Standards.{pollutant_of}
use Rattle.aq_rules.specs.Shown.OtherSheets.{Judged, judged, judged_by, report_answer, report_sheet, sites_with}
use Rattle.aq_rules.specs.Shown.Sheet.{Sheet}
use Rattle.aq_rules.specs.Shown.Sheets.{days_answer, days_sheet, load_sheet}
use Rattle.aq_verdict.specs.declared.design_value.DesignValue.{DesignValue}

-- ---- a load

-- what holds of the sheet of a kept load
pub kept_sheet : (P : Sheet → Type 0) (found : Option StoredLoad) (reply : LoadReply) (sheet : Sheet) → ((load : StoredLoad) → found ≡ Some load → P (load_sheet load.reply))
    → Some reply ≡ option_map reply_in found → sheet ≡ load_sheet reply → P sheet
kept_sheet P None reply sheet law e is = absurd (cc)
kept_sheet P (Some load) reply sheet law e is = let same : reply ≡ load.reply = cc in subst P (sym (is ∙ ap load_sheet same)) (law load refl)

-- ---- a report

-- the rows of a report are judged by the office's design values
judged_values : (office : Office) (standard : Standard) (year : ℕ) (values : List (Site × DesignValue)) (sites : List Site)
    → map valued_in values ≡ map (valued standard office year) sites → map judged_in values ≡ map (judged standard office year) sites
unfolding judged
judged_values office standard year values sites is = of_values values ∙ ap (map judge) is ∙ of_sites sites
  where
    judge : Site × Design → Judged
    judge row = judged_by row.0 row.1

    of_values : (vs : List (Site × DesignValue)) → map judged_in vs ≡ map judge (map valued_in vs)
    of_values [] = refl
    of_values (v ∷ vs) = ap (λ l. judged_in v ∷ l) (of_values vs)

    of_sites : (ss : List Site) → map judge (map (valued standard office year) ss) ≡ map (judged standard office year) ss
    of_sites [] = refl
    of_sites (s ∷ ss) = ap (λ l. judged standard office year s ∷ l) (of_sites ss)

pub report_told : (office : Office) (standard : Standard) (year : ℕ) (values : List (Site × DesignValue)) (result : Result Sheet Memory)
    → map valued_in values ≡ map (valued standard office year) (sites_with office (pollutant_of standard))
    → IfOk result (λ sheet. sheet ≡ report_sheet standard year (map judged_in values)) → IfOk result (λ sheet. sheet ≡ report_answer standard office year)
unfolding report_answer
report_told office standard year values result are =
    subst (λ (s : Sheet). IfOk result (λ sheet. sheet ≡ s)) (ap (report_sheet standard year) (judged_values office standard year values _ are))

-- ---- the days of a year

module _ (office : Office) (site : Site) where
  pub days_told : (year : ℕ) (season : ℕ × ℕ) (days : List OzoneDay) (approved : List Bool) (totals : OzoneYear) (sheet : Sheet)
      → ◌≡◌ {A = ℕ × ℕ} season ((season_of office.records site year).first, (season_of office.records site year).last)
      → days ≡ ozone_days office site year → approved ≡ map (is_approved office.records site) (days_of year) → totals ≡ ozone_year office site year
      → sheet ≡ days_sheet site year (record { first = season.0; last = season.1 }) days approved totals → sheet ≡ days_answer office site year
  unfolding days_answer
  days_told year season days approved totals sheet same_season same_days same_approved same_totals is =
      is
      ∙ (λ i. days_sheet site year (record { first = (same_season i).0; last = (same_season i).1 }) (same_days i) (same_approved i) (same_totals i))

  pub each_day : (year : ℕ) (days : List OzoneDay) → days ≡ ozone_days office site year → length days ≡ days_in_year year
  unfolding ozone_days days_of
  each_day year days same = ap length same ∙ length-map (days_of year) _ ∙ length-range_with_len (year_first year) (days_in_year year)

  pub each_approval : (year : ℕ) (approved : List Bool) → approved ≡ map (is_approved office.records site) (days_of year) → length approved ≡ days_in_year year
  unfolding days_of
  each_approval year approved same = ap length same ∙ length-map (days_of year) _ ∙ length-range_with_len (year_first year) (days_in_year year)

  -- the approvals of so many days from the first on
  abbrev pub first_approvals : ℕ → ℕ → List Bool
  first_approvals first count = map (is_approved office.records site) (range_with_len first count)

  pub approvals-more : (first count number : ℕ) (counts : Bool) → first + count ≡ number → counts ≡ is_approved office.records site number → first_approvals first count ++ counts ∷ [] ≡ first_approvals first (count + 1)
  approvals-more first count number counts at is =
      ap (λ (b : Bool). first_approvals first count ++ b ∷ []) is ∙ sym (map-range_with_len_more (is_approved office.records site) first count number at)

  pub approvals-all : (year first count : ℕ) → first ≡ year_first year → count ≡ days_in_year year → first_approvals first count ≡ map (is_approved office.records site) (days_of year)
  unfolding days_of
  approvals-all year first count from many = ap (λ (n : ℕ). first_approvals n count) from ∙ ap (first_approvals (year_first year)) many
