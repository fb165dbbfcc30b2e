-- The sheets of design values and reports are well formed.
use Rattle.std.proofs.Common.{◌≡◌, ℕ, ◌+◌, ◌-◌, ◌<◌, ◌≤◌, Bool, true, List, [], ◌∷◌, ◌++◌, length, map, refl, arith, length-append}
use Rattle.std.specs.Prelude.{ℤ, ◌+ℤ◌, Option, Some, None, codes}
use Rattle.std.specs.List.{list_all, zip}
use Rattle.std.proofs.lemmas.Int.{ints}
use Rattle.std.proofs.lemmas.Bool.Decides.{nat_tests}
use Rattle.std.proofs.lemmas.List.{length-map}
use Rattle.std.proofs.lemmas.Bool.{eq-eqb}
use Rattle.aq_base.specs.Site.{Site}
use Rattle.aq_base.specs.declared.day.TheConstants.{LAST_YEAR}
use Rattle.aq_base.specs.declared.standard.Standard.{Standard}
use Rattle.aq_base.specs.declared.standard.Standard.TheVariants.{Ozone2015, Annual2012, AnnualSecondary, Annual2024, Daily2006, Pm10Of1987}
use Rattle.aq_base.specs.declared.standard.Verdict.{Verdict}
use Rattle.aq_rules.specs.Standards.{level_of, years_to, pollutant_of}
use Rattle.aq_rules.specs.DesignValues.{design_value, value_in, pm25_years, pm10_years}
use Rattle.aq_rules.specs.Office.Office.{Office, IsOffice}
use Rattle.aq_rules.specs.Ozone.OzoneYear.{OzoneYear, ozone_year}
use Rattle.aq_rules.specs.Ozone.OzoneVerdict.{OzoneDv, design_value_of, three_years, ozone_design}
use Rattle.aq_rules.specs.Particles.QuarterCounts.{capture, pm25_year}
use Rattle.aq_rules.specs.Particles.AnnualVerdict.{ParticleDv, annual_design, filled_value}
use Rattle.aq_rules.specs.Particles.DailyVerdict.{daily_design, filled_percentile, value_of_three}
use Rattle.aq_rules.specs.Particles.Pm10Estimate.{Pm10Quarter, pm10_year, quarter_estimate, quarter_lower, year_of_quarters}
use Rattle.aq_rules.specs.Particles.Pm10Verdict.{Pm10Dv, pm10_design, is_complete_year, exceedances_in}
use Rattle.aq_rules.specs.Particles.Substitution.{minimum_for, maximum_for}
use Rattle.aq_base.specs.Calendar.{is_design_year}
use Rattle.aq_rules.specs.Particles.YearParts.{of_values}
use Rattle.aq_rules.specs.Kept.Summaries.{PmQuarter, PmYear, KeepsOzoneYear, KeepsPm10Year, counts_of}
use Rattle.aq_rules.specs.Kept.SummaryVerdicts.{mean_of_sums, kept_percentile, kept_counted}
use Rattle.aq_rules.specs.Shown.Sheet.{count_cell, truth_text}
use Rattle.aq_rules.specs.Shown.Sheet.SheetCell.{Text}
use Rattle.aq_rules.specs.Shown.Sheets.{design_cell, value_heads, year_cells, ozone_value_sheet}
use Rattle.aq_rules.specs.Shown.ParticleSheets.{annual_cells, annual_value_sheet, daily_cells, daily_value_sheet, pm10_year_cells, pm10_value_sheet}
use Rattle.aq_rules.specs.Shown.OtherSheets.{Judged, judged, judged_cells, report_answer, report_sheet, sites_with, value_answer, value_sheet}
use Rattle.aq_rules.specs.Shown.WellFormed.{is_cell, is_head, is_row, IsWellFormed}
use Rattle.aq_rules.proofs.Elements.{Every}
use Rattle.aq_rules.proofs.ValueRange.{trunc-in_range}
use Rattle.aq_rules.proofs.Pm10Facts.{pm10_year-keeps}
use Rattle.aq_rules.proofs.Held.{IfHeld, if_held-wider}
use Rattle.aq_rules.proofs.PmHeld.{IfIn, YearIn, years-in, annual_value-in, minimum_value-in, maximum_value-in, annual_test-in, daily_value-in, maximum_daily-in, daily_test-in}
use Rattle.aq_rules.proofs.Pm10Held.{year_estimate-held, year_lower-held, value-held, exceedances-few}
use Rattle.aq_rules.proofs.SheetCells.{CellsAre, site-word, standard-word, verdict-word, truth-word, count, if_fixed, if_whole, if_ppm, row-of, heads-of, rows-of, numbered-rows, zip-every, zip-few}
use Rattle.aq_rules.proofs.WellFormedOzone.{if_in, year_keeps}
use Rattle.aq_rules.proofs.WellFormedQuarters.{QuarterHeld, YearHeld, year-held, capture-few}

-- ---- a design value, in its standard's unit

abbrev DesignIn : Option ℤ → Type 0
DesignIn o = IfHeld 9999 110400 o

in_unit : (standard : Standard) (o : Option ℤ) → DesignIn o → is_cell (design_cell standard o) ≡ true
in_unit Ozone2015 o held = if_fixed 9999 110400 3 o (omega arith) (omega arith) refl held
in_unit Annual2012 o held = if_fixed 9999 110400 1 o (omega arith) (omega arith) refl held
in_unit AnnualSecondary o held = if_fixed 9999 110400 1 o (omega arith) (omega arith) refl held
in_unit Annual2024 o held = if_fixed 9999 110400 1 o (omega arith) (omega arith) refl held
in_unit Daily2006 o held = if_whole 9999 110400 o (omega arith) (omega arith) held
in_unit Pm10Of1987 o held = if_fixed 9999 110400 1 o (omega arith) (omega arith) refl held

module _ (standard : Standard) (site : Site) (year : ℕ) (value test : Option ℤ) (verdict : Verdict) (few : year ≤ LAST_YEAR) (of_value : DesignIn value) (of_test : DesignIn test) where
  value-heads : list_all is_head (value_heads standard site year value test verdict) ≡ true
  value-heads =
      heads-of (value_heads standard site year value test verdict)
      (standard-word standard, (site-word site, (count year (omega arith), (in_unit standard value of_value, (in_unit standard test of_test, (verdict-word verdict, tt))))))

-- ---- ozone

ozone_columns : List (List ℕ)
ozone_columns = codes "year" ∷ codes "ranked" ∷ codes "fourth" ∷ codes "season_days" ∷ codes "season_valid" ∷ []

ozone-row : (year : ℕ) (row : OzoneYear) → year < LAST_YEAR + 4 → KeepsOzoneYear row → is_row ozone_columns (year_cells (year, row)) ≡ true
unfolding ozone_columns
ozone-row year row few keeps =
    let ranked = keeps.ranked in
    let season_days = keeps.season_days in
    let season_valid = keeps.season_valid in
    row-of ozone_columns (year_cells (year, row)) refl
    (count year (omega arith), (count row.ranked (omega arith), (if_ppm row.fourth (if_in row.fourth keeps.fourth_in_range), (count row.season_days (omega arith), (count row.season_valid (omega arith), tt)))))

ozone_sheet : (site : Site) (year : ℕ) (years : List OzoneYear) (design : OzoneDv) → year ≤ LAST_YEAR → length years ≤ 3 → Every KeepsOzoneYear years → DesignIn design.value
    → IsWellFormed (ozone_value_sheet site year years design)
unfolding ozone_value_sheet ozone_columns
ozone_sheet site year years design few three keeps value = record {
  heads = value-heads Ozone2015 site year design.value None design.verdict few value tt;
  names_differ = refl;
  columns = refl;
  rows = numbered-rows ozone_columns KeepsOzoneYear (LAST_YEAR + 4) year_cells ozone-row (year - 2) years (omega arith) keeps;
}

third : (a b c : Option ℤ) → IfHeld 999 9999 a → IfHeld 999 9999 b → IfHeld 999 9999 c → IfHeld 999 9999 (design_value_of a b c)
third (Some a) (Some b) (Some c) h k l =
    trunc-in_range 9999 (a +ℤ b +ℤ c) 3 (omega arith) (omega (arith, ints, h.0, k.0, l.0), omega (arith, ints, h.1, k.1, l.1))
third None b c h k l = tt
third (Some a) None c h k l = tt
third (Some a) (Some b) None h k l = tt

-- ---- PM2.5

capture-cells : (quarters : List PmQuarter) (valid : Bool) → Every QuarterHeld quarters
    → CellsAre (map (λ q. count_cell (capture (counts_of q))) quarters ++ Text (truth_text valid) ∷ [])
capture-cells [] valid every = (truth-word valid, tt)
capture-cells (q ∷ qs) valid every =
    let share = capture-few (counts_of q) every.0.creditable in
    (count (capture (counts_of q)) (omega (arith, share)), capture-cells qs valid every.1)

captures-long : (quarters : List PmQuarter) (valid : Bool) → length quarters ≡ 4 → length (map (λ q. count_cell (capture (counts_of q))) quarters ++ Text (truth_text valid) ∷ []) ≡ 5
captures-long quarters valid four =
    omega (arith, length-append (map (λ q. count_cell (capture (counts_of q))) quarters) (Text (truth_text valid) ∷ []), length-map quarters (λ q. count_cell (capture (counts_of q))), four)

annual_columns : List (List ℕ)
annual_columns = codes "year" ∷ codes "mean" ∷ codes "capture1" ∷ codes "capture2" ∷ codes "capture3" ∷ codes "capture4" ∷ codes "valid" ∷ []

annual-row : (year : ℕ) (row : PmYear × Bool) → year < LAST_YEAR + 4 → YearHeld row.0 → is_row annual_columns (annual_cells (year, row)) ≡ true
unfolding annual_columns
annual-row year row few held =
    let long = captures-long row.0.quarters row.1 held.four in
    row-of annual_columns (annual_cells (year, row)) (eq-eqb (length (annual_cells (year, row))) 7 (omega (arith, long)))
    (count year (omega arith), (if_fixed 999 99999 1 (mean_of_sums row.0.quarters) (omega arith) (omega arith) refl held.mean, capture-cells row.0.quarters row.1 held.quarters))

annual_sheet : (standard : Standard) (site : Site) (year : ℕ) (years : List PmYear) (design : ParticleDv) → year ≤ LAST_YEAR → length years ≤ 3 → Every YearHeld years
    → DesignIn design.value → DesignIn design.test → IsWellFormed (annual_value_sheet standard site year years design)
unfolding annual_value_sheet annual_columns
annual_sheet standard site year years design few three held value test = record {
  heads = value-heads standard site year design.value design.test design.verdict few value test;
  names_differ = refl;
  columns = refl;
  rows =
      numbered-rows annual_columns (λ (row : PmYear × Bool). YearHeld row.0) (LAST_YEAR + 4) annual_cells annual-row (year - 2) (zip years design.valid) (omega (arith, zip-few years design.valid))
      (zip-every YearHeld years design.valid held);
}

daily_columns : List (List ℕ)
daily_columns =
    codes "year" ∷ codes "percentile" ∷ codes "counted" ∷ codes "capture1" ∷ codes "capture2" ∷ codes "capture3" ∷ codes "capture4" ∷ codes "valid" ∷ []

daily-row : (year : ℕ) (row : PmYear × Bool) → year < LAST_YEAR + 4 → YearHeld row.0 → is_row daily_columns (daily_cells (year, row)) ≡ true
unfolding daily_columns
daily-row year row few held =
    let long = captures-long row.0.quarters row.1 held.four in
    let counted = held.counted in
    row-of daily_columns (daily_cells (year, row)) (eq-eqb (length (daily_cells (year, row))) 8 (omega (arith, long)))
    (count year (omega arith), (if_fixed 999 99999 1 (kept_percentile row.0) (omega arith) (omega arith) refl held.percentile, (count (kept_counted row.0.quarters) (omega arith), capture-cells row.0.quarters row.1 held.quarters)))

daily_sheet : (site : Site) (year : ℕ) (years : List PmYear) (design : ParticleDv) → year ≤ LAST_YEAR → length years ≤ 3 → Every YearHeld years
    → DesignIn design.value → DesignIn design.test → IsWellFormed (daily_value_sheet site year years design)
unfolding daily_value_sheet daily_columns
daily_sheet site year years design few three held value test = record {
  heads = value-heads Daily2006 site year design.value design.test design.verdict few value test;
  names_differ = refl;
  columns = refl;
  rows =
      numbered-rows daily_columns (λ (row : PmYear × Bool). YearHeld row.0) (LAST_YEAR + 4) daily_cells daily-row (year - 2) (zip years design.valid) (omega (arith, zip-few years design.valid))
      (zip-every YearHeld years design.valid held);
}

-- ---- PM10

pm10_columns : List (List ℕ)
pm10_columns = codes "year" ∷ codes "estimate" ∷ codes "lower" ∷ codes "exceedances" ∷ codes "complete" ∷ []

pm10-row : (year : ℕ) (row : List Pm10Quarter) → year < LAST_YEAR + 4 → KeepsPm10Year row → is_row pm10_columns (pm10_year_cells (year, row)) ≡ true
unfolding pm10_columns
pm10-row year row few keeps =
    let exceedances = exceedances-few row keeps in
    row-of pm10_columns (pm10_year_cells (year, row)) refl (
      count year (omega arith),
      (
        if_fixed 0 36800 1 (year_of_quarters quarter_estimate row) (omega arith) (omega arith) refl (year_estimate-held row keeps),
        (if_fixed 0 36800 1 (year_of_quarters quarter_lower row) (omega arith) (omega arith) refl (year_lower-held row keeps), (count (exceedances_in row) (omega arith), (truth-word (is_complete_year row), tt))),
      ),
    )

pm10_sheet : (site : Site) (year : ℕ) (years : List (List Pm10Quarter)) (design : Pm10Dv) → year ≤ LAST_YEAR → length years ≤ 3 → Every KeepsPm10Year years → DesignIn design.value
    → IsWellFormed (pm10_value_sheet site year years design)
unfolding pm10_value_sheet pm10_columns
pm10_sheet site year years design few three keeps value = record {
  heads = value-heads Pm10Of1987 site year design.value None design.verdict few value tt;
  names_differ = refl;
  columns = refl;
  rows = numbered-rows pm10_columns KeepsPm10Year (LAST_YEAR + 4) pm10_year_cells pm10-row (year - 2) years (omega arith) keeps;
}

-- ---- an office's design values

wider : (o : Option ℤ) → IfIn o → DesignIn o
wider o h = if_held-wider 999 99999 9999 110400 o (omega arith) (omega arith) h

module _ (office : Office) (site : Site) (year : ℕ) (valid : IsOffice office) where
  ozone-value : DesignIn (ozone_design office site year).value
  unfolding three_years
  ozone-value =
      let fourth : (y : ℕ) → IfHeld 999 9999 (ozone_year office site y).fourth = λ y. if_in (ozone_year office site y).fourth (year_keeps office site y valid).fourth_in_range in
      if_held-wider 999 9999 9999 110400 (ozone_design office site year).value (omega arith) (omega arith)
      (third (ozone_year office site (year - 2)).fourth (ozone_year office site (year - 1)).fourth (ozone_year office site year).fourth (fourth (year - 2)) (fourth (year - 1)) (fourth year))

  ozone-years : Every KeepsOzoneYear (three_years office site year)
  unfolding three_years
  ozone-years = (year_keeps office site (year - 2) valid, (year_keeps office site (year - 1) valid, (year_keeps office site year valid, tt)))

  pm-years : Every YearHeld (pm25_years office site year)
  pm-years = (year-held office site (year - 2) valid, (year-held office site (year - 1) valid, (year-held office site year valid, tt)))

  lists : Every YearIn (map (pm25_year office site) (years_to year))
  lists = years-in office site (years_to year) valid

  annual-value : (level : ℤ) → DesignIn (annual_design level office site year).value
  unfolding annual_design
  annual-value level = wider (annual_design level office site year).value (annual_value-in (map (pm25_year office site) (years_to year)) lists)

  annual-test : (level : ℤ) → DesignIn (annual_design level office site year).test
  unfolding annual_design
  annual-test level =
      let days = map (pm25_year office site) (years_to year) in
      let design = annual_design level office site year in
      wider design.test
      (annual_test-in level design.value design.valid (filled_value of_values (minimum_for of_values) days) (filled_value of_values (maximum_for of_values) days) (minimum_value-in days lists) (maximum_value-in days lists))

  daily-value : DesignIn (daily_design office site year).value
  unfolding daily_design
  daily-value = wider (daily_design office site year).value (daily_value-in (map (pm25_year office site) (years_to year)) lists)

  daily-test : DesignIn (daily_design office site year).test
  unfolding daily_design
  daily-test =
      let days = map (pm25_year office site) (years_to year) in
      let design = daily_design office site year in
      wider design.test (daily_test-in design.value design.valid (value_of_three (map (filled_percentile of_values days) days)) (maximum_daily-in days lists))

  pm10-value : DesignIn (pm10_design office site year).value
  unfolding pm10_design
  pm10-value =
      let keeps : (y : ℕ) → KeepsPm10Year (pm10_year office site y) = λ y. pm10_year-keeps office site y in
      if_held-wider 0 110400 9999 110400 (pm10_design office site year).value (omega arith) (omega arith)
      (value-held (pm10_year office site (year - 2)) (pm10_year office site (year - 1)) (pm10_year office site year) (keeps (year - 2)) (keeps (year - 1)) (keeps year))

  pm10-years : Every KeepsPm10Year (pm10_years office site year)
  pm10-years = (pm10_year-keeps office site (year - 2), (pm10_year-keeps office site (year - 1), (pm10_year-keeps office site year, tt)))

  value-of : (standard : Standard) → DesignIn (value_in (design_value standard office site year))
  unfolding design_value
  value-of Ozone2015 = ozone-value
  value-of Annual2012 = annual-value (level_of Annual2012)
  value-of AnnualSecondary = annual-value (level_of AnnualSecondary)
  value-of Annual2024 = annual-value (level_of Annual2024)
  value-of Daily2006 = daily-value
  value-of Pm10Of1987 = pm10-value

  value-sheet : (standard : Standard) → year ≤ LAST_YEAR → IsWellFormed (value_answer standard office site year)
  unfolding value_answer value_sheet design_value three_years
  value-sheet Ozone2015 few = ozone_sheet site year (three_years office site year) (ozone_design office site year) few (omega arith) ozone-years ozone-value
  value-sheet Annual2012 few = annual_sheet Annual2012 site year (pm25_years office site year) (annual_design (level_of Annual2012) office site year) few (omega arith) pm-years (annual-value (level_of Annual2012)) (annual-test (level_of Annual2012))
  value-sheet AnnualSecondary few = annual_sheet AnnualSecondary site year (pm25_years office site year) (annual_design (level_of AnnualSecondary) office site year) few (omega arith) pm-years (annual-value (level_of AnnualSecondary)) (annual-test (level_of AnnualSecondary))
  value-sheet Annual2024 few = annual_sheet Annual2024 site year (pm25_years office site year) (annual_design (level_of Annual2024) office site year) few (omega arith) pm-years (annual-value (level_of Annual2024)) (annual-test (level_of Annual2024))
  value-sheet Daily2006 few = daily_sheet site year (pm25_years office site year) (daily_design office site year) few (omega arith) pm-years daily-value daily-test
  value-sheet Pm10Of1987 few = pm10_sheet site year (pm10_years office site year) (pm10_design office site year) few (omega arith) pm10-years pm10-value

of_three_years : (year : ℕ) → is_design_year year ≡ true → year ≤ LAST_YEAR
of_three_years year h = grind (arith, nat_tests)

pub value-well_formed : (office : Office) (standard : Standard) (site : Site) (year : ℕ) → IsOffice office → is_design_year year ≡ true → IsWellFormed (value_answer standard office site year)
value-well_formed office standard site year valid asked = value-sheet office site year valid standard (of_three_years year asked)

-- ---- reports

report_columns : List (List ℕ)
report_columns = codes "site" ∷ codes "value" ∷ codes "verdict" ∷ []

report-row : (standard : Standard) (row : Judged) → DesignIn row.value → is_row report_columns (judged_cells standard row) ≡ true
unfolding report_columns
report-row standard row held =
    row-of report_columns (judged_cells standard row) refl (site-word row.site, (in_unit standard row.value held, (verdict-word row.verdict, tt)))

judged-each : (office : Office) (year : ℕ) → IsOffice office → (standard : Standard) (sites : List Site) → Every (λ (row : Judged). DesignIn row.value) (map (judged standard office year) sites)
unfolding judged
judged-each office year valid standard [] = tt
judged-each office year valid standard (site ∷ sites) = (value-of office site year valid standard, judged-each office year valid standard sites)

pub report-well_formed : (office : Office) (standard : Standard) (year : ℕ) → IsOffice office → is_design_year year ≡ true → IsWellFormed (report_answer standard office year)
unfolding report_answer report_sheet report_columns
report-well_formed office standard year valid asked =
    let few = of_three_years year asked in
    record {
      heads = heads-of (report_answer standard office year).heads (standard-word standard, (count year (omega arith), tt));
      names_differ = refl;
      columns = refl;
      rows =
          rows-of report_columns (λ (row : Judged). DesignIn row.value) (judged_cells standard) (report-row standard) (map (judged standard office year) (sites_with office (pollutant_of standard)))
          (judged-each office year valid standard (sites_with office (pollutant_of standard)));
    }
