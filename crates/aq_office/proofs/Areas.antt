-- The answers to a question about an area: its sites, its years one after another, and its rows.
use Rattle.std.proofs.Common.{◌≡◌, ℕ, suc, ◌+◌, ◌-◌, ◌<◌, ◌≤◌, Bool, true, false, cond, List, [], ◌∷◌, ◌++◌, length, get_or, map, drop, refl, sym, ap, ◌∙◌, append_assoc, arith}
use Rattle.std.specs.Prelude.{filter, IsTrue, Option, ℤ}
use Rattle.std.specs.List.{enumerate_from, range_with_len}
use Rattle.std.proofs.lemmas.Bool.Decides.{nat_tests}
use Rattle.std.proofs.lemmas.List.{append-nil, drop_more, drop_all, get_or-map, length-map}
use Rattle.std.proofs.lemmas.List.FromFn.{get_or-enumerate_from, length-enumerate_from, map-range_with_len_more}
use Rattle.aq_base.specs.Areas.{area_holds}
use Rattle.aq_base.specs.Calendar.{is_design_year}
use Rattle.aq_base.specs.Site.{Site}
use Rattle.aq_base.specs.declared.area.Area.{Area}
use Rattle.aq_base.specs.declared.day.TheConstants.{LAST_YEAR}
use Rattle.aq_base.specs.declared.question.Question.TheVariants as question
use Rattle.aq_base.specs.declared.standard.Standard.{Standard}
use Rattle.aq_base.specs.declared.standard.Verdict.{Verdict}
use Rattle.aq_rules.specs.Standards.{pollutant_of}
use Rattle.aq_rules.specs.DesignValues.{design_value}
use Rattle.aq_rules.specs.Areas.AreaValue.{AreaYear, SiteValue, area_year, rows_of}
use Rattle.aq_rules.specs.Office.Office.{Office}
use Rattle.aq_rules.specs.Questions.Answer.{Answer, Lacks, NoSiteInArea, OfSheets, answer, of_area}
use Rattle.aq_rules.specs.Shown.AreaSheets as sheets
use Rattle.aq_rules.specs.Shown.OtherSheets.{sites_with}
use Rattle.aq_rules.specs.Shown.Sheet.{Sheet}
use Rattle.aq_area.specs.AreaRows.{site_values}
use Rattle.aq_verdict.specs.Designs.{design_of}
use Rattle.aq_verdict.specs.declared.design_value.DesignValue.{DesignValue}

-- ---- the years one after another

pub design-year : (year : ℕ) → IsTrue (is_design_year year) → (sheets.first_end_year ≤ year) × (year ≤ LAST_YEAR)
design-year year asked = (grind (arith, nat_tests), grind (arith, nat_tests))

module _ (f : ℕ → AreaYear) where
  pub years-step : (done : List AreaYear) (now : AreaYear) (year end : ℕ) → year < end → now ≡ f year
      → (done ++ now ∷ []) ++ map f (range_with_len (year + 1) (end - (year + 1))) ≡ done ++ map f (range_with_len year (end - year))
  years-step done now year end less is =
      let more : end - year ≡ suc (end - (year + 1)) = omega (arith, less) in
      append_assoc done (now ∷ []) (map f (range_with_len (year + 1) (end - (year + 1))))
      ∙ ap (λ y. done ++ y ∷ map f (range_with_len (year + 1) (end - (year + 1)))) is
      ∙ ap (λ n. done ++ map f (range_with_len year n)) (sym more)

  pub years-end : (done : List AreaYear) (first year end : ℕ) → end ≤ year → done ++ map f (range_with_len year (end - year)) ≡ map f (range_with_len first (end - first))
      → done ≡ map f (range_with_len first (end - first))
  years-end done first year end last whole =
      let none : end - year ≡ 0 = omega (arith, last) in
      sym (append-nil done) ∙ ap (λ n. done ++ map f (range_with_len year n)) (sym none) ∙ whole

  -- with the last year behind them
  pub years-last : (done : List AreaYear) (now : AreaYear) (first year : ℕ) → first ≤ year → done ≡ map f (range_with_len first (year - first)) → now ≡ f year
      → done ++ now ∷ [] ≡ map f (range_with_len first (year + 1 - first))
  years-last done now first year after all is =
      let more : year + 1 - first ≡ (year - first) + 1 = omega (arith, after) in
      (λ i. all i ++ is i ∷ [])
      ∙ sym (map-range_with_len_more f first (year - first) year (omega (arith, after)))
      ∙ ap (λ n. map f (range_with_len first n)) (sym more)

-- ---- the rows of the years from a place on

module _ (years : List AreaYear) where
  abbrev pub numbered : List (ℕ × Verdict × Option ℤ)
  numbered = map sheets.area_row (enumerate_from sheets.first_end_year years)

  many : length numbered ≡ length years
  many = length-map (enumerate_from sheets.first_end_year years) sheets.area_row ∙ length-enumerate_from sheets.first_end_year years

  pub rows-step : (place : ℕ) (year : AreaYear) → place < length years → get_or years place year ≡ year
      → drop place numbered ≡ (sheets.first_end_year + place, year.verdict, year.value) ∷ drop (place + 1) numbered
  rows-step place year less is =
      let first = sheets.first_end_year in
      let inside : place < length numbered = omega (arith, less, many) in
      let there : place < length (enumerate_from first years) = omega (arith, less, length-enumerate_from first years) in
      let row = sheets.area_row (first, year) in
      drop_more numbered place row inside
      ∙ ap (λ r. r ∷ drop (place + 1) numbered)
      (get_or-map sheets.area_row (enumerate_from first years) place (first, year) row there
      ∙ ap sheets.area_row (get_or-enumerate_from first years place (first, year) less)
      ∙ ap (λ (y : AreaYear). (first + place, y.verdict, y.value)) is)

  pub rows-end : (place : ℕ) → length years ≤ place → drop place numbered ≡ []
  rows-end place last = drop_all place numbered (omega (arith, last, many))

-- ---- the rows of the sites

module _ (standard : Standard) (area : Area) where
  abbrev pub rows_for : List (Site × DesignValue) → List (Site × Option ℤ × Verdict × Option ℤ)
  rows_for values = map (sheets.area_site_row standard) (rows_of area (site_values values))

  -- the row of a site stands there if the area has it
  row-of-area : (site : Site) (value : DesignValue) (values : List (Site × DesignValue)) (b : Bool) → b ≡ area_holds area site
      → rows_for ((site, value) ∷ values) ≡ cond b (sheets.area_site_row standard (site, design_of value) ∷ rows_for values) (rows_for values)
  row-of-area site value values b is =
      ap (λ (c : Bool). map (sheets.area_site_row standard) (cond c ((site, design_of value) ∷ rows_of area (site_values values)) (rows_of area (site_values values)))) (sym is) ∙ by b
    where
      by : (c : Bool) → map (sheets.area_site_row standard) (cond c ((site, design_of value) ∷ rows_of area (site_values values)) (rows_of area (site_values values)))
          ≡ cond c (sheets.area_site_row standard (site, design_of value) ∷ rows_for values) (rows_for values)
      by true = refl
      by false = refl

  pub site-step : (values : List (Site × DesignValue)) (place : ℕ) (item : Site × DesignValue) (b : Bool) → place < length values → item ≡ get_or values place item → b ≡ area_holds area item.0
      → rows_for (drop place values) ≡ cond b (sheets.area_site_row standard (item.0, design_of item.1) ∷ rows_for (drop (place + 1) values)) (rows_for (drop (place + 1) values))
  site-step values place item b inside is holds =
      ap rows_for (drop_more values place item inside ∙ ap (λ row. row ∷ drop (place + 1) values) (sym is))
      ∙ row-of-area item.0 item.1 (drop (place + 1) values) b holds

-- ---- whether there is a site

module _ (area : Area) (f : Site → SiteValue) (same : (site : Site) → (f site).0 ≡ site) where
  counted : (sites : List Site) → length (rows_of area (map f sites)) ≡ length (filter (area_holds area) sites)
  counted [] = refl
  counted (site ∷ sites) =
      ap (λ (s : Site). length (cond (area_holds area s) (f site ∷ rows_of area (map f sites)) (rows_of area (map f sites)))) (same site) ∙ by (area_holds area site) (counted sites)
    where
      by : (b : Bool) → length (rows_of area (map f sites)) ≡ length (filter (area_holds area) sites)
          → length (cond b (f site ∷ rows_of area (map f sites)) (rows_of area (map f sites))) ≡ length (cond b (site ∷ filter (area_holds area) sites) (filter (area_holds area) sites))
      by true rest = ap suc rest
      by false rest = rest

without_sites : (sites : List Site) (found : Answer) → length sites ≡ 0 → of_area sites found ≡ Lacks NoSiteInArea
without_sites [] found none = refl
without_sites (site ∷ sites) found none = absurd (omega (arith, none))

with_sites : (sites : List Site) (found : Answer) → (length sites ≡ 0 → ⊥) → of_area sites found ≡ found
with_sites [] found some = absurd (some refl)
with_sites (site ∷ sites) found some = refl

-- ---- the area in a year, and what is answered

module _ (standard : Standard) (office : Office) (area : Area) (year : ℕ) where
  pub area-in : (values : List (Site × DesignValue)) (now : AreaYear) → site_values values ≡ sheets.site_values standard office year → now ≡ area_year (site_values values) area
      → now ≡ sheets.area_in standard office area year
  unfolding sheets.area_in
  area-in values now are is = is ∙ ap (λ rows. area_year rows area) are

  module _ (now : AreaYear) (is : now ≡ sheets.area_in standard office area year) where
    site-count : now.sites ≡ length (sheets.area_sites standard office area)
    unfolding area_year sheets.area_in sheets.area_sites sheets.site_values
    site-count =
        ap (λ (y : AreaYear). y.sites) is
        ∙ counted area (λ site. (site, design_value standard office site year)) (λ site. refl) (sites_with office (pollutant_of standard))

    pub no-site : now.sites ≡ 0 → answer office (question.Area standard area year) ≡ Lacks NoSiteInArea
    unfolding answer
    no-site none = without_sites _ _ (sym site-count ∙ none)

    pub some-site : (now.sites ≡ 0 → ⊥) → (years : List AreaYear) (values : List (Site × DesignValue)) (first second : Sheet)
        → years ≡ map (sheets.area_in standard office area) (sheets.end_years year)
        → site_values values ≡ sheets.site_values standard office year
        → first ≡ sheets.sheet_of_years standard year years now
        → second ≡ sheets.area_sites_sheet standard year (rows_for standard area values)
        → answer office (question.Area standard area year) ≡ OfSheets (first ∷ second ∷ [])
    unfolding answer sheets.area_answer sheets.area_sites_answer
    some-site some years values first second all are of_years of_sites =
        with_sites (sheets.area_sites standard office area) _ (λ none. some (site-count ∙ none))
        ∙ ap OfSheets
        (sym
        ((λ i. of_years i ∷ of_sites i ∷ [])
        ∙ (λ i. sheets.sheet_of_years standard year (all i) (is i) ∷ sheets.area_sites_sheet standard year (map (sheets.area_site_row standard) (rows_of area (are i))) ∷ [])))
