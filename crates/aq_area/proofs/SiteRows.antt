-- An area's year with one row more.
use Rattle.std.proofs.Common.{◌≡◌, ℕ, ◌+◌, ◌<◌, ◌≤◌, Bool, true, false, cond, ◌||◌, List, [], ◌∷◌, ◌++◌, length, take, get_or, refl, sym, ap, ◌∙◌, arith}
use Rattle.std.specs.Prelude.{if◌then◌else◌}
use Rattle.std.proofs.lemmas.List.{length-append, length-map, map-append, append-nil, take_more}
use Rattle.std.proofs.lemmas.List.Elements.{filter-append}
use Rattle.aq_base.specs.Areas.{area_holds}
use Rattle.aq_base.specs.Site.{Site}
use Rattle.aq_base.specs.declared.area.Area.{Area}
use Rattle.aq_base.specs.declared.standard.Verdict.{Verdict}
use Rattle.aq_base.specs.declared.standard.Verdict.TheVariants.{Met, NotMet, Incomplete, NoValue}
use Rattle.aq_rules.specs.DesignValues.{is_same_verdict, value_in, verdict_in}
use Rattle.aq_rules.specs.Areas.AreaValue.{AreaYear, SiteValue, site_in, rows_of, has_verdict, area_verdict, year_of_rows, area_year}
use Rattle.aq_rules.proofs.Pm10Facts.{length-filter-le}
use Rattle.aq_verdict.specs.declared.design_value.DesignValue.{DesignValue}
use Rattle.aq_verdict.specs.Designs.{design_of}
use Rattle.aq_area.specs.AreaRows.{no_rows, site_values, worse_of, with_row}
use Rattle.aq_area.proofs.Governing.{greatest-push, governing-push}

-- ---- verdicts

has-push : (verdict : Verdict) (rows : List SiteValue) (row : SiteValue) → has_verdict verdict (rows ++ row ∷ []) ≡ (has_verdict verdict rows || is_same_verdict (verdict_in row.1) verdict)
has-push verdict [] row = by_test (is_same_verdict (verdict_in row.1) verdict)
  where
    by_test : (t : Bool) → (t || false) ≡ (false || t)
    by_test true = refl
    by_test false = refl
has-push verdict (r ∷ rows) row = by_test (is_same_verdict (verdict_in r.1) verdict) (has-push verdict rows row)
  where
    by_test : (t : Bool) → has_verdict verdict (rows ++ row ∷ []) ≡ (has_verdict verdict rows || is_same_verdict (verdict_in row.1) verdict)
        → (t || has_verdict verdict (rows ++ row ∷ [])) ≡ ((t || has_verdict verdict rows) || is_same_verdict (verdict_in row.1) verdict)
    by_test true rest = refl
    by_test false rest = rest

abbrev of_tests : Bool → Bool → Bool → Verdict
of_tests n i m = if n then NotMet else (if i then Incomplete else (if m then Met else NoValue))

joined : (n i m : Bool) (v : Verdict) → of_tests (n || is_same_verdict v NotMet) (i || is_same_verdict v Incomplete) (m || is_same_verdict v Met) ≡ worse_of (of_tests n i m) v
joined true i m v = refl
joined false true m v = refl
joined false false true v = refl
joined false false false v = refl

verdict-push : (rows : List SiteValue) (row : SiteValue) → area_verdict (rows ++ row ∷ []) ≡ worse_of (area_verdict rows) (verdict_in row.1)
verdict-push rows row =
    (λ k. of_tests (has-push NotMet rows row k) (has-push Incomplete rows row k) (has-push Met rows row k))
    ∙ joined (has_verdict NotMet rows) (has_verdict Incomplete rows) (has_verdict Met rows) (verdict_in row.1)

-- ---- years

rows-push : (rows : List SiteValue) (row : SiteValue) → year_of_rows (rows ++ row ∷ []) ≡ with_row (year_of_rows rows) (site_in row) (value_in row.1) (verdict_in row.1)
rows-push rows row = λ k. record {
  sites = length-append rows (row ∷ []) k;
  governing = governing-push rows row k;
  value = greatest-push rows row k;
  verdict = verdict-push rows row k;
}

abbrev pub with_row_if : Bool → AreaYear → SiteValue → AreaYear
with_row_if held year row = if held then with_row year (site_in row) (value_in row.1) (verdict_in row.1) else year

area-push : (area : Area) (rows : List SiteValue) (row : SiteValue) → area_year (rows ++ row ∷ []) area ≡ with_row_if (area_holds area (site_in row)) (area_year rows area) row
unfolding area_year
area-push area rows row =
    ap year_of_rows (filter-append (λ r. area_holds area (site_in r)) rows (row ∷ [])) ∙ by_test (area_holds area (site_in row))
  where
    by_test : (t : Bool) → year_of_rows (rows_of area rows ++ cond t (row ∷ []) []) ≡ with_row_if t (year_of_rows (rows_of area rows)) row
    by_test true = rows-push (rows_of area rows) row
    by_test false = ap year_of_rows (append-nil (rows_of area rows))

-- one row more of those that the code has
pub year-more : (area : Area) (rows : List (Site × DesignValue)) (i : ℕ) (d : Site × DesignValue) → i < length rows
    → area_year (site_values (take (i + 1) rows)) area
    ≡ with_row_if (area_holds area (get_or rows i d).0) (area_year (site_values (take i rows)) area) ((get_or rows i d).0, design_of (get_or rows i d).1)
year-more area rows i d inside =
    ap (λ l. area_year (site_values l) area) (take_more rows i d inside)
    ∙ ap (λ l. area_year l area) (map-append (λ (row : Site × DesignValue). (row.0, design_of row.1)) (take i rows) (get_or rows i d ∷ []))
    ∙ area-push area (site_values (take i rows)) ((get_or rows i d).0, design_of (get_or rows i d).1)

-- the next row, as a loop comes to it
pub year-next : (area : Area) (rows : List (Site × DesignValue)) (i : ℕ) (row : Site × DesignValue) (old new : AreaYear) (held : Bool) → i < length rows → row ≡ get_or rows i row
    → old ≡ area_year (site_values (take i rows)) area → held ≡ area_holds area row.0 → new ≡ with_row_if held old (row.0, design_of row.1)
    → new ≡ area_year (site_values (take (i + 1) rows)) area
year-next area rows i row old new held inside is so_far holds gives =
    gives ∙ (λ k. with_row_if (holds k) (so_far k) (row.0, design_of row.1))
    ∙ ap (λ (r : Site × DesignValue). with_row_if (area_holds area r.0) (area_year (site_values (take i rows)) area) (r.0, design_of r.1)) is
    ∙ sym (year-more area rows i row inside)

-- an area has no more sites than there are rows
pub sites-few : (area : Area) (rows : List (Site × DesignValue)) → (area_year (site_values rows) area).sites ≤ length rows
unfolding area_year
sites-few area rows =
    let all : length (site_values rows) ≡ length rows = length-map rows (λ (row : Site × DesignValue). (row.0, design_of row.1)) in
    omega (arith, length-filter-le (λ (r : SiteValue). area_holds area (site_in r)) (site_values rows), all)

-- before the first row
pub no-row : (area : Area) → no_rows ≡ area_year [] area
unfolding area_year
no-row area = refl
