-- The sheets of decisive events, and of an area and its sites, are well formed.
use Rattle.std.proofs.Common.{◌≡◌, ℕ, ◌^◌, ◌<◌, true, ◌&&◌, List, [], ◌∷◌, refl}
use Rattle.std.specs.Prelude.{ℤ, Option, Some, None, codes, All}
use Rattle.std.proofs.lemmas.Bool.{and_from}
use Rattle.std.proofs.lemmas.List.Elements.{All-head, All-tail}
use Rattle.aq_base.specs.Site.{Site}
use Rattle.aq_base.specs.declared.standard.Standard.{Standard}
use Rattle.aq_base.specs.declared.standard.Standard.TheVariants.{Ozone2015, Annual2012, AnnualSecondary, Annual2024, Daily2006, Pm10Of1987}
use Rattle.aq_base.specs.declared.standard.Verdict.{Verdict}
use Rattle.aq_rules.specs.Shown.Sheets.{design_cell}
use Rattle.aq_rules.specs.Shown.AreaSheets.{decisive_cells, decisive_sheet, site_cell, area_cells, area_sheet, critical_cell, area_site_cells, area_sites_sheet}
use Rattle.aq_rules.specs.Shown.WellFormed.{is_whole, is_whole_if, is_cell, is_row, IsWellFormed}
use Rattle.aq_rules.proofs.Elements.{Every}
use Rattle.aq_rules.proofs.SheetCells.{site-word, standard-word, verdict-word, count, row-of, heads-of, rows-of}

every-of : {X : Type 0} (P : X → Type 0) (xs : List X) → All P xs → Every P xs
every-of P [] all = tt
every-of P (x ∷ xs) all = (All-head P x xs all, every-of P xs (All-tail P x xs all))

-- ---- cells

fixed-cell : (value : ℤ) → is_whole value ≡ true → (is_whole value && true) ≡ true
fixed-cell value whole = and_from (is_whole value) true whole refl

in-unit : (standard : Standard) (value : Option ℤ) → is_whole_if value ≡ true → is_cell (design_cell standard value) ≡ true
in-unit Ozone2015 None whole = refl
in-unit Ozone2015 (Some value) whole = fixed-cell value whole
in-unit Annual2012 None whole = refl
in-unit Annual2012 (Some value) whole = fixed-cell value whole
in-unit AnnualSecondary None whole = refl
in-unit AnnualSecondary (Some value) whole = fixed-cell value whole
in-unit Annual2024 None whole = refl
in-unit Annual2024 (Some value) whole = fixed-cell value whole
in-unit Daily2006 None whole = refl
in-unit Daily2006 (Some value) whole = whole
in-unit Pm10Of1987 None whole = refl
in-unit Pm10Of1987 (Some value) whole = fixed-cell value whole

critical-unit : (standard : Standard) (value : Option ℤ) → is_whole_if value ≡ true → is_cell (critical_cell standard value) ≡ true
critical-unit Daily2006 None whole = refl
critical-unit Daily2006 (Some value) whole = fixed-cell value whole
critical-unit standard value whole = in-unit standard value whole

governing-cell : (governing : Option Site) → is_cell (site_cell governing) ≡ true
governing-cell None = refl
governing-cell (Some site) = site-word site

-- ---- sheets

decisive_columns : List (List ℕ)
decisive_columns = codes "event" ∷ codes "verdict" ∷ []

decisive-row : (row : ℕ × Verdict) → row.0 < 2 ^ 63 → is_row decisive_columns (decisive_cells row) ≡ true
unfolding decisive_columns
decisive-row row few = row-of decisive_columns (decisive_cells row) refl (count row.0 few, (verdict-word row.1, tt))

pub decisive-well_formed : (standard : Standard) (site : Site) (year : ℕ) (verdict : Verdict) (rows : List (ℕ × Verdict))
    → year < 2 ^ 63 → All (λ (row : ℕ × Verdict). row.0 < 2 ^ 63) rows → IsWellFormed (decisive_sheet standard site year verdict rows)
unfolding decisive_sheet decisive_columns
decisive-well_formed standard site year verdict rows few all = record {
  heads =
      heads-of (decisive_sheet standard site year verdict rows).heads
      (standard-word standard, (site-word site, (count year few, (verdict-word verdict, tt))));
  names_differ = refl;
  columns = refl;
  rows =
      rows-of decisive_columns (λ (row : ℕ × Verdict). row.0 < 2 ^ 63) decisive_cells decisive-row rows
      (every-of (λ (row : ℕ × Verdict). row.0 < 2 ^ 63) rows all);
}

abbrev AreaRow : ℕ × Verdict × Option ℤ → Type 0
AreaRow row = (row.0 < 2 ^ 63) × (is_whole_if row.2 ≡ true)

area_columns : List (List ℕ)
area_columns = codes "year" ∷ codes "verdict" ∷ codes "value" ∷ []

area-row : (standard : Standard) (row : ℕ × Verdict × Option ℤ) → AreaRow row → is_row area_columns (area_cells standard row) ≡ true
unfolding area_columns
area-row standard row h = row-of area_columns (area_cells standard row) refl (count row.0 h.0, (verdict-word row.1, (in-unit standard row.2 h.1, tt)))

pub area-well_formed : (standard : Standard) (year : ℕ) (verdict : Verdict) (governing : Option Site) (value : Option ℤ) (met : ℕ) (rows : List (ℕ × Verdict × Option ℤ))
    → year < 2 ^ 63 → is_whole_if value ≡ true → met < 2 ^ 63 → All (λ (row : ℕ × Verdict × Option ℤ). (row.0 < 2 ^ 63) × (is_whole_if row.2 ≡ true)) rows
    → IsWellFormed (area_sheet standard year verdict governing value met rows)
unfolding area_sheet area_columns
area-well_formed standard year verdict governing value met rows few whole short all = record {
  heads =
      heads-of (area_sheet standard year verdict governing value met rows).heads
      (standard-word standard, (count year few, (verdict-word verdict, (governing-cell governing, (in-unit standard value whole, (count met short, tt))))));
  names_differ = refl;
  columns = refl;
  rows = rows-of area_columns AreaRow (area_cells standard) (area-row standard) rows (every-of AreaRow rows all);
}

abbrev SiteRow : Site × Option ℤ × Verdict × Option ℤ → Type 0
SiteRow row = (is_whole_if row.1 ≡ true) × (is_whole_if row.3 ≡ true)

site_columns : List (List ℕ)
site_columns = codes "site" ∷ codes "value" ∷ codes "verdict" ∷ codes "critical" ∷ []

site-row : (standard : Standard) (row : Site × Option ℤ × Verdict × Option ℤ) → SiteRow row → is_row site_columns (area_site_cells standard row) ≡ true
unfolding site_columns
site-row standard row h =
    row-of site_columns (area_site_cells standard row) refl
    (site-word row.0, (in-unit standard row.1 h.0, (verdict-word row.2, (critical-unit standard row.3 h.1, tt))))

pub sites-well_formed : (standard : Standard) (year : ℕ) (rows : List (Site × Option ℤ × Verdict × Option ℤ))
    → year < 2 ^ 63 → All (λ (row : Site × Option ℤ × Verdict × Option ℤ). (is_whole_if row.1 ≡ true) × (is_whole_if row.3 ≡ true)) rows
    → IsWellFormed (area_sites_sheet standard year rows)
unfolding area_sites_sheet site_columns
sites-well_formed standard year rows few all = record {
  heads = heads-of (area_sites_sheet standard year rows).heads (standard-word standard, (count year few, tt));
  names_differ = refl;
  columns = refl;
  rows = rows-of site_columns SiteRow (area_site_cells standard) (site-row standard) rows (every-of SiteRow rows all);
}
