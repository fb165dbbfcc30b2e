-- The registered sites, and how many monitors of each pollutant each of them has (own).
use Rattle.std.specs.Prelude.{ℕ, List, [], ◌∷◌, length, map, count_by, codes}
use Rattle.aq_base.specs.Site.{Site}
use Rattle.aq_base.specs.declared.monitor.Pollutant.{Pollutant}
use Rattle.aq_base.specs.declared.monitor.Pollutant.TheVariants.{Ozone, Pm25, Pm10}
use Rattle.aq_rules.specs.Office.Office.{Office, registers, sites_of}
use Rattle.aq_rules.specs.Shown.OtherSheets.{rising_sites}
use Rattle.aq_rules.specs.Shown.Sheet.{SheetCell, Sheet, head_of, count_cell, site_text}
use Rattle.aq_rules.specs.Shown.Sheet.SheetCell.{Text}

-- a site, and the number of its registered monitors of each pollutant, eligible or not
pub record ListedSite : Type 0 where
  pub site : Site
  pub ozone : ℕ
  pub pm25 : ℕ
  pub pm10 : ℕ

unfoldable pub monitor_count : Office → Site → Pollutant → ℕ
monitor_count office site pollutant = count_by (registers site pollutant) office.records

abbrev pub listed_site : Office → Site → ListedSite
listed_site office site = record {
  site = site;
  ozone = monitor_count office site Ozone;
  pm25 = monitor_count office site Pm25;
  pm10 = monitor_count office site Pm10;
}

-- in rising order of the sites
unfoldable pub listed_sites : Office → List ListedSite
listed_sites office = map (listed_site office) (rising_sites (sites_of office.records))

abbrev pub site_cells : ListedSite → List SheetCell
site_cells row = Text (site_text row.site) ∷ count_cell row.ozone ∷ count_cell row.pm25 ∷ count_cell row.pm10 ∷ []

unfoldable pub sites_sheet : List ListedSite → Sheet
sites_sheet rows = record {
  heads = head_of (codes "sites") (count_cell (length rows)) ∷ [];
  columns = codes "site" ∷ codes "ozone" ∷ codes "pm25" ∷ codes "pm10" ∷ [];
  rows = map site_cells rows;
}

unfoldable pub sites_answer : Office → Sheet
sites_answer office = sites_sheet (listed_sites office)
