-- The sheets of a report, a conflict, an error and a summary, and the value sheet of any standard, filled (own).
use Rattle.std.specs.Prelude.{ℕ, ◌+◌, ◌/◌, ◌%◌, nat_lt, if◌then◌else◌, List, [], ◌∷◌, map, filter, codes, flat_map, Option, ℤ}
use Rattle.aq_base.specs.Site.{Site}
use Rattle.aq_base.specs.Standard.{standard_name}
use Rattle.aq_base.specs.declared.monitor.Pollutant.{Pollutant}
use Rattle.aq_base.specs.declared.standard.Standard.{Standard}
use Rattle.aq_base.specs.declared.standard.Verdict.{Verdict}
use Rattle.aq_rules.specs.Standards.{pollutant_of}
use Rattle.aq_rules.specs.DesignValues.{DesignValue, OfOzone, OfAnnual, OfDaily, OfPm10, design_value, value_in, verdict_in}
use Rattle.aq_rules.specs.Office.Office.{Office, has_monitor, site_numbers, sites_of, with_row}
use Rattle.aq_rules.specs.Shown.Sheet.{SheetCell, Sheet, head_of, count_cell, site_text}
use Rattle.aq_rules.specs.Shown.Sheet.SheetCell.{Text}
use Rattle.aq_rules.specs.Shown.Sheets.{design_cell, verdict_name, ozone_value_sheet}
use Rattle.aq_rules.specs.Shown.ParticleSheets.{annual_value_sheet, daily_value_sheet, pm10_value_sheet}

-- the value sheet of any standard
unfoldable pub value_sheet : Standard → Site → ℕ → DesignValue → Sheet
value_sheet standard site year (OfOzone years design) = ozone_value_sheet site year years design
value_sheet standard site year (OfAnnual years design) = annual_value_sheet standard site year years design
value_sheet standard site year (OfDaily years design) = daily_value_sheet site year years design
value_sheet standard site year (OfPm10 years design) = pm10_value_sheet site year years design

unfoldable pub value_answer : Standard → Office → Site → ℕ → Sheet
value_answer standard office site year = value_sheet standard site year (design_value standard office site year)

-- ---- a report

-- a site's row: its design value and verdict
pub record Judged : Type 0 where
  pub site : Site
  pub value : Option ℤ
  pub verdict : Verdict

abbrev pub judged_by : Site → DesignValue → Judged
judged_by site value = record { site = site; value = value_in value; verdict = verdict_in value }

unfoldable pub judged : Standard → Office → ℕ → Site → Judged
judged standard office year site = judged_by site (design_value standard office site year)

-- the registered sites in rising order
abbrev pub rising_sites : List Site → List Site
rising_sites [] = []
rising_sites (site ∷ sites) = with_row site_numbers site (rising_sites sites)

-- those with a monitor of the pollutant
unfoldable pub sites_with : Office → Pollutant → List Site
sites_with office pollutant = filter (λ site. has_monitor office site pollutant) (rising_sites (sites_of office.records))

abbrev pub judged_cells : Standard → Judged → List SheetCell
judged_cells standard row =
    Text (site_text row.site) ∷ design_cell standard row.value ∷ Text (verdict_name row.verdict) ∷ []

unfoldable pub report_sheet : Standard → ℕ → List Judged → Sheet
report_sheet standard year rows = record {
  heads = head_of (codes "standard") (Text (standard_name standard)) ∷ head_of (codes "year") (count_cell year) ∷ [];
  columns = codes "site" ∷ codes "value" ∷ codes "verdict" ∷ [];
  rows = map (judged_cells standard) rows;
}

unfoldable pub report_answer : Standard → Office → ℕ → Sheet
report_answer standard office year =
    report_sheet standard year (map (judged standard office year) (sites_with office (pollutant_of standard)))

-- ---- sheets without columns

-- a byte as two lower case hexadecimal digits
abbrev pub hex_digit : ℕ → ℕ
hex_digit n = if nat_lt n 10 then 48 + n else 87 + n

abbrev pub digest_text : List ℕ → List ℕ
digest_text digest = flat_map (λ byte. hex_digit (byte / 16) ∷ hex_digit (byte % 16) ∷ []) digest

-- the digest that is kept for a load's number, and the one that was sent
unfoldable pub conflict_sheet : ℕ → List ℕ → List ℕ → Sheet
conflict_sheet number kept sent = record {
  heads =
      head_of (codes "load") (count_cell number)
      ∷ head_of (codes "kept") (Text (digest_text kept))
      ∷ head_of (codes "sent") (Text (digest_text sent))
      ∷ [];
  columns = [];
  rows = [];
}

-- what a reply that is not 200 or 409 names
abbrev pub error_names : List (List ℕ)
error_names =
    codes "BadRequest" ∷ codes "Forbidden" ∷ codes "NotFound" ∷ codes "MethodNotAllowed" ∷ codes "LengthRequired" ∷ codes "TooLarge"
    ∷ codes "HeadTooLarge" ∷ codes "NotImplemented" ∷ codes "KeeperFailed" ∷ codes "LoadsFull" ∷ []

unfoldable pub error_sheet : List ℕ → Sheet
error_sheet name = record { heads = head_of (codes "error") (Text name) ∷ []; columns = []; rows = [] }

-- how many loads were taken, how many lines they had, and how many observations stand
unfoldable pub summary_sheet : ℕ → ℕ → ℕ → Sheet
summary_sheet loads lines observations = record {
  heads =
      head_of (codes "loads") (count_cell loads)
      ∷ head_of (codes "lines") (count_cell lines)
      ∷ head_of (codes "observations") (count_cell observations)
      ∷ [];
  columns = [];
  rows = [];
}
