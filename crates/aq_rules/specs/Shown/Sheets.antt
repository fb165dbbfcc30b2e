-- The sheets of a load, and of ozone windows, days and design values, filled (own).
use Rattle.std.specs.Prelude.{ℕ, ◌-◌, Bool, List, [], ◌∷◌, ◌++◌, map, zip, codes, Option, None, ℤ}
use Rattle.std.specs.List.{enumerate_from}
use Rattle.aq_base.specs.Calendar.{year_first}
use Rattle.aq_base.specs.Rule.{rule_number, rule_name}
use Rattle.aq_base.specs.Site.{Site}
use Rattle.aq_base.specs.Standard.{standard_name}
use Rattle.aq_base.specs.declared.reply.ListedLine.{ListedLine}
use Rattle.aq_base.specs.declared.reply.RestRule.{RestRule}
use Rattle.aq_base.specs.declared.reply.LoadReply.{LoadReply}
use Rattle.aq_base.specs.declared.standard.Standard.{Standard}
use Rattle.aq_base.specs.declared.standard.Standard.TheVariants.{Ozone2015, Annual2012, AnnualSecondary, Annual2024, Daily2006, Pm10Of1987}
use Rattle.aq_base.specs.declared.standard.Verdict.{Verdict}
use Rattle.aq_base.specs.declared.standard.Verdict.TheVariants.{Met, NotMet, Incomplete, NoValue}
use Rattle.aq_rules.specs.Office.Office.{Office}
use Rattle.aq_rules.specs.Office.Season.{Season, season_of}
use Rattle.aq_rules.specs.Office.Approval.{is_approved}
use Rattle.aq_rules.specs.Ozone.EightHour.{WindowRow}
use Rattle.aq_rules.specs.Ozone.OzoneDay.{OzoneDay, windows}
use Rattle.aq_rules.specs.Ozone.OzoneYear.{OzoneYear, days_of, ozone_days, ozone_year}
use Rattle.aq_rules.specs.Ozone.OzoneVerdict.{OzoneDv}
use Rattle.aq_rules.specs.Shown.Sheet.{SheetCell, Sheet, Head, head_of, count_cell, ppm_cell, tenths_cell, whole_cell, site_text, day_text, hour_text, truth_text}
use Rattle.aq_rules.specs.Shown.Sheet.SheetCell.{Text, Missing}

-- ---- the reply to a load

-- a line that is listed, with its rule
abbrev pub listed_row : ListedLine → List SheetCell
listed_row listed =
    count_cell listed.line ∷ count_cell (rule_number listed.rule) ∷ Text (rule_name listed.rule) ∷ count_cell 1 ∷ []

-- the further refused lines of one rule
abbrev pub rest_row : RestRule → List SheetCell
rest_row rest =
    Missing ∷ count_cell (rule_number rest.rule) ∷ Text (rule_name rest.rule) ∷ count_cell rest.count ∷ []

unfoldable pub load_sheet : LoadReply → Sheet
load_sheet reply = record {
  heads =
      head_of (codes "load") (count_cell reply.number)
      ∷ head_of (codes "lines") (count_cell reply.lines)
      ∷ head_of (codes "accepted") (count_cell reply.accepted)
      ∷ head_of (codes "refused") (count_cell reply.refused)
      ∷ [];
  columns = codes "line" ∷ codes "rule" ∷ codes "name" ∷ codes "count" ∷ [];
  rows = map listed_row reply.listed ++ map rest_row reply.rest;
}

-- ---- the 8-hour averages of a day

-- a row, by its hour of the day
abbrev pub window_cells : ℕ × WindowRow → List SheetCell
window_cells row =
    Text (hour_text row.0)
    ∷ ppm_cell row.1.net ∷ count_cell row.1.net_hours
    ∷ ppm_cell row.1.full ∷ count_cell row.1.full_hours
    ∷ []

-- the rows are those of 07:00 on
unfoldable pub windows_sheet : Site → ℕ → List WindowRow → Sheet
windows_sheet site day rows = record {
  heads = head_of (codes "site") (Text (site_text site)) ∷ head_of (codes "day") (Text (day_text day)) ∷ [];
  columns = codes "hour" ∷ codes "average" ∷ codes "hours" ∷ codes "full" ∷ codes "full_hours" ∷ [];
  rows = map window_cells (enumerate_from 7 rows);
}

unfoldable pub windows_answer : Office → Site → ℕ → Sheet
windows_answer office site day = windows_sheet site day (windows office site day)

-- ---- the days of a year

-- a day's row: its number, and its maximum and whether it is approved
abbrev pub day_cells : ℕ × (OzoneDay × Bool) → List SheetCell
day_cells row =
    Text (day_text row.0) ∷ count_cell row.1.0.averages
    ∷ Text (truth_text row.1.0.valid) ∷ Text (truth_text row.1.1)
    ∷ ppm_cell row.1.0.maximum
    ∷ []

-- the days and their approvals are those of the year, in order
unfoldable pub days_sheet : Site → ℕ → Season → List OzoneDay → List Bool → OzoneYear → Sheet
days_sheet site year season days approved totals = record {
  heads =
      head_of (codes "site") (Text (site_text site))
      ∷ head_of (codes "year") (count_cell year)
      ∷ head_of (codes "season_first") (Text (day_text season.first))
      ∷ head_of (codes "season_last") (Text (day_text season.last))
      ∷ head_of (codes "season_days") (count_cell totals.season_days)
      ∷ head_of (codes "season_valid") (count_cell totals.season_valid)
      ∷ head_of (codes "fourth") (ppm_cell totals.fourth)
      ∷ [];
  columns = codes "day" ∷ codes "averages" ∷ codes "valid" ∷ codes "approved" ∷ codes "maximum" ∷ [];
  rows = map day_cells (enumerate_from (year_first year) (zip days approved));
}

unfoldable pub days_answer : Office → Site → ℕ → Sheet
days_answer office site year =
    days_sheet site year (season_of office.records site year) (ozone_days office site year)
    (map (is_approved office.records site) (days_of year)) (ozone_year office site year)

-- ---- a design value

abbrev pub verdict_name : Verdict → List ℕ
verdict_name Met = codes "Met"
verdict_name NotMet = codes "NotMet"
verdict_name Incomplete = codes "Incomplete"
verdict_name NoValue = codes "NoValue"

-- a design value or a test's value in its standard's unit: ppm, tenths of a µg/m3 or of a day, or whole µg/m3
abbrev pub design_cell : Standard → Option ℤ → SheetCell
design_cell Ozone2015 value = ppm_cell value
design_cell Annual2012 value = tenths_cell value
design_cell AnnualSecondary value = tenths_cell value
design_cell Annual2024 value = tenths_cell value
design_cell Daily2006 value = whole_cell value
design_cell Pm10Of1987 value = tenths_cell value

-- the heads of a design value of any standard
abbrev pub value_heads : Standard → Site → ℕ → Option ℤ → Option ℤ → Verdict → List Head
value_heads standard site year value test verdict =
    head_of (codes "standard") (Text (standard_name standard))
    ∷ head_of (codes "site") (Text (site_text site))
    ∷ head_of (codes "year") (count_cell year)
    ∷ head_of (codes "value") (design_cell standard value)
    ∷ head_of (codes "test") (design_cell standard test)
    ∷ head_of (codes "verdict") (Text (verdict_name verdict))
    ∷ []

abbrev pub year_cells : ℕ × OzoneYear → List SheetCell
year_cells row =
    count_cell row.0 ∷ count_cell row.1.ranked ∷ ppm_cell row.1.fourth
    ∷ count_cell row.1.season_days ∷ count_cell row.1.season_valid
    ∷ []

-- three years, the oldest first, of which the last is `year`; there is no test
unfoldable pub ozone_value_sheet : Site → ℕ → List OzoneYear → OzoneDv → Sheet
ozone_value_sheet site year years design = record {
  heads = value_heads Ozone2015 site year design.value None design.verdict;
  columns = codes "year" ∷ codes "ranked" ∷ codes "fourth" ∷ codes "season_days" ∷ codes "season_valid" ∷ [];
  rows = map year_cells (enumerate_from (year - 2) years);
}
