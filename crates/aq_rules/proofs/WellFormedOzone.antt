-- The sheets of ozone averages, days and design values are well formed.
use Rattle.std.proofs.Common.{◌≡◌, ℕ, ◌+◌, ◌<◌, ◌≤◌, Bool, true, not, List, [], ◌∷◌, length, map, refl, arith}
use Rattle.std.specs.Prelude.{ℤ, Option, Some, None, nat_le, codes}
use Rattle.std.specs.List.{zip, filter, range_with_len}
use Rattle.std.proofs.lemmas.Bool.Decides.{nat_tests}
use Rattle.std.proofs.lemmas.List.{length-map}
use Rattle.std.proofs.lemmas.List.FromFn.{length-range_with_len}
use Rattle.aq_base.specs.Calendar.{is_year, year_first, days_in_year}
use Rattle.aq_base.specs.Site.{Site}
use Rattle.aq_base.specs.declared.day.TheConstants.{LAST_YEAR, LAST_HOUR}
use Rattle.aq_base.specs.declared.monitor.Pollutant.TheVariants.{Ozone}
use Rattle.aq_rules.specs.Lists.{total}
use Rattle.aq_rules.specs.Office.Office.{Office, IsOffice}
use Rattle.aq_rules.specs.Office.Season.{season_of}
use Rattle.aq_rules.specs.Office.Approval.{is_approved}
use Rattle.aq_rules.specs.Ozone.SiteHour.{Cell, site_hour}
use Rattle.aq_rules.specs.Ozone.EightHour.{WindowRow, eight_hours, cells_from, full_values, window}
use Rattle.aq_rules.specs.Ozone.OzoneDay.{OzoneDay, starts_of, windows, ozone_day}
use Rattle.aq_rules.specs.Ozone.OzoneYear.{days_of, ozone_days, ozone_year}
use Rattle.aq_rules.specs.Kept.Summaries.{KeepsOzoneYear, is_value}
use Rattle.aq_rules.specs.Shown.Sheets.{window_cells, windows_sheet, windows_answer, day_cells, days_sheet, days_answer}
use Rattle.aq_rules.specs.Shown.WellFormed.{is_row, IsWellFormed}
use Rattle.aq_rules.proofs.Elements.{Every}
use Rattle.aq_rules.proofs.Pm10Facts.{length-kept, length-filter-le}
use Rattle.aq_rules.proofs.OzoneFacts.{InRange, CellIn, average-in_range, hours-in_range, window-in_range, day-in_range, ozone_year-keeps}
use Rattle.aq_rules.proofs.ValueRange.{total-between, from_test}
use Rattle.aq_rules.proofs.Quarters.{year-holds}
use Rattle.aq_rules.proofs.Held.{IfHeld}
use Rattle.aq_rules.proofs.SheetCells.{site-word, day-word, hour-word, truth-word, count, if_ppm, row-of, heads-of, numbered-rows, zip-every}

-- ---- averages

pub record WindowIn (row : WindowRow) : Type 0 where
  pub net : IfHeld 999 9999 row.net
  pub net_hours : row.net_hours ≤ 8
  pub full : IfHeld 999 9999 row.full
  pub full_hours : row.full_hours ≤ 8

full-in : (cells : List Cell) → Every CellIn cells → Every InRange (full_values cells)
full-in [] every = tt
full-in (cell ∷ cells) every = (every.0, full-in cells every.1)

few_hours : (start : ℕ) → length (eight_hours start) ≤ 8
unfolding eight_hours
few_hours start = omega (arith, length-filter-le (λ hour. nat_le hour LAST_HOUR) (range_with_len start 8), length-range_with_len start 8)

window-in : (office : Office) (site : Site) (start : ℕ) → IsOffice office → WindowIn (window office site start)
unfolding window
window-in office site start valid =
    let cells = cells_from office site start in
    let every : Every CellIn cells = hours-in_range office site (eight_hours start) valid in
    let values = full_values cells in
    let few : length cells ≤ 8 = omega (arith, length-kept (site_hour office site) (eight_hours start), few_hours start) in
    record {
      net = window-in_range office site start valid;
      net_hours = omega (arith, length-map (filter (λ (c : Cell). not c.excluded) cells) (λ (c : Cell). c.value), length-filter-le (λ (c : Cell). not c.excluded) cells, few);
      full = average-in_range (length values) (total values) (total-between 9999 values (full-in cells every));
      full_hours = omega (arith, length-map cells (λ (c : Cell). c.value), few);
    }

pub windows-in : (office : Office) (site : Site) (starts : List ℕ) → IsOffice office → Every WindowIn (map (window office site) starts)
windows-in office site [] valid = tt
windows-in office site (start ∷ starts) valid = (window-in office site start valid, windows-in office site starts valid)

window_columns : List (List ℕ)
window_columns = codes "hour" ∷ codes "average" ∷ codes "hours" ∷ codes "full" ∷ codes "full_hours" ∷ []

window-row : (hour : ℕ) (row : WindowRow) → hour < 24 → WindowIn row → is_row window_columns (window_cells (hour, row)) ≡ true
unfolding window_columns
window-row hour row few is =
    let net = is.net_hours in
    let full = is.full_hours in
    row-of window_columns (window_cells (hour, row)) refl
    (hour-word hour, (if_ppm row.net is.net, (count row.net_hours (omega arith), (if_ppm row.full is.full, (count row.full_hours (omega arith), tt)))))

pub windows-well_formed : (office : Office) (site : Site) (day : ℕ) → IsOffice office → IsWellFormed (windows_answer office site day)
unfolding windows_answer windows_sheet windows starts_of window_columns
windows-well_formed office site day valid = record {
  heads = heads-of (windows_answer office site day).heads (site-word site, (day-word day, tt));
  names_differ = refl;
  columns = refl;
  rows = numbered-rows window_columns WindowIn 24 window_cells window-row 7 (windows office site day) (omega arith) (windows-in office site (starts_of day) valid);
}

-- ---- days

record DayIn (day : OzoneDay) : Type 0 where
  averages : day.averages ≤ 17
  maximum : IfHeld 999 9999 day.maximum

day-in : (office : Office) (site : Site) (day : ℕ) → IsOffice office → DayIn (ozone_day office site day)
unfolding ozone_day windows starts_of
day-in office site day valid = record {
  averages = length-kept (λ (r : WindowRow). r.full) (windows office site day);
  maximum = day-in_range office site day valid;
}

days-in : (office : Office) (site : Site) (days : List ℕ) → IsOffice office → Every DayIn (map (ozone_day office site) days)
days-in office site [] valid = tt
days-in office site (day ∷ days) valid = (day-in office site day valid, days-in office site days valid)

days_columns : List (List ℕ)
days_columns = codes "day" ∷ codes "averages" ∷ codes "valid" ∷ codes "approved" ∷ codes "maximum" ∷ []

day-row : (most day : ℕ) (row : OzoneDay × Bool) → day < most → DayIn row.0 → is_row days_columns (day_cells (day, row)) ≡ true
unfolding days_columns
day-row most day row few is =
    let averages = is.averages in
    row-of days_columns (day_cells (day, row)) refl
    (day-word day, (count row.0.averages (omega arith), (truth-word row.0.valid, (truth-word row.1, (if_ppm row.0.maximum is.maximum, tt)))))

pub if_in : (o : Option ℤ) → is_value Ozone o ≡ true → IfHeld 999 9999 o
if_in None h = tt
if_in (Some v) h = from_test 9999 v h

pub year_keeps : (office : Office) (site : Site) (year : ℕ) → IsOffice office → KeepsOzoneYear (ozone_year office site year)
year_keeps office site year valid = ozone_year-keeps office site year valid (year-holds year)

pub of_profile : (year : ℕ) → is_year year ≡ true → year ≤ LAST_YEAR
of_profile year h = grind (arith, nat_tests)

pub days-well_formed : (office : Office) (site : Site) (year : ℕ) → IsOffice office → is_year year ≡ true → IsWellFormed (days_answer office site year)
unfolding days_answer days_sheet ozone_days days_of days_columns
days-well_formed office site year valid asked =
    let season = season_of office.records site year in
    let totals = ozone_year office site year in
    let keeps = year_keeps office site year valid in
    let few = of_profile year asked in
    let season_days = keeps.season_days in
    let season_valid = keeps.season_valid in
    let D = range_with_len (year_first year) (days_in_year year) in
    let rows = zip (ozone_days office site year) (map (is_approved office.records site) (days_of year)) in
    record {
      heads =
          heads-of (days_answer office site year).heads (
            site-word site,
            (
              count year (omega arith),
              (
                day-word season.first,
                (
                  day-word season.last,
                  (count totals.season_days (omega arith), (count totals.season_valid (omega arith), (if_ppm totals.fourth (if_in totals.fourth keeps.fourth_in_range), tt))),
                ),
              ),
            ),
          );
      names_differ = refl;
      columns = refl;
      rows =
          numbered-rows days_columns (λ (row : OzoneDay × Bool). DayIn row.0) (year_first year + length rows) day_cells (day-row (year_first year + length rows)) (year_first year) rows (omega arith)
          (zip-every DayIn (ozone_days office site year) (map (is_approved office.records site) (days_of year)) (days-in office site D valid));
    }
