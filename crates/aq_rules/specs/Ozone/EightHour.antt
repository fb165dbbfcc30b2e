-- The 8-hour averages of a site (40 CFR Part 50, Appendix U, 3(b)), each named by the hour at which it starts.
use Rattle.std.specs.Prelude.{ℕ, not, nat_le, if◌then◌else◌, List, length, map, filter, filter_map, Option, Some, None, ℤ, pos, ◌+ℤ◌, ◌*ℤ◌, int_le}
use Rattle.std.specs.List.{range_with_len}
use Rattle.aq_base.specs.Decimal.{truncated}
use Rattle.aq_base.specs.Site.{Site}
use Rattle.aq_base.specs.declared.day.TheConstants.{LAST_HOUR}
use Rattle.aq_base.specs.declared.standard.Standard.TheVariants.{Ozone2015}
use Rattle.aq_rules.specs.Office.Office.{Office}
use Rattle.aq_rules.specs.Lists.{total}
use Rattle.aq_rules.specs.Standards.{level_of}
use Rattle.aq_rules.specs.Ozone.SiteHour.{Cell, site_hour}

-- the least value above the level of 0.070 ppm, and the least sum of eight hours whose average is above it
abbrev pub LEAST_ABOVE : ℤ
LEAST_ABOVE = level_of Ozone2015 +ℤ pos 1

abbrev pub LEAST_SUM_ABOVE : ℤ
LEAST_SUM_ABOVE = pos 8 *ℤ LEAST_ABOVE

-- the average of so many hours with this sum, truncated to 0.001 ppm: over their number if there are six or more; else over eight, zero for the missing ones, if the sum is above 0.567 ppm, so that what is left is above 0.070 ppm, and none if it is not (0.567 over eight is above 0.070 too, before it is truncated)
abbrev pub average : ℕ → ℤ → Option ℤ
average count sum =
    if nat_le 6 count then Some (truncated sum (pos count))
    else (if int_le LEAST_SUM_ABOVE sum then Some (truncated sum (pos 8)) else None)

abbrev pub average_of : List ℤ → Option ℤ
average_of values = average (length values) (total values)

-- the eight hours from `start`, as far as the profile goes
unfoldable pub eight_hours : ℕ → List ℕ
eight_hours start = filter (λ hour. nat_le hour LAST_HOUR) (range_with_len start 8)

-- what the hours of a site, or of a pair of combined sites, have in these eight
abbrev pub cells_by : (ℕ → Option Cell) → ℕ → List Cell
cells_by hour_at start = filter_map hour_at (eight_hours start)

-- what the site has in these hours
abbrev pub cells_from : Office → Site → ℕ → List Cell
cells_from office site start = cells_by (site_hour office site) start

-- all values, and those that are not excluded
abbrev pub full_values : List Cell → List ℤ
full_values cells = map (λ (c : Cell). c.value) cells

abbrev pub net_values : List Cell → List ℤ
net_values cells = full_values (filter (λ (c : Cell). not c.excluded) cells)

-- the net average, for which an hour with a concurrence counts as missing, and the full one, which reads all hours; and the number of hours of each
pub record WindowRow : Type 0 where
  pub net : Option ℤ
  pub net_hours : ℕ
  pub full : Option ℤ
  pub full_hours : ℕ

abbrev pub row_of : List Cell → WindowRow
row_of cells = record {
  net = average_of (net_values cells);
  net_hours = length (net_values cells);
  full = average_of (full_values cells);
  full_hours = length (full_values cells);
}

-- the average that starts at an hour
abbrev pub window_by : (ℕ → Option Cell) → ℕ → WindowRow
window_by hour_at start = row_of (cells_by hour_at start)

unfoldable pub window : Office → Site → ℕ → WindowRow
window office site start = window_by (site_hour office site) start
