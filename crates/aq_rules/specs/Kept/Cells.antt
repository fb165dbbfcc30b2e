-- The cells: what is kept of an office beside its rows, so that a question need not go over them again (own). A cell is named by what it is of.
use Rattle.std.specs.Prelude.{ℕ, Bool, false, ◌&&◌, ◌==◌}
use Rattle.aq_base.specs.Site.{Site}
use Rattle.aq_base.specs.declared.monitor.Pollutant.{Pollutant}
use Rattle.aq_rules.specs.Office.Monitors.{is_same_site, is_same_pollutant}

pub data CellName : Type 0 where
  -- the ozone value of a site for an hour
  HourCell : (site : Site) (hour : ℕ) → CellName
  -- the 8-hour average that starts at an hour
  WindowCell : (site : Site) (start : ℕ) → CellName
  -- an ozone day: whether it is valid, and its maximum
  OzoneDayCell : (site : Site) (day : ℕ) → CellName
  -- an ozone year: its ranked maxima and its valid days
  OzoneYearCell : (site : Site) (year : ℕ) → CellName
  -- the PM2.5 or PM10 value of a site for a day
  PmDayCell : (site : Site) (pollutant : Pollutant) (day : ℕ) → CellName
  -- a stratum of PM10, named by its first day
  StratumCell : (site : Site) (first : ℕ) → CellName
  -- a quarter of PM2.5 or PM10: its counts and values
  QuarterCell : (site : Site) (pollutant : Pollutant) (quarter : ℕ) → CellName
  -- the eight greatest values of a PM2.5 year, whose quarters are cells of their own
  PmYearCell : (site : Site) (year : ℕ) → CellName

-- whether two names are of one cell
abbrev pub is_same_cell : CellName → CellName → Bool
is_same_cell (HourCell site hour) (HourCell site2 hour2) = (hour == hour2) && is_same_site site site2
is_same_cell (WindowCell site start) (WindowCell site2 start2) = (start == start2) && is_same_site site site2
is_same_cell (OzoneDayCell site day) (OzoneDayCell site2 day2) = (day == day2) && is_same_site site site2
is_same_cell (OzoneYearCell site year) (OzoneYearCell site2 year2) = (year == year2) && is_same_site site site2
is_same_cell (PmDayCell site pollutant day) (PmDayCell site2 pollutant2 day2) =
    (day == day2) && is_same_site site site2 && is_same_pollutant pollutant pollutant2
is_same_cell (StratumCell site first) (StratumCell site2 first2) = (first == first2) && is_same_site site site2
is_same_cell (QuarterCell site pollutant quarter) (QuarterCell site2 pollutant2 quarter2) =
    (quarter == quarter2) && is_same_site site site2 && is_same_pollutant pollutant pollutant2
is_same_cell (PmYearCell site year) (PmYearCell site2 year2) = (year == year2) && is_same_site site site2
is_same_cell _ _ = false
