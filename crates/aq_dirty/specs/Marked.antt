-- The cells that wait to be brought up to date, as spans: the four kinds of ozone.
use Rattle.std.specs.Prelude.{◌≡◌, ℕ, ◌+◌, ◌-◌, ◌≤◌, Bool, true, false, ◌&&◌, nat_le, nat_lt, Option, Some, None, List, [], ◌∷◌, ◌++◌, flat_map, map}
use Rattle.aq_base.specs.Site.{Site}
use Rattle.aq_base.specs.declared.day.TheConstants.{LAST_DAY, LAST_HOUR}
use Rattle.aq_rules.specs.Kept.Cells.{CellName as Cell, HourCell, WindowCell, OzoneDayCell, OzoneYearCell, PmDayCell, StratumCell, QuarterCell, PmYearCell}
use Rattle.aq_rules.specs.Kept.Reach.{from_to}
use Rattle.aq_rules.specs.Office.Monitors.{is_same_site}
use Rattle.aq_dirty.specs.declared.cell_name.CellName.{CellName}
use Rattle.aq_dirty.specs.declared.cell_name.CellName.TheVariants.{Hour, Window, OzoneDay, OzoneYear, PmDay, Stratum, Quarter, PmYear}
use Rattle.aq_dirty.specs.declared.dirty.HourSpan.{HourSpan}
use Rattle.aq_dirty.specs.declared.spans.Span.{Span}
use Rattle.aq_dirty.specs.Spans.{holds}

-- the cell of the book of rules that a name stands for
abbrev pub named : CellName → Cell
named (Hour site hour) = HourCell site hour
named (Window site start) = WindowCell site start
named (OzoneDay site day) = OzoneDayCell site day
named (OzoneYear site year) = OzoneYearCell site year
named (PmDay site pollutant day) = PmDayCell site pollutant day
named (Stratum site first) = StratumCell site first
named (Quarter site pollutant quarter) = QuarterCell site pollutant quarter
named (PmYear site year) = PmYearCell site year

-- the spans of each kind
pub record Marked : Type 0 where
  pub hours : List Span
  pub windows : List Span
  pub days : List Span
  pub years : List Span

abbrev pub nothing : Marked
nothing = record { hours = []; windows = []; days = []; years = [] }

-- whether a cell waits
abbrev pub holds_cell : Marked → Cell → Bool
holds_cell marked (HourCell site hour) = holds site hour marked.hours
holds_cell marked (WindowCell site start) = holds site start marked.windows
holds_cell marked (OzoneDayCell site day) = holds site day marked.days
holds_cell marked (OzoneYearCell site year) = holds site year marked.years
holds_cell marked cell = false

-- no number that is held is greater than the greatest of its kind
abbrev pub IsWithin : ℕ → List Span → Type 0
IsWithin greatest spans = (site : Site) (number : ℕ) → holds site number spans ≡ true → number ≤ greatest

pub record AreMarked (of_hours of_windows of_days of_years : List Span) : Type 0 where
  pub hours : IsWithin LAST_HOUR of_hours
  pub windows : IsWithin LAST_HOUR of_windows
  pub days : IsWithin LAST_DAY of_days
  pub years : IsWithin 65535 of_years

-- the cell of the first number, and else another one
abbrev pub first_or : (Site → ℕ → Cell) → List Span → Option Cell → Option Cell
first_or cell [] other = other
first_or cell (span ∷ spans) other = Some (cell span.site span.first)

-- lower levels come first
abbrev pub next_in : Marked → Option Cell
next_in marked =
    first_or HourCell marked.hours
    (first_or WindowCell marked.windows
    (first_or OzoneDayCell marked.days
    (first_or OzoneYearCell marked.years None)))

-- the hours of the first span
abbrev pub hours_of : Span → HourSpan
hours_of span = record { site = span.site; first = span.first; count = span.last - span.first + 1 }

abbrev pub first_hours_of : List Span → Option HourSpan
first_hours_of [] = None
first_hours_of (span ∷ spans) = Some (hours_of span)

abbrev pub first_hours_in : Marked → Option HourSpan
first_hours_in marked = first_hours_of marked.hours

-- whether a cell is one of so many hours of a site from the first one on
abbrev pub is_hour_in : Site → ℕ → ℕ → Cell → Bool
is_hour_in site first count (HourCell other hour) = is_same_site site other && nat_le first hour && nat_lt hour (first + count)
is_hour_in site first count cell = false

-- ---- the same as a list of cells

-- the cells of these spans, by what a number of a site names
abbrev pub cells_in_spans : (Site → ℕ → Cell) → List Span → List Cell
cells_in_spans cell spans = flat_map (λ (span : Span). map (cell span.site) (from_to span.first span.last)) spans

unfoldable pub cells_of : Marked → List Cell
cells_of marked =
    cells_in_spans HourCell marked.hours ++ cells_in_spans WindowCell marked.windows
    ++ cells_in_spans OzoneDayCell marked.days ++ cells_in_spans OzoneYearCell marked.years
