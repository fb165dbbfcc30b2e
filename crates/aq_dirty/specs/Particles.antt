-- The cells of particles that wait to be brought up to date, as spans: days, strata, quarters and years.
use Rattle.std.specs.Prelude.{ℕ, ◌-◌, Bool, false, Option, None, List, [], ◌++◌}
use Rattle.aq_base.specs.Site.{Site}
use Rattle.aq_base.specs.declared.day.TheConstants.{LAST_DAY, QUARTERS}
use Rattle.aq_base.specs.declared.monitor.Pollutant.{Pollutant}
use Rattle.aq_base.specs.declared.monitor.Pollutant.TheVariants.{Pm25, Pm10}
use Rattle.aq_rules.specs.Kept.Cells.{CellName as Cell, PmDayCell, StratumCell, QuarterCell, PmYearCell}
use Rattle.aq_dirty.specs.declared.spans.Span.{Span}
use Rattle.aq_dirty.specs.Marked.{cells_in_spans, first_or, IsWithin}
use Rattle.aq_dirty.specs.Spans.{holds}

-- the spans of each kind
pub record MarkedParticles : Type 0 where
  pub pm25_days : List Span
  pub pm10_days : List Span
  pub strata : List Span
  pub pm25_quarters : List Span
  pub pm10_quarters : List Span
  pub years : List Span

abbrev pub nothing : MarkedParticles
nothing = record {
  pm25_days = [];
  pm10_days = [];
  strata = [];
  pm25_quarters = [];
  pm10_quarters = [];
  years = [];
}

-- whether a cell waits
abbrev pub holds_particle : MarkedParticles → Cell → Bool
holds_particle marked (PmDayCell site Pm25 day) = holds site day marked.pm25_days
holds_particle marked (PmDayCell site Pm10 day) = holds site day marked.pm10_days
holds_particle marked (StratumCell site first) = holds site first marked.strata
holds_particle marked (QuarterCell site Pm25 quarter) = holds site quarter marked.pm25_quarters
holds_particle marked (QuarterCell site Pm10 quarter) = holds site quarter marked.pm10_quarters
holds_particle marked (PmYearCell site year) = holds site year marked.years
holds_particle marked cell = false

-- no number that is held is greater than the greatest of its kind
pub record AreMarkedParticles (of_pm25_days of_pm10_days of_strata of_pm25_quarters of_pm10_quarters of_years : List Span) : Type 0 where
  pub pm25_days : IsWithin LAST_DAY of_pm25_days
  pub pm10_days : IsWithin LAST_DAY of_pm10_days
  pub strata : IsWithin LAST_DAY of_strata
  pub pm25_quarters : IsWithin (QUARTERS - 1) of_pm25_quarters
  pub pm10_quarters : IsWithin (QUARTERS - 1) of_pm10_quarters
  pub years : IsWithin 65535 of_years

-- the cells of a day and of a quarter, by what a number of a site names
abbrev pub day_cell : Pollutant → Site → ℕ → Cell
day_cell pollutant site day = PmDayCell site pollutant day

abbrev pub quarter_cell : Pollutant → Site → ℕ → Cell
quarter_cell pollutant site quarter = QuarterCell site pollutant quarter

-- lower levels come first
abbrev pub next_in : MarkedParticles → Option Cell
next_in marked =
    first_or (day_cell Pm25) marked.pm25_days
    (first_or (day_cell Pm10) marked.pm10_days
    (first_or StratumCell marked.strata
    (first_or (quarter_cell Pm25) marked.pm25_quarters
    (first_or (quarter_cell Pm10) marked.pm10_quarters
    (first_or PmYearCell marked.years None)))))

-- ---- the same as a list of cells

unfoldable pub particle_cells_of : MarkedParticles → List Cell
particle_cells_of marked =
    cells_in_spans (day_cell Pm25) marked.pm25_days ++ cells_in_spans (day_cell Pm10) marked.pm10_days
    ++ cells_in_spans StratumCell marked.strata
    ++ cells_in_spans (quarter_cell Pm25) marked.pm25_quarters
    ++ cells_in_spans (quarter_cell Pm10) marked.pm10_quarters
    ++ cells_in_spans PmYearCell marked.years
