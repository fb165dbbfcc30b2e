-- The PM2.5 cells of sites: days, and their quarters and years.
use Rattle.std.specs.Prelude.{◌≡◌, ◌≤◌, ℕ, ◌||◌, ◌==◌, Bool, false, List, Option, is_some, map, filter, filter_map}
use Rattle.std.specs.Option.{option_map_or}
use Rattle.aq_base.specs.Calendar.{days_in_quarter, days_in_year, quarter_first, year_first, year_of, quarter_of}
use Rattle.aq_base.specs.Site.{Site}
use Rattle.aq_base.specs.declared.day.TheConstants.{LAST_DAY}
use Rattle.aq_base.specs.declared.monitor.Pollutant.TheVariants.{Pm25}
use Rattle.aq_base.specs.declared.office.OfficeRecord.{OfficeRecord}
use Rattle.aq_rules.specs.Kept.Summaries.{PmYear, summary_of_year}
use Rattle.aq_rules.specs.Office.Questions.{makeup_of, missed_of}
use Rattle.aq_rules.specs.Office.Schedule.{is_scheduled}
use Rattle.aq_rules.specs.Ozone.SiteHour.{Cell}
use Rattle.aq_rules.specs.Particles.QuarterCounts.{Makeup, QuarterDays, counts_by, days_of_quarter, makeup_by, quarters_of}
use Rattle.aq_particles.specs.Pm25.QuarterDays.{credited}
use Rattle.aq_particles.specs.Pm25.SiteDays.{SiteDays, gives_credit_by, net_by}
use Rattle.aq_particle_cells.specs.Pm25.DayValues.{AreValuesOf}
use Rattle.aq_particle_cells.specs.Days.KeptDays.{cell_at, day_at, net_of, sample_at, AreDaysOfParticles, Days}
use Rattle.aq_particle_cells.specs.Days.Spans.{IsQuarter, IsYear}
use Rattle.aq_particle_cells.specs.Pm25.Pm25Tallies.{counted_of, AreGreatestOf}
use Rattle.aq_particle_cells.specs.Days.Tallied.{AreBags, AreSumsOf}
use Rattle.aq_particle_cells.specs.declared.pm25.tallies.Pm25Tallies.{Pm25Tallies}

-- a site by the values of its days, with the schedule of these records
abbrev pub site_by : List OfficeRecord → Site → (ℕ → Option Cell) → SiteDays
site_by records site cell = record { cell_on = cell; schedules = is_scheduled records site Pm25 }

-- the creditable sample of a day: its own if the day is scheduled by these records, else one that makes up for it
abbrev pub credited_by : List OfficeRecord → Site → (ℕ → Option Cell) → ℕ → Option Cell
credited_by records site cell day = credited (site_by records site cell) (makeup_of records site) day

unfoldable pub sample_from : List OfficeRecord → Days → Site → ℕ → Option Cell
sample_from records days site day = credited_by records site (cell_at days site) day

-- the days whose sample a change of a day's value may change: the day itself, and the missed day for which its sample makes up
abbrev pub is_counted_by : List OfficeRecord → Site → ℕ → ℕ → Bool
is_counted_by records site day number =
    (day == number) || option_map_or (λ missed. missed == number) (missed_of records site day) false

-- a quarter by the values of its days, and the schedules and make-ups of these records
abbrev pub credits_from : List OfficeRecord → Site → (ℕ → Option Cell) → ℕ → List Makeup
credits_from records site cell quarter =
    filter (gives_credit_by (site_by records site cell)) (filter_map (makeup_by site quarter) records)

abbrev pub quarter_from : List OfficeRecord → Site → (ℕ → Option Cell) → ℕ → QuarterDays
quarter_from records site cell quarter = record {
  counts = counts_by (λ day. is_some (cell day)) (λ day. is_some (net_by (site_by records site cell) day))
      (filter (is_scheduled records site Pm25) (days_of_quarter quarter)) (credits_from records site cell quarter);
  values = filter_map (net_by (site_by records site cell)) (days_of_quarter quarter);
}

-- a quarter and a year of the values that are kept
unfoldable pub quarter_of_days : List OfficeRecord → Days → Site → ℕ → QuarterDays
quarter_of_days records days site quarter = quarter_from records site (cell_at days site) quarter

unfoldable pub year_of_days : List OfficeRecord → Days → Site → ℕ → PmYear
year_of_days records days site year = summary_of_year (map (quarter_of_days records days site) (quarters_of year))

-- each day of the quarter, and of the year, has the creditable sample that these records give it
unfoldable pub IsCountedBy : List OfficeRecord → Days → Site → ℕ → Type 0
IsCountedBy records days site quarter =
    (day : ℕ) → day ≤ LAST_DAY → quarter_of day ≡ quarter → sample_at days site day ≡ sample_from records days site day

unfoldable pub AreCountedBy : List OfficeRecord → Days → Site → ℕ → Type 0
AreCountedBy records days site year =
    (day : ℕ) → day ≤ LAST_DAY → year_of day ≡ year → sample_at days site day ≡ sample_from records days site day

-- ---- what always holds

-- the tallies are those of the days that are kept
pub record AreTallies (days : Days) (tallies : Pm25Tallies) : Type 0 where
  pub values : AreBags AreValuesOf IsQuarter quarter_first days_in_quarter (λ site day. net_of (day_at days site day)) tallies.values
  pub samples : AreBags AreSumsOf IsQuarter quarter_first days_in_quarter (λ site day. counted_of (day_at days site day)) tallies.samples
  pub greatest : AreBags AreGreatestOf IsYear year_first days_in_year (λ site day. net_of (day_at days site day)) tallies.greatest

pub record AreCells (days : Days) (tallies : Pm25Tallies) : Type 0 where
  pub particles : AreDaysOfParticles days
  pub tallied : AreTallies days tallies
