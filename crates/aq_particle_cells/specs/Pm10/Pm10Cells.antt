-- The PM10 cells of sites: days, strata, and the quarters of both.
use Rattle.std.specs.Prelude.{◌≡◌, ◌≤◌, ℕ, if◌then◌else◌, false, List, Option, None, is_some, map, filter, filter_map, count_by, length, option_and_then, ℤ}
use Rattle.std.specs.Option.{option_map_or}
use Rattle.aq_base.specs.Calendar.{days_in_quarter, quarter_first, quarter_of, year_of}
use Rattle.aq_base.specs.Site.{Site}
use Rattle.aq_base.specs.declared.day.TheConstants.{LAST_DAY}
use Rattle.aq_base.specs.declared.monitor.Pollutant.TheVariants.{Pm10}
use Rattle.aq_base.specs.declared.office.OfficeRecord.{OfficeRecord}
use Rattle.aq_rules.specs.Office.Schedule.{is_scheduled}
use Rattle.aq_rules.specs.Ozone.SiteHour.{Cell}
use Rattle.aq_rules.specs.Particles.ParticleDay.{unless_excluded}
use Rattle.aq_rules.specs.Particles.Pm10Estimate.{Pm10Quarter, exceeds, quarter_of_strata}
use Rattle.aq_rules.specs.Particles.QuarterCounts.{days_of_quarter, quarters_of}
use Rattle.aq_rules.specs.Particles.Strata.{first_days_by, quarter_end, strata_from}
use Rattle.aq_particle_cells.specs.Days.KeptDays.{cell_at, day_at, sample_at, Days, AreDaysOfParticles}
use Rattle.aq_particle_cells.specs.Pm10.Pm10Tallies.{captured_of}
use Rattle.aq_particle_cells.specs.Pm10.Strata.{stratum_at, stratum_by_net, Strata}
use Rattle.aq_particle_cells.specs.Pm10.StrataTotals.{AreTotalsOf}
use Rattle.aq_particle_cells.specs.Days.Tallied.{AreBags, AreSumsOf}
use Rattle.aq_particle_cells.specs.declared.pm10.tallies.Pm10Tallies.{Pm10Tallies}
use Rattle.aq_particle_cells.specs.Days.Spans.{IsQuarter}

-- what is kept of the days and the strata of sites
pub record Pm10Kept : Type 0 where
  pub days : Days
  pub strata : Strata

-- the sample of a day that is scheduled by these records
unfoldable pub scheduled_sample : List OfficeRecord → Days → Site → ℕ → Option Cell
scheduled_sample records days site day = if is_scheduled records site Pm10 day then cell_at days site day else None

-- what is kept of the stratum that starts on a day, by the schedules of these records
abbrev pub net_at : Days → Site → ℕ → Option ℤ
net_at days site day = option_and_then unless_excluded (cell_at days site day)

unfoldable pub stratum_from : List OfficeRecord → Days → Site → ℕ → Option (ℕ × ℕ)
stratum_from records days site first = stratum_by_net records site (net_at days site) first

-- a quarter by the values of its days
abbrev pub pm10_quarter_by : List OfficeRecord → Site → (ℕ → Option Cell) → ℕ → Pm10Quarter
pm10_quarter_by records site cell quarter =
    quarter_of_strata (days_in_quarter quarter) (length (filter (is_scheduled records site Pm10) (days_of_quarter quarter)))
    (count_by (λ day. is_some (cell day)) (filter (is_scheduled records site Pm10) (days_of_quarter quarter)))
    (count_by (λ day. option_map_or exceeds (option_and_then unless_excluded (cell day)) false) (filter (is_scheduled records site Pm10) (days_of_quarter quarter)))
    (map (filter_map (λ day. option_and_then unless_excluded (cell day))) (strata_from (quarter_end quarter) (first_days_by records site quarter)))

-- the year of the values that are kept, by the schedules of these records
unfoldable pub pm10_quarter_of_days : List OfficeRecord → Days → Site → ℕ → Pm10Quarter
pm10_quarter_of_days records days site quarter = pm10_quarter_by records site (cell_at days site) quarter

unfoldable pub pm10_year_of_days : List OfficeRecord → Days → Site → ℕ → List Pm10Quarter
pm10_year_of_days records days site year = map (pm10_quarter_of_days records days site) (quarters_of year)

-- each day of the quarter, and of the year, counts as scheduled by these records, and so do the strata that start in it
pub record IsCountedBy (records : List OfficeRecord) (kept : Pm10Kept) (site : Site) (quarter : ℕ) : Type 0 where
  pub samples : (day : ℕ) → day ≤ LAST_DAY → quarter_of day ≡ quarter → sample_at kept.days site day ≡ scheduled_sample records kept.days site day
  pub strata : (first : ℕ) → first ≤ LAST_DAY → quarter_of first ≡ quarter → stratum_at kept.strata site first ≡ stratum_from records kept.days site first

pub record AreCountedBy (records : List OfficeRecord) (kept : Pm10Kept) (site : Site) (year : ℕ) : Type 0 where
  pub samples : (day : ℕ) → day ≤ LAST_DAY → year_of day ≡ year → sample_at kept.days site day ≡ scheduled_sample records kept.days site day
  pub strata : (first : ℕ) → first ≤ LAST_DAY → year_of first ≡ year → stratum_at kept.strata site first ≡ stratum_from records kept.days site first

-- each day of the quarter counts as scheduled by these records
unfoldable pub AreSamplesBy : List OfficeRecord → Days → Site → ℕ → Type 0
AreSamplesBy records days site quarter =
    (day : ℕ) → day ≤ LAST_DAY → quarter_of day ≡ quarter → sample_at days site day ≡ scheduled_sample records days site day

-- ---- what always holds

-- the tallies are those of the days and the strata that are kept
pub record AreTallies (days : Days) (strata : Strata) (tallies : Pm10Tallies) : Type 0 where
  pub samples : AreBags AreSumsOf IsQuarter quarter_first days_in_quarter (λ site day. captured_of (day_at days site day)) tallies.samples
  pub strata_are : AreBags AreTotalsOf IsQuarter quarter_first days_in_quarter (stratum_at strata) tallies.strata

pub record AreCells (days : Days) (strata : Strata) (tallies : Pm10Tallies) : Type 0 where
  pub particles : AreDaysOfParticles days
  pub tallied : AreTallies days strata tallies
