-- What the days of a quarter give it, and what some of them give together.
use Rattle.std.specs.Prelude.{◌≡◌, ℕ, ◌&&◌, Bool, false, List, fold, count_by}
use Rattle.std.specs.Option.{option_map_or}
use Rattle.aq_base.specs.Site.{Site}
use Rattle.aq_base.specs.declared.monitor.Pollutant.TheVariants.{Pm10}
use Rattle.aq_rules.specs.Office.Office.{Office}
use Rattle.aq_rules.specs.Office.Schedule.{is_scheduled}
use Rattle.aq_rules.specs.Particles.ParticleDay.{net_day}
use Rattle.aq_rules.specs.Particles.QuarterCounts.{is_sampled}
use Rattle.aq_rules.specs.Particles.Pm10Estimate.{exceeds}
use Rattle.aq_particles.specs.declared.pm10.site_quarter.DayOfQuarter.{DayOfQuarter}
use Rattle.aq_particles.specs.declared.pm10.site_quarter.QuarterTally.{QuarterTally}
use Rattle.aq_particles.specs.Pm10.StrataSoFar.{AreStrataOf, StrataCut, no_strata, with_day}

-- a day of a quarter
abbrev pub day_in : Office → Site → ℕ → DayOfQuarter
day_in office site day = record {
  number = day;
  is_scheduled = is_scheduled office.records site Pm10 day;
  is_sampled = is_sampled office site Pm10 day;
  sample = net_day office site Pm10 day;
}

abbrev pub is_captured : DayOfQuarter → Bool
is_captured day = day.is_scheduled && day.is_sampled

abbrev pub exceeds_as_scheduled : DayOfQuarter → Bool
exceeds_as_scheduled day = day.is_scheduled && option_map_or exceeds day.sample false

-- the days cut into strata, of which the first one begins with the quarter
abbrev pub with_one : StrataCut → DayOfQuarter → StrataCut
with_one cut day = with_day day.is_scheduled day.sample day.number cut

abbrev pub cut_of : ℕ → List DayOfQuarter → StrataCut
cut_of first days = fold with_one (no_strata first) days

-- the tally of days
pub record IsTallyOf (first : ℕ) (days : List DayOfQuarter) (tally : QuarterTally) : Type 0 where
  pub scheduled : tally.scheduled ≡ count_by (λ (day : DayOfQuarter). day.is_scheduled) days
  pub captured : tally.captured ≡ count_by is_captured days
  pub exceedances : tally.scheduled_exceedances ≡ count_by exceeds_as_scheduled days
  pub strata : AreStrataOf (cut_of first days) tally.strata
