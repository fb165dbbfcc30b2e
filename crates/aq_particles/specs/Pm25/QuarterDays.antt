-- What the days of a quarter give it, and what some of them give together.
use Rattle.std.specs.Prelude.{◌≡◌, ◌<◌, ℕ, ◌+◌, ◌-◌, Bool, not, ◌&&◌, ◌||◌, ◌==◌, if◌then◌else◌, Option, None, is_some, option_and_then, List, count_by, filter_map, ℤ}
use Rattle.std.specs.List.{list_any, range_with_len}
use Rattle.std.specs.Option.{option_or}
use Rattle.aq_rules.specs.Kept.Summaries.{KeepsPmQuarter, PmQuarter, summary_of_quarter}
use Rattle.aq_rules.specs.Ozone.SiteHour.{Cell}
use Rattle.aq_rules.specs.Particles.ParticleDay.{unless_excluded}
use Rattle.aq_rules.specs.Particles.QuarterCounts.{QuarterDays}
use Rattle.aq_particles.specs.Pm25.QuarterValues.{top_after, AreOf, AreParticles}
use Rattle.aq_particles.specs.Pm25.SiteDays.{SiteDays, net_by}
use Rattle.aq_particles.specs.declared.pm25.quarter_days.DayOfQuarter.{DayOfQuarter}
use Rattle.aq_particles.specs.declared.pm25.quarters.QuarterTally.{QuarterTally}

-- a day on which a sample may make up for a missed day: not scheduled, and before the next scheduled day or exactly a week later
abbrev pub is_makeup_day : (ℕ → Bool) → ℕ → ℕ → Bool
is_makeup_day schedules missed makeup =
    not (schedules makeup)
    && ((makeup == missed + 7) || not (list_any schedules (range_with_len (missed + 1) (makeup - missed))))

-- the sample that makes up for a missed day
abbrev pub makeup_cell : SiteDays → (ℕ → Option ℕ) → ℕ → Option Cell
makeup_cell days makeup_for missed =
    option_and_then (λ makeup. if is_makeup_day days.schedules missed makeup then days.cell_on makeup else None) (makeup_for missed)

-- the creditable sample of a scheduled day: its own, else one that makes up for it
abbrev pub credited : SiteDays → (ℕ → Option ℕ) → ℕ → Option Cell
credited days makeup_for day =
    if days.schedules day then option_or (days.cell_on day) (makeup_cell days makeup_for day) else None

abbrev pub day_in : SiteDays → (ℕ → Option ℕ) → ℕ → DayOfQuarter
day_in days makeup_for day = record {
  scheduled = days.schedules day;
  creditable = is_some (credited days makeup_for day);
  counted = is_some (option_and_then unless_excluded (credited days makeup_for day));
  value = net_by days day;
}

-- the values of days
abbrev pub values_of : List DayOfQuarter → List ℤ
values_of days = filter_map (λ (day : DayOfQuarter). day.value) days

-- the tally of days, whose values join the greatest of earlier ones
pub record IsTallyOf (before : List ℤ) (days : List DayOfQuarter) (tally : QuarterTally) : Type 0 where
  pub scheduled : tally.scheduled ≡ count_by (λ (day : DayOfQuarter). day.scheduled) days
  pub creditable : tally.creditable ≡ count_by (λ (day : DayOfQuarter). day.creditable) days
  pub counted : tally.counted ≡ count_by (λ (day : DayOfQuarter). day.counted) days
  pub values : AreOf before (values_of days) tally.values

-- a tally that another day may join
pub record HasRoom (tally : QuarterTally) : Type 0 where
  pub scheduled : tally.scheduled < 92
  pub creditable : tally.creditable < 92
  pub counted : tally.counted < 92
  pub values : tally.values.count < 92

-- what is kept of a tally
abbrev pub summary_of : QuarterTally → PmQuarter
summary_of tally = record { scheduled = tally.scheduled; creditable = tally.creditable; counted = tally.counted; net_days = tally.values.count; sum = tally.values.sum; least = tally.values.least; greatest = tally.values.greatest }

-- the tally of a quarter, whose values join the greatest of earlier ones
pub record IsQuarterOf (quarter : QuarterDays) (before : List ℤ) (tally : QuarterTally) : Type 0 where
  pub summary : summary_of tally ≡ summary_of_quarter quarter
  pub facts : KeepsPmQuarter (summary_of tally)
  pub top : tally.values.top ≡ top_after before quarter.values
  pub range : AreParticles quarter.values
