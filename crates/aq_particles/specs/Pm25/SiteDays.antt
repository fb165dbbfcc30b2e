-- What is read as one site for PM2.5, day by day, and the quarters and years that it has by the rules of a site.
use Rattle.std.specs.Prelude.{ℕ, ◌≤◌, Bool, Option, is_some, option_map, option_and_then, List, map, filter, filter_map, count_by, ℤ}
use Rattle.aq_base.specs.Site.{Site}
use Rattle.aq_base.specs.declared.monitor.Pollutant.TheVariants.{Pm25}
use Rattle.aq_rules.specs.Office.Office.{Office}
use Rattle.aq_rules.specs.Office.Schedule.{is_scheduled}
use Rattle.aq_rules.specs.Ozone.SiteHour.{Cell}
use Rattle.aq_rules.specs.Particles.ParticleDay.{site_day, unless_excluded}
use Rattle.aq_rules.specs.Particles.QuarterCounts.{Makeup, QuarterDays, counts_by, credit_by, days_of_quarter, quarters_of}

-- what it has for a day, and which days are scheduled
pub record SiteDays : Type 0 where
  pub cell_on : ℕ → Option Cell
  pub schedules : ℕ → Bool

-- those of a site
abbrev pub days_at : Office → Site → SiteDays
days_at office site = record { cell_on = site_day office site Pm25; schedules = is_scheduled office.records site Pm25 }

abbrev pub is_sampled_by : SiteDays → ℕ → Bool
is_sampled_by days day = is_some (days.cell_on day)

abbrev pub net_by : SiteDays → ℕ → Option ℤ
net_by days day = option_and_then unless_excluded (days.cell_on day)

-- ---- make-ups, by the day of the sample that may make up for a missed day

abbrev pub as_makeup : ℕ → ℕ → Makeup
as_makeup missed makeup = record { missed = missed; makeup = makeup }

-- those of a quarter's missed days
abbrev pub makeups_by : (ℕ → Option ℕ) → ℕ → List Makeup
makeups_by makeup_for quarter = filter_map (λ day. option_map (as_makeup day) (makeup_for day)) (days_of_quarter quarter)

abbrev pub gives_credit_by : SiteDays → Makeup → Bool
gives_credit_by days m = credit_by days.schedules (is_sampled_by days) m

unfoldable pub credits_by : SiteDays → (ℕ → Option ℕ) → ℕ → List Makeup
credits_by days makeup_for quarter = filter (gives_credit_by days) (makeups_by makeup_for quarter)

-- each has a day of its own, in the quarter: of whatever days of the quarter there are no fewer than make-ups on them
abbrev pub AreApart : ℕ → List Makeup → Type 0
AreApart quarter makeups = (p : ℕ → Bool) → count_by (λ (m : Makeup). p m.makeup) makeups ≤ count_by p (days_of_quarter quarter)

-- ---- quarters and years

abbrev pub quarter_by : SiteDays → (ℕ → Option ℕ) → ℕ → QuarterDays
quarter_by days makeup_for quarter = record {
  counts = counts_by (is_sampled_by days) (λ day. is_some (net_by days day)) (filter days.schedules (days_of_quarter quarter)) (credits_by days makeup_for quarter);
  values = filter_map (net_by days) (days_of_quarter quarter);
}

unfoldable pub year_by : SiteDays → (ℕ → Option ℕ) → ℕ → List QuarterDays
year_by days makeup_for year = map (quarter_by days makeup_for) (quarters_of year)
