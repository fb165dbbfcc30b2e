-- What eight days that were read together hold, which days are among them, and where a walk over days is.
use Rattle.std.specs.Prelude.{◌≡◌, ℕ, ◌+◌, ◌<◌, ◌≤◌, Option}
use Rattle.aq_base.specs.Site.{Site}
use Rattle.aq_base.specs.declared.day.TheConstants.{LAST_DAY}
use Rattle.aq_rules.specs.Office.Office.{Office}
use Rattle.aq_rules.specs.Ozone.SiteHour.{Cell, site_hour}
use Rattle.aq_series.specs.Samples.{AreOzone}
use Rattle.aq_ozone.specs.DayHours.{calendar_hours, span_hours}
use Rattle.aq_ozone.specs.declared.day_span.DaySpan.{DaySpan}
use Rattle.aq_ozone.specs.declared.days.Days.{Days}

-- the hours are those of what is read
pub record Holds (cell_at : ℕ → Option Cell) (span : DaySpan) : Type 0 where
  pub hours_are : span.hours ≡ span_hours cell_at span.first
  pub ozone : AreOzone span.hours

-- the day is one of the eight
pub record Reaches (day : ℕ) (span : DaySpan) : Type 0 where
  pub low : span.first ≤ day
  pub high : day < span.first + 8

-- the walk is at a day, and reads what has these hours
pub record WalksAt (cell_at : ℕ → Option Cell) (day : ℕ) (days : Days) : Type 0 where
  pub day_is : days.day ≡ day
  pub in_profile : day ≤ LAST_DAY + 1
  pub reaches : Reaches day days.span
  pub today : days.today ≡ calendar_hours cell_at day
  pub ozone : AreOzone days.today
  pub holds : Holds cell_at days.span

-- the walk is at a day of a site
abbrev pub IsAt : Office → Site → ℕ → Days → Type 0
IsAt office site day days = WalksAt (site_hour office site) day days

-- the number of the first day that the walk has not read
abbrev pub days_read : Days → ℕ
days_read days = days.span.first + 8
