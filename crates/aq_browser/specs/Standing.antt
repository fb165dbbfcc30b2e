-- What stands in the office beside an answer: how many loads and observations, and the last days of them (own).
use Rattle.std.specs.Prelude.{ℕ, Option, None, length, option_map}
use Rattle.aq_base.specs.Site.{Site}
use Rattle.aq_base.specs.Standard.{pollutant_of}
use Rattle.aq_base.specs.declared.monitor.Pollutant.{Pollutant}
use Rattle.aq_base.specs.declared.monitor.Pollutant.TheVariants.{Ozone, Pm25, Pm10}
use Rattle.aq_base.specs.declared.question.Question.{Question}
use Rattle.aq_base.specs.declared.question.Question.TheVariants.{Combined, Monitors}
use Rattle.aq_listed.specs.LastDay.{last_day, last_day_at}
use Rattle.aq_rules.specs.Office.Office.{Office}
use Rattle.aq_rules.specs.Office.Questions.{Joined, combined}
use Rattle.aq_browser.specs.declared.context.Context.{Context}

-- of the monitors of a site, the day of the last observation of a pollutant
abbrev pub last_day_in : Office → Question → Pollutant → Option ℕ
last_day_in office (Monitors site) pollutant = last_day_at office site pollutant
last_day_in office question pollutant = None

-- the site that is joined to that of the question, and from which day on
abbrev pub joined_pair : Joined → Site × ℕ
joined_pair joined = (joined.site, joined.from)

abbrev pub joined_in : Office → Question → Option (Site × ℕ)
joined_in office (Combined standard site year) = option_map joined_pair (combined office.records site (pollutant_of standard))
joined_in office question = None

abbrev pub context_of : Office → Question → Context
context_of office question = record {
  loads = length office.loads;
  observations = length office.observations;
  last_day = last_day office;
  ozone = last_day_in office question Ozone;
  pm25 = last_day_in office question Pm25;
  pm10 = last_day_in office question Pm10;
  joined = joined_in office question;
}

-- beside what is no answer
abbrev pub context_beside : Office → Context
context_beside office = record {
  loads = length office.loads;
  observations = length office.observations;
  last_day = last_day office;
  ozone = None;
  pm25 = None;
  pm10 = None;
  joined = None;
}
