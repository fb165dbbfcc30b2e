-- The samples of a site as they are written one after the other.
use Rattle.std.specs.Prelude.{ℕ, ◌-◌, ◌%◌, Bool, ◌==◌, List, ◌++◌}
use Rattle.aq_base.specs.Calendar.{hour_number}
use Rattle.aq_base.specs.Site.{Site}
use Rattle.aq_base.specs.declared.monitor.Pollutant.{Pollutant}
use Rattle.aq_base.specs.declared.monitor.Pollutant.TheVariants.{Ozone, Pm25, Pm10}
use Rattle.aq_base.specs.declared.monitor.Duration.{Duration}
use Rattle.aq_base.specs.declared.monitor.Duration.TheVariants.{Hour, Day}
use Rattle.aq_rules.specs.Shown.Generator.{Wanted, samples_from}
use Rattle.aq_simulation.specs.declared.generator.samples.Samples.{Samples}

-- what is wanted of each pollutant: how long a sample lasts, the least value, and how many there are from it on
abbrev pub duration_of : Pollutant → Duration
duration_of Ozone = Hour
duration_of Pm25 = Day
duration_of Pm10 = Day

abbrev pub least_of : Pollutant → ℕ
least_of Ozone = 20
least_of Pm25 = 40
least_of Pm10 = 100

abbrev pub count_of : Pollutant → ℕ
count_of Ozone = 60
count_of Pm25 = 200
count_of Pm10 = 1500

abbrev pub wanted : Site → Pollutant → ℕ → Wanted
wanted site pollutant hour = record {
  monitor = record { site = site; pollutant = pollutant; poc = 1 };
  duration = duration_of pollutant;
  hour = hour;
  base = least_of pollutant;
  span = count_of pollutant;
}

abbrev pub wanted_at_midnight : Site → Pollutant → ℕ → Wanted
wanted_at_midnight site pollutant day = wanted site pollutant (hour_number day 0)

-- every so many days from the start on
abbrev pub is_due : ℕ → ℕ → ℕ → Bool
is_due interval start day = (day - start) % interval == 0

-- the text of a load, once these samples are written after what is written already
abbrev pub completed : Samples → List Wanted → List ℕ
completed samples more = samples.text.items ++ samples_from samples.draws.state more
