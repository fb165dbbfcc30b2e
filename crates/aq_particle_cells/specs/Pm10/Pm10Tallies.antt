-- What the days and strata of PM10 give the quarters of their sites.
use Rattle.std.specs.Prelude.{if◌then◌else◌, false, Option, option_map, ℤ, pos}
use Rattle.std.specs.Option.{option_map_or}
use Rattle.aq_rules.specs.Ozone.SiteHour.{Cell}
use Rattle.aq_rules.specs.Particles.ParticleDay.{unless_excluded}
use Rattle.aq_rules.specs.Particles.Pm10Estimate.{exceeds}
use Rattle.aq_particle_cells.specs.declared.days.kept_days.KeptDay.{KeptDay}

-- the item of the sample of a scheduled day: 1 if it exceeds and is not excluded, and else 0
abbrev pub item_of : Cell → ℤ
item_of cell = if option_map_or exceeds (unless_excluded cell) false then pos 1 else pos 0

abbrev pub captured_of : KeptDay → Option ℤ
captured_of day = option_map item_of day.sample
