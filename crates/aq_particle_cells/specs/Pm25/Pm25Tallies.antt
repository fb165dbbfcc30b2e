-- What the days of PM2.5 give the quarters and years of their sites.
use Rattle.std.specs.Prelude.{◌≡◌, ℕ, if◌then◌else◌, List, Option, option_map, ℤ, pos}
use Rattle.aq_base.specs.Calendar.{quarter_of, year_of}
use Rattle.aq_base.specs.Site.{Site}
use Rattle.aq_agg.specs.declared.ranked_bag.RankedBag.{RankedBag}
use Rattle.aq_rules.specs.Lists.{ranked}
use Rattle.aq_rules.specs.Ozone.SiteHour.{Cell}
use Rattle.aq_particle_cells.specs.Pm25.DayValues.{AreValuesOf}
use Rattle.aq_particle_cells.specs.Days.KeptDays.{net_of}
use Rattle.aq_particle_cells.specs.Days.Tallied.{AreSumsOf, ExchangesItem, HasItem}
use Rattle.aq_particle_cells.specs.declared.days.kept_days.KeptDay.{KeptDay}
use Rattle.aq_particle_cells.specs.declared.pm25.tallies.Pm25Tallies.{Pm25Tallies}

-- the item of a creditable sample: 1 if it is not excluded, and else 0
abbrev pub item_of : Cell → ℤ
item_of cell = if cell.excluded then pos 0 else pos 1

abbrev pub counted_of : KeptDay → Option ℤ
counted_of day = option_map item_of day.sample

-- what is kept of a bag of values, ranked
abbrev pub AreGreatestOf : List ℤ → RankedBag → Type 0
AreGreatestOf bag kept = kept.values.items ≡ ranked bag

-- a quarter and a year have what a day gives them
pub record HasDay (site : Site) (day : ℕ) (kept : KeptDay) (tallies : Pm25Tallies) : Type 0 where
  pub values : HasItem AreValuesOf site (quarter_of day) (net_of kept) tallies.values
  pub samples : HasItem AreSumsOf site (quarter_of day) (counted_of kept) tallies.samples
  pub greatest : HasItem AreGreatestOf site (year_of day) (net_of kept) tallies.greatest

-- they have what the second day gives in place of what the first gave, and all others stay
pub record ExchangesDay (site : Site) (day : ℕ) (old new : KeptDay) (before after : Pm25Tallies) : Type 0 where
  pub values : ExchangesItem AreValuesOf site (quarter_of day) (net_of old) (net_of new) before.values after.values
  pub samples : ExchangesItem AreSumsOf site (quarter_of day) (counted_of old) (counted_of new) before.samples after.samples
  pub greatest : ExchangesItem AreGreatestOf site (year_of day) (net_of old) (net_of new) before.greatest after.greatest
