-- A pair as the code has it: its office, the book's pair, and its days; and its design value, whatever pair it is.
use Rattle.std.specs.Prelude.{ℕ, Bool, if◌then◌else◌, Option, Some, None}
use Rattle.std.specs.Option.{option_or}
use Rattle.aq_base.specs.declared.standard.Standard.{Standard}
use Rattle.aq_base.specs.declared.standard.Standard.TheVariants.{Ozone2015, Annual2012, AnnualSecondary, Annual2024, Daily2006, Pm10Of1987}
use Rattle.aq_rules.specs.Combined.Pair.{Pair, annual_value_of, daily_value_of, is_pair_scheduled, ozone_value_of, pair_day, pair_ozone_years, pair_pm25_years}
use Rattle.aq_rules.specs.DesignValues.{DesignValue}
use Rattle.aq_rules.specs.Office.Office.{Office}
use Rattle.aq_rules.specs.Ozone.SiteHour.{Cell}
use Rattle.aq_rules.specs.Standards.{level_of}
use Rattle.aq_particles.specs.Pm25.SiteDays.{SiteDays}
use Rattle.aq_series.specs.OfficeView.{office_of}
use Rattle.aq_design.specs.declared.combined.pair.Pair.{Pair as Combined}

abbrev pub office_in : Combined → Office
office_in pair = office_of pair.registry.now pair.shelf.now

abbrev pub pair_in : Combined → Pair
pair_in pair = record { site = pair.site; joined = pair.joined; from = pair.from }

-- what it has for a day of PM2.5, and which days are scheduled
abbrev pub days_of : Office → Pair → SiteDays
days_of office pair = record { cell_on = pair_day office pair; schedules = is_pair_scheduled office pair }

-- what it has at a place: before the joined site's first one the site's own, and from then on the joined one, and the own if there is none
abbrev pub chosen : Bool → Option Cell → Option Cell → Option Cell
chosen before own joined = if before then own else option_or joined own

-- the design value of a standard, for the three years that end with a year. PM10 has no pairs
unfoldable pub value_by : Standard → Office → ℕ → Pair → Option DesignValue
value_by Ozone2015 office year pair = Some (ozone_value_of (pair_ozone_years office year pair))
value_by Annual2012 office year pair = Some (annual_value_of (level_of Annual2012) (pair_pm25_years office year pair))
value_by AnnualSecondary office year pair = Some (annual_value_of (level_of AnnualSecondary) (pair_pm25_years office year pair))
value_by Annual2024 office year pair = Some (annual_value_of (level_of Annual2024) (pair_pm25_years office year pair))
value_by Daily2006 office year pair = Some (daily_value_of (pair_pm25_years office year pair))
value_by Pm10Of1987 office year pair = None
