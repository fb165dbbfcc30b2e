-- The national ambient air quality standards that the program judges by: the name of each, its pollutant and its level (40 CFR 50.6, 50.13, 50.18, 50.19 and 50.20).
use Rattle.std.specs.Prelude.{ℕ, List, [], ◌∷◌, codes, ℤ, pos}
use Rattle.aq_base.specs.declared.monitor.Pollutant.{Pollutant}
use Rattle.aq_base.specs.declared.monitor.Pollutant.TheVariants.{Ozone, Pm25, Pm10}
use Rattle.aq_base.specs.declared.standard.Standard.{Standard}
use Rattle.aq_base.specs.declared.standard.Standard.TheVariants.{Ozone2015, Annual2012, AnnualSecondary, Annual2024, Daily2006, Pm10Of1987}

abbrev pub standard_name : Standard → List ℕ
standard_name Ozone2015 = codes "O3-2015"
standard_name Annual2012 = codes "PM25-ANNUAL-2012"
standard_name AnnualSecondary = codes "PM25-ANNUAL-SECONDARY"
standard_name Annual2024 = codes "PM25-ANNUAL-2024"
standard_name Daily2006 = codes "PM25-24H-2006"
standard_name Pm10Of1987 = codes "PM10-24H-1987"

abbrev pub pollutant_of : Standard → Pollutant
pollutant_of Ozone2015 = Ozone
pollutant_of Annual2012 = Pm25
pollutant_of AnnualSecondary = Pm25
pollutant_of Annual2024 = Pm25
pollutant_of Daily2006 = Pm25
pollutant_of Pm10Of1987 = Pm10

-- the level, in the unit of the standard's design value: 0.070 ppm in thousandths; 12.0, 15.0 and 9.0 µg/m3 in tenths; 35 µg/m3 whole; 1.0 exceedances a year in tenths
abbrev pub level_of : Standard → ℤ
level_of Ozone2015 = pos 70
level_of Annual2012 = pos 120
level_of AnnualSecondary = pos 150
level_of Annual2024 = pos 90
level_of Daily2006 = pos 35
level_of Pm10Of1987 = pos 10

-- all standards, in the order in which reports give them
abbrev pub standards : List Standard
standards = Ozone2015 ∷ Annual2012 ∷ AnnualSecondary ∷ Annual2024 ∷ Daily2006 ∷ Pm10Of1987 ∷ []
