-- The levels of the standards, in words and in a picture (own).
use Rattle.std.specs.Prelude.{ℕ, ◌-◌, ◌*◌, ◌^◌, List, ◌++◌, codes, Option, Some, None, unsigned_abs}
use Rattle.aq_rules.specs.Standards.{PM10_DAY_LEVEL}
use Rattle.aq_base.specs.Decimal.{fixed}
use Rattle.aq_base.specs.Standard.{pollutant_of, level_of}
use Rattle.aq_base.specs.declared.monitor.Pollutant.{Pollutant}
use Rattle.aq_base.specs.declared.monitor.Pollutant.TheVariants.{Ozone, Pm25, Pm10}
use Rattle.aq_base.specs.declared.standard.Standard.{Standard}
use Rattle.aq_base.specs.declared.standard.Standard.TheVariants.{Ozone2015, Annual2012, AnnualSecondary, Annual2024, Daily2006, Pm10Of1987}
use Rattle.aq_pages.specs.declared.level.Level.{Level}
use Rattle.aq_pages.specs.declared.level.Level.TheVariants.{Of, Pm10Day}
use Rattle.aq_pages.specs.Html.{line, text_start}

-- the form of a standard: what is held beside its level, in words, and the places that both have
pub record Form : Type 0 where
  pub words : List ℕ
  pub places : ℕ

abbrev form : ℕ → List ℕ → Form
form places words = record { words = words; places = places }

unfoldable pub form_of : Standard → Form
form_of Ozone2015 = form 3 (codes "Ozone, mean of the three years' fourth highest daily 8-hour averages (40 CFR 50.19)")
form_of Annual2012 = form 1 (codes "PM2.5, mean of three annual means, primary standard of 2012 (40 CFR 50.18)")
form_of AnnualSecondary = form 1 (codes "PM2.5, mean of three annual means, secondary standard (40 CFR 50.13)")
form_of Annual2024 = form 1 (codes "PM2.5, mean of three annual means, primary standard of 2024 (40 CFR 50.20)")
form_of Daily2006 = form 0 (codes "PM2.5, mean of three years' 98th percentiles of 24-hour values (40 CFR 50.18)")
form_of Pm10Of1987 = form 1 (codes "PM10, mean of three years' days expected above 150 &#181;g/m&#179; (40 CFR 50.6)")

unfoldable pub unit_words : Pollutant → List ℕ
unit_words Ozone = codes " ppm"
unit_words Pm25 = codes " &#181;g/m&#179;"
unit_words Pm10 = codes " days a year"

-- the level beside which the days of a pollutant are drawn: of PM10 that of a day, of the others that of their standard
abbrev pub day_level : Pollutant → Level
day_level Ozone = Of Ozone2015
day_level Pm25 = Of Daily2006
day_level Pm10 = Pm10Day

abbrev pub standard_in : Level → Standard
standard_in (Of standard) = standard
standard_in Pm10Day = Pm10Of1987

unfoldable pub standard_level : Standard → ℕ
standard_level standard = unsigned_abs (level_of standard) * 10 ^ (3 - (form_of standard).places)

-- the level in thousandths; that of a day of PM10 is in tens of a µg/m3
unfoldable pub level_at : Level → ℕ
level_at (Of standard) = standard_level standard
level_at Pm10Day = unsigned_abs PM10_DAY_LEVEL * 10000

-- the level in words
unfoldable pub level_text : Level → List ℕ
level_text (Of standard) = codes "Level: " ++ (fixed (level_of standard) (form_of standard).places ++ unit_words (pollutant_of standard))
level_text Pm10Day = codes "Level: 150 &#181;g/m&#179;"

abbrev pub level_or_zero : Option Level → ℕ
level_or_zero None = 0
level_or_zero (Some level) = level_at level

-- a line from one place to another, and above the picture the level in words
unfoldable pub level_mark : Level → ℕ × ℕ → ℕ × ℕ → List ℕ
level_mark level from to =
    codes "<g class=\"level\">"
    ++ (text_start (codes "label") 20 34 ++ (level_text level ++ (codes "</text>" ++ (line from to ++ codes "</g>\n"))))
