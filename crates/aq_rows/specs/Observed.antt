-- An observation as it is read from a row: each column is tested in turn.
use Rattle.std.specs.Prelude.{ℕ, Bool, ◌&&◌, nat_le, Option, Some, List, [], length, ℤ}
use Rattle.aq_base.specs.Quals.{all_distinct}
use Rattle.aq_base.specs.Site.{Site}
use Rattle.aq_base.specs.declared.code.Code.{Code}
use Rattle.aq_base.specs.declared.day.TheConstants.{LAST_HOUR}
use Rattle.aq_base.specs.declared.quals.TheConstants.{MOST_QUALIFIERS}
use Rattle.aq_base.specs.declared.monitor.Pollutant.{Pollutant}
use Rattle.aq_base.specs.declared.observation.ObsKey.{ObsKey}
use Rattle.aq_base.specs.declared.observation.Observation.{Observation}
use Rattle.aq_rules.specs.Lines.Spellings.{◌>>=◌, qualifier_in}
use Rattle.aq_rules.specs.Office.Office.{is_measured, is_method}
use Rattle.aq_rules.specs.Kept.Rows.{ObsRow2, whole, hour_of_stored, only_if, site_with, pollutant_with, method_of, null_of, words}
use Rattle.aq_rows.specs.Ranges.{between, is_between, gathered}

abbrev pub site_in : ℤ → Option Site
site_in number = between 0 999999999 number >>= λ n. Some (site_with n)

abbrev pub pollutant_in : ℤ → Option Pollutant
pollutant_in number = whole number >>= pollutant_with

-- a method from 0 to 999, or none
abbrev pub method_in : Option ℤ → Option (Option ℕ)
method_in number = method_of number >>= only_if is_method

-- at most ten codes, none twice
abbrev pub are_quals : List Code → Bool
are_quals quals = all_distinct quals && nat_le (length quals) MOST_QUALIFIERS

unfoldable pub quals_in : List ℕ → Option (List Code)
quals_in text = gathered qualifier_in are_quals [] (words text)

-- a value in range or a null code
abbrev pub content_in : Pollutant → Option ℤ → Option Code → List Code → Option ℕ → Option Observation
content_in pollutant value null quals method =
    only_if (λ c. is_measured pollutant c.value c.null) (record { value = value; null = null; quals = quals; method = method })

unfoldable pub observation_in : ObsRow2 → Option (ObsKey × Observation)
observation_in row = do
  site ← site_in row.site
  pollutant ← pollutant_in row.pollutant
  poc ← between 1 99 row.poc
  hour ← hour_of_stored row.hour >>= only_if (is_between 0 LAST_HOUR)
  method ← method_in row.method
  null ← null_of row.null
  quals ← quals_in row.quals
  content ← content_in pollutant row.value null quals method
  Some (record { monitor = record { site = site; pollutant = pollutant; poc = poc }; hour = hour }, content)
