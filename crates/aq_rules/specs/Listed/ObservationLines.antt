-- The standing observations of a site, pollutant and year as text: the lines that make them anew (own, within the AQS raw data transaction format).
use Rattle.std.specs.Prelude.{ℕ, false, List, ◌++◌, filter, flat_map, codes, Some, unwrap_or}
use Rattle.aq_base.specs.Site.{Site}
use Rattle.aq_base.specs.declared.monitor.Duration.TheVariants.{Hour}
use Rattle.aq_base.specs.declared.monitor.Pollutant.{Pollutant}
use Rattle.aq_base.specs.declared.observation.ObsKey.{ObsKey}
use Rattle.aq_base.specs.declared.observation.Observation.{Observation}
use Rattle.aq_rules.specs.Lines.Canonical.{canonical_rd}
use Rattle.aq_rules.specs.Lines.RdForm.{RdValue, Put}
use Rattle.aq_rules.specs.Office.Office.{Office, duration_at}
use Rattle.aq_rules.specs.Listed.Places.{standing_of, is_in_year}

-- the method of an observation that has none
abbrev pub NO_METHOD : ℕ
NO_METHOD = 0

abbrev pub with_method : Observation → Observation
with_method content = record content { method = Some (unwrap_or content.method NO_METHOD) }

-- the insertion of an observation: by its monitor's duration, and method 000 where it has none
abbrev pub insertion_of : Office → (ObsKey × Observation) → RdValue
insertion_of office row =
    Put false row.0.monitor (unwrap_or (duration_at office row.0.monitor) Hour) row.0.hour (with_method row.1)

abbrev pub observation_text : Office → (ObsKey × Observation) → List ℕ
observation_text office row = canonical_rd (insertion_of office row) ++ codes "\n"

-- by POC and hour
unfoldable pub lines_answer : Office → Site → Pollutant → ℕ → List ℕ
lines_answer office site pollutant year =
    flat_map (observation_text office) (filter (is_in_year year) (standing_of office site pollutant))
