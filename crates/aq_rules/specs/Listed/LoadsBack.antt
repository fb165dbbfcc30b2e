-- Records and observations that are printed as lines make themselves anew: they load back (own).
use Rattle.std.specs.Prelude.{ℕ, ◌≡◌, List, [], flat_map, fold}
use Rattle.aq_base.specs.declared.observation.ObsKey.{ObsKey}
use Rattle.aq_base.specs.declared.observation.Observation.{Observation}
use Rattle.aq_base.specs.declared.office.OfficeRecord.{OfficeRecord}
use Rattle.aq_rules.specs.Lines.Lines.{body_lines}
use Rattle.aq_rules.specs.Listed.ObservationLines.{observation_text, with_method}
use Rattle.aq_rules.specs.Listed.Records.{record_text}
use Rattle.aq_rules.specs.Office.Load.{after_all, refusals}
use Rattle.aq_rules.specs.Office.Office.{Office, observation_rank, with_row}

-- a load of a body accepts each of its lines, and makes this of an office
pub record LoadsTo (before : Office) (body : List ℕ) (after : Office) : Type 0 where
  pub accepted : refusals before (body_lines body) ≡ []
  pub makes : after_all before (body_lines body) ≡ after

abbrev pub records_text : List OfficeRecord → List ℕ
records_text records = flat_map record_text records

-- observations of an office as text
abbrev pub observations_text : Office → List (ObsKey × Observation) → List ℕ
observations_text office rows = flat_map (observation_text office) rows

-- an observation as its line says it: by the method 000 where it has none
abbrev pub said : ObsKey × Observation → ObsKey × Observation
said row = (row.0, with_method row.1)

-- an office's observations with these at their places
abbrev pub with_rows : List (ObsKey × Observation) → List (ObsKey × Observation) → List (ObsKey × Observation)
with_rows rows standing = fold (λ now row. with_row observation_rank (said row) now) standing rows
