-- What a load of the changes makes of what stands: it is brought up to date (own).
use Rattle.std.specs.Prelude.{ℕ, Bool, not, ◌&&◌, if◌then◌else◌, List, filter, flat_map, fold, Option, option_map}
use Rattle.aq_base.specs.declared.observation.ObsKey.{ObsKey}
use Rattle.aq_base.specs.declared.observation.Observation.{Observation}
use Rattle.aq_rules.specs.Extracts.Changes.{DaySpan, change_text, is_in_span, names, says}
use Rattle.aq_rules.specs.Lines.RdForm.{RdValue}
use Rattle.aq_rules.specs.Lines.Reading.{OfRd}
use Rattle.aq_rules.specs.Office.Load.{changed}
use Rattle.aq_rules.specs.Office.Office.{Office, content_of, observation_at, observation_rank, with_row}

-- the text of some changes
abbrev pub changes_text : List RdValue → List ℕ
changes_text values = flat_map change_text values

-- an office after changes, one after the other
abbrev pub after_changes : Office → List RdValue → Office
after_changes office values = fold (λ now value. changed now (OfRd value)) office values

-- a place of the extract: at one of its monitors, in its days
abbrev pub is_of_extract : DaySpan → List (ObsKey × Observation) → ObsKey → Bool
is_of_extract span rows key = names rows key.monitor && is_in_span span key.hour

-- the observations that are to stand: at the places of the extract those that it says, and at all others those that stand
abbrev pub updated : DaySpan → Office → List (ObsKey × Observation) → List (ObsKey × Observation)
updated span office rows =
    fold (λ now row. with_row observation_rank row now)
    (filter (λ (row : ObsKey × Observation). not (is_of_extract span rows row.0)) office.observations) rows

abbrev pub updated_office : DaySpan → Office → List (ObsKey × Observation) → Office
updated_office span office rows = record office { observations = updated span office rows }

-- what is to stand at a place
abbrev pub wanted_at : DaySpan → Office → List (ObsKey × Observation) → ObsKey → Option Observation
wanted_at span office rows key =
    if is_of_extract span rows key then option_map content_of (says rows key) else observation_at office key
