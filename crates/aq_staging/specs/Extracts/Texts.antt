-- The changes as the code makes them, row by row.
use Rattle.std.specs.Prelude.{ℕ, Bool, true, false, not, ◌&&◌, if◌then◌else◌, Option, Some, None, is_none, List, [], ◌∷◌, ◌++◌, ◌+◌, ◌-◌, ◌*◌, flat_map}
use Rattle.aq_base.specs.declared.monitor.MonitorId.{MonitorId}
use Rattle.aq_base.specs.declared.observation.ObsKey.{ObsKey}
use Rattle.aq_base.specs.declared.observation.Observation.{Observation}
use Rattle.aq_rules.specs.Extracts.Changes.{DaySpan, change_text, is_in_span, names, put_of}
use Rattle.aq_rules.specs.Lines.RdForm.{RdValue, Delete}
use Rattle.aq_rules.specs.Office.Load.{is_same_content}
use Rattle.aq_rules.specs.Office.Monitors.{is_same_monitor}
use Rattle.aq_rules.specs.Office.Office.{Office, observation_at}
use Rattle.aq_shelf.specs.Standing.{content_at, observations_in}

abbrev pub optional_text : Option RdValue → List ℕ
optional_text None = []
optional_text (Some value) = change_text value

-- whether a row of an extract is an update, or else an insertion, beside what stands at its key
abbrev pub is_put : Bool → Option Observation → Observation → Bool
is_put update None content = not update
is_put update (Some standing) content = update && not (is_same_content standing content)

-- what a row of an extract asks for, beside what stands at its key
abbrev pub put_beside : Bool → Option Observation → Office → (ObsKey × Observation) → Option RdValue
put_beside update standing office row = if is_put update standing row.1 then Some (put_of update office row) else None

abbrev pub put_change : Bool → Office → (ObsKey × Observation) → Option RdValue
put_change update office row = put_beside update (observation_at office row.0) office row

abbrev pub put_line : Bool → Office → (ObsKey × Observation) → List ℕ
put_line update office row = optional_text (put_change update office row)

-- whether what stands at a key is deleted
abbrev pub is_deleted : DaySpan → List (ObsKey × Observation) → ObsKey → Bool
is_deleted span rows key = (is_in_span span key.hour && is_none (content_at key rows)) && names rows key.monitor

abbrev pub deletion : DaySpan → List (ObsKey × Observation) → ObsKey → Option RdValue
deletion span rows key = if is_deleted span rows key then Some (Delete key.monitor key.hour) else None

abbrev pub deletion_line : DaySpan → List (ObsKey × Observation) → (ObsKey × Observation) → List ℕ
deletion_line span rows row = optional_text (deletion span rows row.0)

-- the deletion of what stands at a key, if the extract says nothing of it
abbrev pub absent_deletion : List (ObsKey × Observation) → ObsKey → Option RdValue
absent_deletion rows key = if is_none (content_at key rows) then Some (Delete key.monitor key.hour) else None

abbrev pub line_if_absent : List (ObsKey × Observation) → MonitorId → (ℕ × Observation) → List ℕ
line_if_absent rows monitor item = optional_text (absent_deletion rows (record { monitor = monitor; hour = item.0 }))

-- the deletions of a monitor
abbrev pub dropped_lines : DaySpan → List (ObsKey × Observation) → List (ObsKey × Observation) → MonitorId → List ℕ
dropped_lines span rows standing monitor =
    flat_map (line_if_absent rows monitor) (observations_in monitor (24 * span.first) (24 * span.last + 24 - 24 * span.first) standing)

-- a monitor that differs from the one before
abbrev pub next_monitor : Option MonitorId → MonitorId → Option MonitorId
next_monitor None monitor = Some monitor
next_monitor (Some before) monitor = if is_same_monitor before monitor then None else Some monitor

abbrev pub optional_lines : (MonitorId → List ℕ) → Option MonitorId → List ℕ
optional_lines lines None = []
optional_lines lines (Some monitor) = lines monitor

abbrev pub once : (MonitorId → List ℕ) → Option MonitorId → MonitorId → List ℕ
once lines before monitor = optional_lines lines (next_monitor before monitor)

-- the lines of the monitors of some rows, each once
abbrev pub walked : (MonitorId → List ℕ) → Option MonitorId → List (ObsKey × Observation) → List ℕ
walked lines before [] = []
walked lines before (row ∷ rows) = once lines before row.0.monitor ++ walked lines (Some row.0.monitor) rows

-- the deletions, then the updates, then the insertions
abbrev pub change_lines : DaySpan → Office → List (ObsKey × Observation) → List ℕ
change_lines span office rows =
    flat_map (deletion_line span rows) office.observations ++ flat_map (put_line true office) rows ++ flat_map (put_line false office) rows
