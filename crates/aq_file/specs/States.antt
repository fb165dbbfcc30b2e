-- How far a file has come that is opened late.
use Rattle.std.specs.Prelude.{◌≡◌, false, List, map, Option, Some, None, Result, IsErr}
use Rattle.std.specs.Option.{option_map}
use Rattle.std.specs.declared.snapshot.Snapshot.{Snapshot}
use Rattle.sqlite_disk.specs.declared.Disk.{Ghosts}
use Rattle.aq_file.specs.declared.late_file.LateFile.{LateFile}
use Rattle.aq_file.specs.declared.late_file.Stage.{Stage}
use Rattle.aq_file.specs.declared.late_file.Stage.TheVariants.{Late, Opened, LetGo}

-- the file as it is, or as it was when it was let go; none before its opening
abbrev pub at_stage : {F : Type 0} → Stage F → Option F
at_stage Late = None
at_stage (Opened file) = Some file
at_stage (LetGo left) = option_map (λ was. was.value) left

abbrev pub state : {F O : Type 0} → LateFile F O → Option F
state late = at_stage late.stage

-- those that were noted, the earliest first
abbrev pub states : {F O : Type 0} → List (Snapshot (LateFile F O)) → List (Option F)
states noted = map (λ before. state before.value) noted

abbrev pub IsLate : {F : Type 0} → Stage F → Type 0
IsLate Late = Unit {0}
IsLate (Opened file) = ⊥
IsLate (LetGo left) = ⊥

abbrev pub IsLetGo : {F : Type 0} → Stage F → Type 0
IsLetGo Late = ⊥
IsLetGo (Opened file) = ⊥
IsLetGo (LetGo left) = Unit {0}

-- a sync of it failed, or it was let go
abbrev pub is_shut : {F : Type 0} → Ghosts F → Stage F → Type 0
is_shut g Late = ⊥
is_shut g (Opened file) = g.is_usable file ≡ false
is_shut g (LetGo left) = Unit {0}

abbrev pub IsShut : {F O : Type 0} → Ghosts F → LateFile F O → Type 0
IsShut g late = is_shut g late.stage

-- of such a file no call is answered, and it stays so
abbrev pub StaysShut : {F O T E : Type 0} → Ghosts F → LateFile F O → LateFile F O → Result T E → Type 0
StaysShut g old new result = IsShut g old → IsErr result × IsShut g new
