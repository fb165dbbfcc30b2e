-- What a reader answers.
use Rattle.std.specs.Prelude.{◌≡◌, ℕ, List, ◌++◌, Option, Some, None, Result, Ok, Err}
use Rattle.std.specs.Option.{option_map}
use Rattle.aq_rules.specs.Kept.RowChanges.{RowChange}
use Rattle.aq_journal.specs.declared.trouble.Trouble.{Trouble}
use Rattle.aq_journal.specs.declared.trouble.Trouble.TheVariants.{Failed, Refused, Memory}

-- what is refused has a reason; memory may be wanting; no disk is asked
abbrev pub HasReason : Trouble → Type 0 → Type 0
HasReason Failed Why = ⊥
HasReason Refused Why = Why
HasReason Memory Why = Unit {0}

-- nothing is read if the bytes are of another form
abbrev pub Stops : {B : Type 0} → Trouble → Option B → Type 0
Stops fault read = HasReason fault (read ≡ None)

-- the value, with the bytes behind it, is what is read
abbrev pub Gives : {A B : Type 0} → (A → B) → Result A Trouble → List ℕ → Option (B × List ℕ) → Type 0
Gives view (Ok value) rest read = read ≡ Some (view value, rest)
Gives view (Err fault) rest read = Stops fault read

-- the same of what takes all bytes
abbrev pub GivesAll : {A B : Type 0} → (A → B) → Result A Trouble → Option B → Type 0
GivesAll view (Ok value) read = read ≡ Some (view value)
GivesAll view (Err fault) read = Stops fault read

-- what was read before, and what is still read
abbrev pub with_front : List RowChange → Option (List RowChange × List ℕ) → Option (List RowChange × List ℕ)
with_front front read = option_map (λ found. (front ++ found.0, found.1)) read
