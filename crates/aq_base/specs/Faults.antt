-- Counts of faults, objects in memory that fail at the calls that they are given, and what refusals without content are called (own).
use Rattle.std.specs.Prelude.{◌≡◌, ℕ, ◌+◌, ◌-◌, ◌^◌, ◌<◌, ◌==◌, min, ◌⊎◌, Bool, List, codes}
use Rattle.std.specs.List.{list_any}

-- a count of faults rose, or stood at its greatest value, which counts as risen
abbrev pub HasRisen : ℕ → ℕ → Type 0
HasRisen before after = (before < after) ⊎ ((before ≡ 2 ^ 64 - 1) × (after ≡ before))

-- a count goes up by one, and stays at its greatest value
abbrev pub next : ℕ → ℕ
next count = min (count + 1) (2 ^ 64 - 1)

-- whether a call with this number is to fail
abbrev pub is_listed : List ℕ → ℕ → Bool
is_listed failing call = list_any (λ listed. listed == call) failing

abbrev pub memory_text : List ℕ
memory_text = codes "memory"

abbrev pub failed_text : List ℕ
failed_text = codes "failed"
