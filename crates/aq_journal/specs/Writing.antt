-- What a writer answers.
use Rattle.std.specs.Prelude.{◌≡◌, ℕ, ◌≤◌, ◌^◌, List, ◌++◌, length, Result, Ok, Err}
use Rattle.aq_journal.specs.declared.trouble.Trouble.{Trouble}
use Rattle.aq_journal.specs.Reading.{HasReason}

-- there are too many bytes
abbrev pub Exceeds : Trouble → List ℕ → Type 0
Exceeds fault bytes = HasReason fault (2 ^ 32 ≤ length bytes)

-- bytes were added, of something that has bytes
abbrev pub Adds : {A : Type 0} → Result A Trouble → List ℕ → List ℕ → List ℕ → Type 0 → Type 0
Adds (Ok done) old new bytes Fits = (new ≡ old ++ bytes) × Fits
Adds (Err fault) old new bytes Fits = Exceeds fault bytes

-- the bytes were made, of something that has bytes
abbrev pub Makes : {A : Type 0} → (A → List ℕ) → Result A Trouble → List ℕ → Type 0 → Type 0
Makes view (Ok made) bytes Fits = (view made ≡ bytes) × Fits
Makes view (Err fault) bytes Fits = Exceeds fault bytes
