-- What is read of a journal, frame after frame.
use Rattle.std.specs.Prelude.{◌≡◌, ◌≢◌, ℕ, suc, List, ◌∷◌, ◌++◌, length, Option, Some, None, Result, Ok, Err}
use Rattle.std.specs.List.{AllByRecursion}
use Rattle.aq_rules.specs.Kept.Rows.{Row}
use Rattle.aq_rules.specs.Kept.RowChanges.{RowChange}
use Rattle.aq_journal.specs.declared.trouble.Trouble.{Trouble}
use Rattle.aq_journal.specs.Reading.{Stops}
use Rattle.aq_journal.specs.JournalFormat.{BatchFits, header, frame_of, frames_of, frames_in, batches_in, tables_of}

-- the batches of a file, and the place of the gate that ends them
pub record IsEnded (file : List ℕ) (batches : List (List RowChange)) (end : ℕ) : Type 0 where
  pub gate : ℕ
  pub rest : List ℕ
  pub whole : file ≡ (header ++ frames_of batches) ++ gate ∷ rest
  pub end_is : end ≡ length (header ++ frames_of batches)
  pub shut : gate ≢ 1
  pub fits : AllByRecursion BatchFits batches

-- a gate that is not open stands at the front
pub record IsShut (bytes : List ℕ) : Type 0 where
  pub gate : ℕ
  pub rest : List ℕ
  pub whole : bytes ≡ gate ∷ rest
  pub shut : gate ≢ 1

-- the next frame, with the bytes behind it; or a gate that is not open; or neither
abbrev pub IsNextIf : Option (List RowChange) → List ℕ → List ℕ → Type 0
IsNextIf (Some batch) before after = BatchFits batch × (before ≡ frame_of batch ++ after)
IsNextIf None before after = IsShut before × (after ≡ before)

abbrev pub IsNext : {A : Type 0} → (A → Option (List RowChange)) → Result A Trouble → List ℕ → List ℕ → Type 0
IsNext view (Ok found) before after = IsNextIf (view found) before after
IsNext view (Err fault) before after = (most : ℕ) → Stops fault (frames_in (suc most) before)

-- the tables of a file of more than nine bytes, and its end; or it is no journal
abbrev pub IsScanned : {A : Type 0} → (A → List Row) → (A → ℕ) → Result A Trouble → List ℕ → Type 0
IsScanned tables end (Ok scanned) file = (batches : List (List RowChange)) × (tables scanned ≡ tables_of batches) × IsEnded file batches (end scanned)
IsScanned tables end (Err fault) file = Stops fault (batches_in file)
