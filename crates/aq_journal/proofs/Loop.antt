-- Reading changes one after the other, as a loop does.
use Rattle.std.proofs.Common.{◌≡◌, ℕ, suc, ◌-◌, ◌+◌, ◌≤◌, ◌<◌, List, [], ◌∷◌, ◌++◌, Option, Some, None, refl, sym, ap, ◌∙◌, append_assoc, arith}
use Rattle.std.proofs.lemmas.List.{append-nil}
use Rattle.aq_rules.specs.Lines.Spellings.{◌>>=◌}
use Rattle.aq_rules.specs.Kept.RowChanges.{RowChange}
use Rattle.aq_journal.specs.declared.trouble.Trouble.{Trouble}
use Rattle.aq_journal.specs.declared.trouble.Trouble.TheVariants.{Failed, Refused, Memory}
use Rattle.aq_journal.specs.JournalFormat.{change_at, changes_at}
use Rattle.aq_journal.specs.Reading.{Stops, with_front}

regroup : (front : List RowChange) (change : RowChange) (read : Option (List RowChange × List ℕ)) → with_front front (read >>= λ x. Some (change ∷ x.0, x.1)) ≡ with_front (front ++ change ∷ []) read
regroup front change (Some x) = ap (λ (changes : List RowChange). Some (changes, x.1)) (sym (append_assoc front (change ∷ []) x.0))
regroup front change None = refl

pub goes_on : (front : List RowChange) (count i : ℕ) (bytes : List ℕ) (change : RowChange) (after : List ℕ) (total : Option (List RowChange × List ℕ)) → i < count → change_at bytes ≡ Some (change, after)
    → with_front front (changes_at (count - i) bytes) ≡ total → with_front (front ++ change ∷ []) (changes_at (count - (i + 1)) after) ≡ total
unfolding changes_at
goes_on front count i bytes change after total lt h so_far =
    let k : count - i ≡ suc (count - (i + 1)) = omega arith in
    let one : with_front front (changes_at (count - i) bytes) ≡ with_front (front ++ change ∷ []) (changes_at (count - (i + 1)) after) = rw (k, h) (regroup front change (changes_at (count - (i + 1)) after)) in
    sym one ∙ so_far

pub fails : (front : List RowChange) (count i : ℕ) (bytes : List ℕ) (total : Option (List RowChange × List ℕ)) → i < count → change_at bytes ≡ None
    → with_front front (changes_at (count - i) bytes) ≡ total → total ≡ None
unfolding changes_at
fails front count i bytes total lt h so_far =
    let k : count - i ≡ suc (count - (i + 1)) = omega arith in
    let one : with_front front (changes_at (count - i) bytes) ≡ None = rw (k, h) refl in
    sym so_far ∙ one

pub is_done : (front : List RowChange) (count i : ℕ) (bytes : List ℕ) (total : Option (List RowChange × List ℕ)) → count ≤ i → with_front front (changes_at (count - i) bytes) ≡ total → total ≡ Some (front, bytes)
unfolding changes_at
is_done front count i bytes total le so_far =
    let k : count - i ≡ 0 = omega arith in
    let one : with_front front (changes_at (count - i) bytes) ≡ Some (front, bytes) = rw k (ap (λ (changes : List RowChange). Some (changes, bytes)) (append-nil front)) in
    sym so_far ∙ one

-- what stops one reading stops all
pub stops : (fault : Trouble) (front : List RowChange) (count i : ℕ) (bytes : List ℕ) (total : Option (List RowChange × List ℕ)) → i < count
    → Stops fault (change_at bytes) → with_front front (changes_at (count - i) bytes) ≡ total → Stops fault total
stops Refused front count i bytes total lt h so_far = fails front count i bytes total lt h so_far
stops Memory front count i bytes total lt h so_far = tt
stops Failed front count i bytes total lt h so_far = absurd h
