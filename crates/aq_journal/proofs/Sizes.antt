-- How many bytes there are at least.
use Rattle.std.proofs.Common.{◌≡◌, ℕ, zero, suc, ◌<◌, ◌≤◌, List, [], ◌∷◌, length, get_or, ap, arith}
use Rattle.std.specs.List.{flat_map}
use Rattle.std.proofs.lemmas.List.{length-append}
use Rattle.std.proofs.lemmas.List.Concat.{flat_map-cons}
use Rattle.aq_rules.specs.Kept.RowChanges.{RowChange, PutRow, DropRow}
use Rattle.aq_journal.specs.declared.trouble.Trouble.{Trouble}
use Rattle.aq_journal.specs.declared.trouble.Trouble.TheVariants.{Failed, Refused, Memory}
use Rattle.aq_journal.specs.JournalFormat.{count_bytes, change_bytes, body_of}
use Rattle.aq_journal.specs.Writing.{Exceeds}

one_long : (change : RowChange) → 1 ≤ length (change_bytes change)
one_long (PutRow row) = omega arith
one_long (DropRow key) = omega arith

changes_long : (batch : List RowChange) → length batch ≤ length (flat_map change_bytes batch)
changes_long [] = omega arith
changes_long (change ∷ batch) = omega (arith, one_long change, changes_long batch, ap length (flat_map-cons change_bytes change batch), length-append (change_bytes change) (flat_map change_bytes batch))

-- a body has a byte for each change
pub body_long : (batch : List RowChange) → length batch ≤ length (body_of batch)
body_long batch = omega (arith, changes_long batch, length-append (count_bytes (length batch)) (flat_map change_bytes batch))

part_long : (batch : List RowChange) (i : ℕ) (other : RowChange) → i < length batch → length (change_bytes (get_or batch i other)) ≤ length (flat_map change_bytes batch)
part_long [] i other lt = absurd (omega (arith, lt))
part_long (change ∷ batch) zero other lt = omega (arith, ap length (flat_map-cons change_bytes change batch), length-append (change_bytes change) (flat_map change_bytes batch))
part_long (change ∷ batch) (suc i) other lt = omega (arith, part_long batch i other (omega (arith, lt)), ap length (flat_map-cons change_bytes change batch), length-append (change_bytes change) (flat_map change_bytes batch))

-- what is too great in part is too great as a whole
pub exceeds : (fault : Trouble) (batch : List RowChange) (i : ℕ) (change : RowChange) → i < length batch → change ≡ get_or batch i change → Exceeds fault (change_bytes change) → Exceeds fault (flat_map change_bytes batch)
exceeds Refused batch i change lt is great =
    let same : length (change_bytes change) ≡ length (change_bytes (get_or batch i change)) = ap (λ (c : RowChange). length (change_bytes c)) is in
    omega (arith, great, same, part_long batch i change lt)
exceeds Memory batch i change lt is great = tt
exceeds Failed batch i change lt is great = absurd great
