-- What writes make of a journal's file.
use Rattle.std.proofs.Common.{◌≡◌, ◌≢◌, ◌⊎◌, inl, inr, ℕ, zero, suc, ◌+◌, ◌-◌, ◌≤◌, min, List, [], ◌∷◌, ◌++◌, length, get_or, take, drop, Some, sym, ap, subst, ◌∙◌, append_assoc, arith}
use Rattle.std.specs.Prelude.{replicate}
use Rattle.std.specs.Option.{option_map}
use Rattle.std.specs.List.{AllByRecursion}
use Rattle.std.proofs.lemmas.List.{append-nil, take_at, drop_at, drop_more, length-append, take-append-drop}
use Rattle.std.proofs.lemmas.List.Sums.{fold-append}
use Rattle.aq_rules.specs.Kept.RowChanges.{RowChange, with_row_changes}
use Rattle.aq_journal.specs.Disks.{Torn, written}
use Rattle.aq_journal.specs.JournalFormat.{BatchFits, IsJournalOf, header, frame_of, frames_of, journal_of, sized, body_of, tables_of, tables_in}
use Rattle.aq_journal.specs.Keeping.{IsBehind, shut_at, open_at}
use Rattle.aq_journal.proofs.Journals.{journal_again, read_short, fits_more, front_more}

-- ---- bytes: a gate between a front and what is behind it

front_taken : (front rest : List ℕ) (gate end : ℕ) → end ≡ length front → take end (front ++ gate ∷ rest) ≡ front
front_taken front rest gate end place = take_at front (gate ∷ rest) end (sym place)

gate_taken : (front rest : List ℕ) (gate end : ℕ) → end ≡ length front → take (end + 1) (front ++ gate ∷ rest) ≡ front ++ gate ∷ []
gate_taken front rest gate end place =
    let long : length (front ++ gate ∷ []) ≡ end + 1 = omega (arith, place, length-append front (gate ∷ [])) in
    ap (take (end + 1)) (sym (append_assoc front (gate ∷ []) rest)) ∙ take_at (front ++ gate ∷ []) rest (end + 1) long

behind_left : (front rest : List ℕ) (gate end : ℕ) → end ≡ length front → drop (end + 1) (front ++ gate ∷ rest) ≡ rest
behind_left front rest gate end place =
    let long : length (front ++ gate ∷ []) ≡ end + 1 = omega (arith, place, length-append front (gate ∷ [])) in
    ap (drop (end + 1)) (sym (append_assoc front (gate ∷ []) rest)) ∙ drop_at (front ++ gate ∷ []) rest (end + 1) long

-- a write behind the gate, whole or not
pub torn_behind : (front rest : List ℕ) (gate end n : ℕ) (image : List ℕ) → end ≡ length front → Torn (end + 1) n (front ++ gate ∷ rest) image → (behind : List ℕ) × (image ≡ front ++ gate ∷ behind)
torn_behind front rest gate end n image place torn =
    let old = front ++ gate ∷ rest in
    let whole : end + 1 ≡ min (end + 1) (length old) = omega (arith, place, length-append front (gate ∷ rest)) in
    let kept : take (end + 1) image ≡ front ++ gate ∷ [] = ap (λ (k : ℕ). take k image) whole ∙ torn.before ∙ gate_taken front rest gate end place in
    let behind = drop (end + 1) image in
    (behind, sym (take-append-drop (end + 1) image) ∙ ap (λ (l : List ℕ). l ++ behind) kept ∙ append_assoc front (gate ∷ []) behind)

-- a write of the gate
pub torn_gate : (front rest : List ℕ) (gate end : ℕ) (image : List ℕ) → end ≡ length front → Torn end 1 (front ++ gate ∷ rest) image → (later : ℕ) × (image ≡ front ++ later ∷ rest)
torn_gate front rest gate end image place torn =
    let old = front ++ gate ∷ rest in
    let long : length old ≡ end + suc (length rest) = omega (arith, place, length-append front (gate ∷ rest)) in
    let whole : end ≡ min end (length old) = omega (arith, long) in
    let kept : take end image ≡ front = ap (λ (k : ℕ). take k image) whole ∙ torn.before ∙ front_taken front rest gate end place in
    let left : drop (end + 1) image ≡ rest = torn.after ∙ behind_left front rest gate end place in
    let later = get_or image end 0 in
    (later, sym (take-append-drop end image) ∙ ap (λ (l : List ℕ). l ++ drop end image) kept ∙ ap (λ (l : List ℕ). front ++ l) (drop_more image end 0 (omega (arith, long, torn.no_shorter)) ∙ ap (λ (l : List ℕ). later ∷ l) left))

no_zeros : (n m : ℕ) → n ≤ m → replicate {A = ℕ} (n - m) 0 ≡ []
no_zeros n m le = let none : n - m ≡ 0 = omega (arith, le) in ap (λ (k : ℕ). replicate {A = ℕ} k 0) none

written_is : (at : ℕ) (piece file : List ℕ) → at ≤ length file → written at piece file ≡ take at file ++ (piece ++ drop (at + length piece) file)
written_is at piece file le =
    let behind = drop (at + length piece) file in
    ap (λ (l : List ℕ). ((take at file ++ l) ++ piece) ++ behind) (no_zeros at (length file) le)
    ∙ ap (λ (l : List ℕ). (l ++ piece) ++ behind) (append-nil (take at file))
    ∙ append_assoc (take at file) piece behind

pub written_behind : (front rest piece : List ℕ) (gate end : ℕ) → end ≡ length front → written (end + 1) piece (front ++ gate ∷ rest) ≡ front ++ gate ∷ (piece ++ drop (end + 1 + length piece) (front ++ gate ∷ rest))
written_behind front rest piece gate end place =
    let old = front ++ gate ∷ rest in
    let behind = piece ++ drop (end + 1 + length piece) old in
    written_is (end + 1) piece old (omega (arith, place, length-append front (gate ∷ rest)))
    ∙ ap (λ (l : List ℕ). l ++ behind) (gate_taken front rest gate end place)
    ∙ append_assoc front (gate ∷ []) behind

pub written_gate : (front rest : List ℕ) (gate later end : ℕ) → end ≡ length front → written end (later ∷ []) (front ++ gate ∷ rest) ≡ front ++ later ∷ rest
written_gate front rest gate later end place =
    let old = front ++ gate ∷ rest in
    written_is end (later ∷ []) old (omega (arith, place, length-append front (gate ∷ rest)))
    ∙ ap (λ (l : List ℕ). take end old ++ (later ∷ l)) (behind_left front rest gate end place)
    ∙ ap (λ (l : List ℕ). l ++ later ∷ rest) (front_taken front rest gate end place)

-- ---- journals

pub tables_again : (batches : List (List RowChange)) (gate : ℕ) (rest : List ℕ) → AllByRecursion BatchFits batches → gate ≢ 1 → tables_in (journal_of batches gate rest) ≡ Some (tables_of batches)
tables_again batches gate rest fits shut = ap (option_map tables_of) (journal_again batches gate rest fits shut)

pub journal_tables : (file : List ℕ) (batches : List (List RowChange)) → IsJournalOf file batches → tables_in file ≡ Some (tables_of batches)
journal_tables file batches is = ap tables_in is.whole ∙ tables_again batches is.gate is.rest is.fits is.shut

pub journal_torn : (end n : ℕ) (batches : List (List RowChange)) (before image : List ℕ) → end ≡ length (header ++ frames_of batches) → IsJournalOf before batches → Torn (end + 1) n before image → IsJournalOf image batches
journal_torn end n batches before image place is torn =
    let t = torn_behind (header ++ frames_of batches) is.rest is.gate end n image place (subst (λ (file : List ℕ). Torn (end + 1) n file image) is.whole torn) in
    record { gate = is.gate; rest = t.0; whole = t.1; shut = is.shut; fits = is.fits }

-- ---- one frame more

pub opened_is : (batches : List (List RowChange)) (batch : List RowChange) (junk : List ℕ) → journal_of batches 1 (sized (body_of batch) ++ 0 ∷ junk) ≡ journal_of (batches ++ batch ∷ []) 0 junk
opened_is batches batch junk = sym (append_assoc (header ++ frames_of batches) (frame_of batch) (0 ∷ junk)) ∙ ap (λ (l : List ℕ). l ++ 0 ∷ junk) (sym (front_more batches batch))

pub place_more : (end : ℕ) (batches : List (List RowChange)) (batch : List RowChange) (behind : List ℕ) → end ≡ length (header ++ frames_of batches) → IsBehind batch behind → end + length behind ≡ length (header ++ frames_of (batches ++ batch ∷ []))
place_more end batches batch behind place is =
    omega (arith, place, ap length (front_more batches batch), length-append (header ++ frames_of batches) (frame_of batch), ap length is.bytes_are, length-append (sized (body_of batch)) (0 ∷ []))

pub tables_more : (batches : List (List RowChange)) (batch : List RowChange) → tables_of (batches ++ batch ∷ []) ≡ with_row_changes (tables_of batches) batch
tables_more batches batch = fold-append with_row_changes [] batches (batch ∷ [])

-- ---- a gate that may be open

-- the tables of before the gate, and those with the frame behind it
pub shut_tables : (end gate : ℕ) (batches : List (List RowChange)) (rest file : List ℕ) → end ≡ length (header ++ frames_of batches) → AllByRecursion BatchFits batches → file ≡ journal_of batches gate rest → tables_in (shut_at end file) ≡ Some (tables_of batches)
shut_tables end gate batches rest file place fits is =
    ap (λ (l : List ℕ). tables_in (l ++ 0 ∷ [])) (ap (take end) is ∙ front_taken (header ++ frames_of batches) rest gate end place)
    ∙ tables_again batches 0 [] fits (omega arith)

pub open_tables : (end gate : ℕ) (batches : List (List RowChange)) (batch : List RowChange) (junk file : List ℕ) → end ≡ length (header ++ frames_of batches) → AllByRecursion BatchFits batches → BatchFits batch
    → file ≡ journal_of batches gate (sized (body_of batch) ++ 0 ∷ junk) → tables_in (open_at end file) ≡ Some (tables_of (batches ++ batch ∷ []))
open_tables end gate batches batch junk file place fits one is =
    let front = header ++ frames_of batches in
    let rest = sized (body_of batch) ++ 0 ∷ junk in
    let parts : open_at end file ≡ front ++ 1 ∷ rest =
    (λ i. (ap (take end) is ∙ front_taken front rest gate end place) i ++ 1 ∷ (ap (drop (end + 1)) is ∙ behind_left front rest gate end place) i) in
    ap tables_in (parts ∙ opened_is batches batch junk) ∙ tables_again (batches ++ batch ∷ []) 0 junk (fits_more batches batch fits one) (omega arith)

-- an image has the one or the other
pub staged_tables : (batches : List (List RowChange)) (batch : List RowChange) (gate : ℕ) (junk image : List ℕ) → AllByRecursion BatchFits batches → BatchFits batch → image ≡ journal_of batches gate (sized (body_of batch) ++ 0 ∷ junk)
    → (tables_in image ≡ Some (tables_of batches)) ⊎ (tables_in image ≡ Some (tables_of (batches ++ batch ∷ [])))
staged_tables batches batch zero junk image fits one is = inl (ap tables_in is ∙ tables_again batches 0 (sized (body_of batch) ++ 0 ∷ junk) fits (omega arith))
staged_tables batches batch (suc zero) junk image fits one is = inr (ap tables_in (is ∙ opened_is batches batch junk) ∙ tables_again (batches ++ batch ∷ []) 0 junk (fits_more batches batch fits one) (omega arith))
staged_tables batches batch (suc (suc gate)) junk image fits one is = inl (ap tables_in is ∙ tables_again batches (suc (suc gate)) (sized (body_of batch) ++ 0 ∷ junk) fits (omega arith))

-- a file of at most nine bytes has no rows
pub short_tables : (file : List ℕ) → length file ≤ 9 → tables_in file ≡ Some []
short_tables file small = ap (option_map tables_of) (read_short file small)
