-- A journal's file that is read whole, begun, or read.
use Rattle.std.proofs.Common.{◌≡◌, ◌⊎◌, inl, inr, ℕ, zero, suc, ◌+◌, ◌-◌, ◌^◌, ◌<◌, ◌≤◌, List, [], ◌∷◌, ◌++◌, length, take, drop, Option, Some, None, refl, sym, ap, subst, ◌∙◌, arith}
use Rattle.std.specs.Prelude.{IfSome, OnOk, OnErr, Result, Ok, Err, is_some}
use Rattle.std.specs.Option.{option_map, option_and_then}
use Rattle.std.proofs.lemmas.List.{drop_all, length-append}
use Rattle.aq_rules.specs.Kept.Rows.{Row}
use Rattle.aq_rules.specs.Kept.RowChanges.{RowChange}
use Rattle.aq_keeper.specs.Told.{Stays}
use Rattle.aq_keeper.proofs.Telling.{stays_so}
use Rattle.aq_journal.specs.declared.disk.Disk.{Ghosts}
use Rattle.aq_journal.specs.declared.gate.Gate.{Gate}
use Rattle.aq_journal.specs.declared.gate.Gate.TheVariants.{Unsynced, Unread, Shut, Doubtful}
use Rattle.aq_journal.specs.Disks.{IfTells, Gives, written, IsWritten, Follows}
use Rattle.aq_journal.specs.JournalFormat.{IsJournalOf, header, frames_of, journal_of, tables_of, tables_in, batches_in}
use Rattle.aq_journal.specs.Scanning.{IsEnded}
use Rattle.aq_journal.specs.Calls.{IsTorn, Puts, HasPut}
use Rattle.aq_journal.specs.Keeping.{IsSynced, IsHeld, Stands, told}
use Rattle.aq_journal.specs.Opening.{IsSettled}
use Rattle.aq_journal.proofs.Fields.{some_is}
use Rattle.aq_journal.proofs.Journals.{journal_again, short}
use Rattle.aq_journal.proofs.Frames.{journal_tables, short_tables}
use Rattle.aq_journal.proofs.Moments.{since_none}
use Rattle.aq_journal.proofs.Gates.{Told, IfTold, IsTornFrom}
use Rattle.aq_journal.proofs.Enduring.{Step, endures, no_doubt}

-- ---- bytes that are read piece by piece

take_none : (n : ℕ) → take {A = ℕ} n [] ≡ []
take_none zero = refl
take_none (suc n) = refl

take_join : (a n : ℕ) (xs : List ℕ) → take (a + n) xs ≡ take a xs ++ take n (drop a xs)
take_join zero n xs = let same : 0 + n ≡ n = omega arith in ap (λ (k : ℕ). take k xs) same
take_join (suc a) n [] = take_none (suc a + n) ∙ sym (take_none n)
take_join (suc a) n (x ∷ xs) = let same : suc a + n ≡ suc (a + n) = omega arith in ap (λ (k : ℕ). take k (x ∷ xs)) same ∙ ap (λ (l : List ℕ). x ∷ l) (take_join a n xs)

-- so far the buffer has what the file has
pub record IsFilled (at : ℕ) (bytes file : List ℕ) : Type 0 where
  pub there : at ≤ length file
  pub same : take at bytes ≡ take at file

pub filled_more : (so : Told) (at n : ℕ) (old new : List ℕ) → IfSome so (IsFilled at old) → take at new ≡ take at old → IfSome so (λ file. Gives file at (drop at new) n) → IfSome so (IsFilled (at + n) new)
filled_more (Some file) at n old new is front gives = record {
  there = omega (arith, is.there, gives.there);
  same = take_join at n new ∙ (λ i. (front ∙ is.same) i ++ gives.same i) ∙ sym (take_join at n file);
}
filled_more None at n old new is front gives = tt

abbrev pub Whole : ℕ → List ℕ → Told → Type 0
Whole at bytes so = IfSome so (λ file. length file ≤ length bytes → take at bytes ≡ file)

pub whole_is : (so : Told) (size n : ℕ) (buffer bytes : List ℕ) → IfSome so (λ file. size ≡ length file) → length buffer ≡ size → Whole n buffer so → bytes ≡ take n buffer → IfSome so (λ file. bytes ≡ file)
whole_is (Some file) size n buffer bytes size-is long all taken = taken ∙ all (omega (arith, size-is, long))
whole_is None size n buffer bytes size-is long all taken = tt

-- ---- the empty journal

abbrev pub nine : List ℕ
nine = 65 ∷ 73 ∷ 82 ∷ 68 ∷ 86 ∷ 74 ∷ 48 ∷ 49 ∷ 0 ∷ []

abbrev IsSmall : List ℕ → Type 0
IsSmall file = length file ≤ 9

nine_is : nine ≡ journal_of [] 0 []
nine_is = refl

written_nine : (file : List ℕ) → IsSmall file → written 0 nine file ≡ nine
written_nine file small =
    let none : drop 9 file ≡ [] = drop_all 9 file small in
    let before : 0 - length file ≡ 0 = omega arith in
    rw (before, none) refl

read_small : (a image : List ℕ) → IsSmall a → (image ≡ a) ⊎ (IsSmall a × IsSmall image) → IsSmall image
read_small a image small (inl same) = omega (arith, small, ap length same)
read_small a image small (inr both) = both.1

-- a journal that is begun over a short file, whole or not, is short
torn_small : (a : List ℕ) (mo : List ℕ → Type 0) → IsSmall a → Stands Unread a mo → (image : List ℕ) → IsTornFrom 0 9 mo image → IsSmall image
torn_small a mo small at image torn = omega (arith, read_small a torn.0 small (at torn.0 torn.1), torn.2.no_longer)

begin_left : (so : Told) (mo : List ℕ → Type 0) (also : Option (List Row)) → IfSome so IsSmall → IfSome so (λ file. Stands Unread file mo) → (image : List ℕ) → IsTornFrom 0 9 mo image → IfTold so Unread also (tables_in image)
begin_left (Some a) mo also small at image torn = inl (short_tables image (torn_small a mo small at image torn) ∙ sym (short_tables a small))
begin_left None mo also small at image torn = tt

record IsMade (later : Gate) (so sn : Told) (mn : List ℕ → Type 0) : Type 0 where
  at : IfSome sn (λ file. Stands later file mn)
  told_is : told later sn ≡ option_and_then tables_in so

begin_torn : (so sn : Told) (mo mn : List ℕ → Type 0) → IfSome sn mn → is_some sn ≡ is_some so → IfSome so IsSmall → IfSome so (λ file. Stands Unread file mo) → ((image : List ℕ) → mn image → IsTornFrom 0 9 mo image) → IsMade Unread so sn mn
begin_torn (Some a) (Some b) mo mn reads tells small at now =
    let each : (image : List ℕ) → mn image → IsSmall image = λ image may. torn_small a mo small at image (now image may) in
    record { at = λ image may. inr (each b reads, each image may); told_is = short_tables b (each b reads) ∙ sym (short_tables a small) }
begin_torn None None mo mn reads tells small at now = record { at = tt; told_is = refl }
begin_torn (Some a) None mo mn reads tells small at now = absurd cc
begin_torn None (Some b) mo mn reads tells small at now = absurd cc

empty_is : IsJournalOf nine []
empty_is = record { gate = 0; rest = []; whole = nine_is; shut = omega arith; fits = tt }

-- each image of a short file is written over whole
begun : (so sn : Told) (mo mn : List ℕ → Type 0) → IfSome so IsSmall → IfSome so (λ file. Stands Unread file mo) → sn ≡ option_map (written 0 nine) so → Follows (IsWritten 0 nine) mo mn → IsMade (Shut 8) so sn mn
begun None sn mo mn small at wrote-is over = subst (λ (seen : Told). IsMade (Shut 8) None seen mn) (sym wrote-is) (record { at = tt; told_is = refl })
begun (Some a) sn mo mn small at wrote-is over =
    let is : sn ≡ Some nine = wrote-is ∙ ap (λ (l : List ℕ). Some l) (written_nine a small) in
    let images : (image : List ℕ) → mn image → IsJournalOf image [] = λ image may.
    let from = over image may in
    subst (λ (file : List ℕ). IsJournalOf file []) (sym (from.2 ∙ written_nine from.0 (read_small a from.0 small (at from.0 from.1)))) empty_is in
    subst (λ (seen : Told). IsMade (Shut 8) (Some a) seen mn) (sym is) (record {
      at = ([], record { place = refl; fits = tt; images = images });
      told_is = journal_tables nine [] empty_is ∙ sym (short_tables a small);
    })

-- an empty journal that stands
begun_before : (end : ℕ) (so : Told) (mo : List ℕ → Type 0) → IfSome so mo → IfSome so IsSmall → IfSome so (λ file. Stands (Shut end) file mo) → IfSome so (λ file. Stands (Shut 8) file mo)
begun_before end (Some a) mo reads small at =
    let is = at.1.images a reads in
    let none : at.0 ≡ [] = short at.0 is.gate is.rest (omega (arith, ap length is.whole, small)) in
    ([], record { place = refl; fits = tt; images = λ image may. subst (λ (batches : List (List RowChange)). IsJournalOf image batches) none (at.1.images image may) })
begun_before end None mo reads small at = tt

-- ---- a journal that is read

same_batches : (file : List ℕ) (batches others : List (List RowChange)) → IsJournalOf file batches → IsJournalOf file others → others ≡ batches
same_batches file batches others is too = some_is others batches (sym (ap batches_in too.whole ∙ journal_again others too.gate too.rest too.fits too.shut) ∙ ap batches_in is.whole ∙ journal_again batches is.gate is.rest is.fits is.shut)

ended_is : (file : List ℕ) (batches : List (List RowChange)) (end : ℕ) → IsEnded file batches end → IsJournalOf file batches
ended_is file batches end at = record { gate = at.gate; rest = at.rest; whole = at.whole; shut = at.shut; fits = at.fits }

read_stands : (gate : Gate) (file : List ℕ) (batches : List (List RowChange)) (end : ℕ) (mo : List ℕ → Type 0) → IsSettled gate → 9 < length file → mo file → Stands gate file mo → IsEnded file batches end → Stands (Shut end) file mo
read_stands Unsynced file batches end mo settled long reads at is = absurd settled
read_stands Unread file batches end mo settled long reads at is =
    (batches, record { place = is.end_is; fits = is.fits; images = λ image may. whole image (at image may) })
  where
    whole : (image : List ℕ) → (image ≡ file) ⊎ (IsSmall file × IsSmall image) → IsJournalOf image batches
    whole image (inl same) = subst (λ (l : List ℕ). IsJournalOf l batches) (sym same) (ended_is file batches end is)
    whole image (inr both) = absurd (omega (arith, long, both.0))
read_stands (Shut place) file batches end mo settled long reads at is =
    let same : at.0 ≡ batches = same_batches file batches at.0 (ended_is file batches end is) (at.1.images file reads) in
    (batches, record { place = is.end_is; fits = is.fits; images = λ image may. subst (λ (others : List (List RowChange)). IsJournalOf image others) same (at.1.images image may) })
read_stands (Doubtful place) file batches end mo settled long reads at is = absurd settled

read_told : (gate : Gate) (so : Told) (bytes : List ℕ) (batches : List (List RowChange)) (end : ℕ) (mo : List ℕ → Type 0) → IsSettled gate → 9 < length bytes → IfSome so mo → IfSome so (λ file. bytes ≡ file) → IfSome so (λ file. Stands gate file mo) → IsEnded bytes batches end → IfSome so (λ file. Stands (Shut end) file mo)
read_told gate (Some a) bytes batches end mo settled long reads same at is = subst (λ (file : List ℕ). mo file → Stands gate file mo → Stands (Shut end) file mo) same (λ had stood. read_stands gate bytes batches end mo settled long had stood is) reads at
read_told gate None bytes batches end mo settled long reads same at is = tt

-- what is told of a gate that is not open for sure is what the file has
pub settled_told : (gate : Gate) (so : Told) → IsSettled gate → told gate so ≡ option_and_then tables_in so
settled_told Unsynced so settled = absurd settled
settled_told Unread so settled = refl
settled_told (Shut end) so settled = refl
settled_told (Doubtful end) so settled = absurd settled

synced_of : (gate : Gate) → IsSettled gate → IsSynced gate
synced_of Unsynced settled = absurd settled
synced_of Unread settled = tt
synced_of (Shut end) settled = tt
synced_of (Doubtful end) settled = tt

some_rows : (tables : Option (List Row)) (rows : List Row) → tables ≡ Some rows → IfSome tables (λ stood. rows ≡ stood)
some_rows tables rows is = subst (λ (each : Option (List Row)). IfSome each (λ stood. rows ≡ stood)) (sym is) refl

pub file_rows : (so : Told) (bytes : List ℕ) (rows : List Row) → IfSome so (λ file. bytes ≡ file) → tables_in bytes ≡ Some rows → IfSome (option_and_then tables_in so) (λ stood. rows ≡ stood)
file_rows (Some a) bytes rows same is = some_rows (tables_in a) rows (ap tables_in (sym same) ∙ is)
file_rows None bytes rows same is = tt

pub rows_read : (gate : Gate) (so : Told) (bytes : List ℕ) (rows : List Row) → IsSettled gate → IfSome so (λ file. bytes ≡ file) → tables_in bytes ≡ Some rows → IfSome (told gate so) (λ stood. rows ≡ stood)
rows_read gate so bytes rows settled same is = subst (λ (each : Option (List Row)). IfSome each (λ stood. rows ≡ stood)) (sym (settled_told gate so settled)) (file_rows so bytes rows same is)

told_none : (gate : Gate) → told gate None ≡ None
told_none Unsynced = refl
told_none Unread = refl
told_none (Shut end) = refl
told_none (Doubtful end) = refl

-- what is known of tables that are told still
pub rows_still : (gate : Gate) (sn : Told) (tables : Option (List Row)) (P : List Row → Type 0) → IfTells sn (told gate sn ≡ tables) → IfSome tables P → IfSome (told gate sn) P
rows_still gate (Some a) tables P same holds = subst (λ (rows : Option (List Row)). IfSome rows P) (sym (same refl)) holds
rows_still gate None tables P same holds = subst (λ (rows : Option (List Row)). IfSome rows P) (sym (told_none gate)) tt

-- the same in the words of a keeper
pub stays_if : (gate : Gate) (sn : Told) (expected : Option (List Row)) → IfTells sn (told gate sn ≡ expected) → Stays expected (told gate sn)
stays_if gate (Some a) expected same = stays_so expected (told gate (Some a)) (same refl)
stays_if gate None expected same = subst (λ (rows : Option (List Row)). Stays expected rows) (sym (told_none gate)) tt

pub ok_stays_if : {T E : Type 0} (answer : Result T E) (gate : Gate) (sn : Told) (expected : Option (List Row)) → OnOk answer (IfTells sn (told gate sn ≡ expected)) → OnOk answer (Stays expected (told gate sn))
ok_stays_if (Ok done) gate sn expected same = stays_if gate sn expected same
ok_stays_if (Err fault) gate sn expected same = tt

pub err_stays_if : {T E : Type 0} (answer : Result T E) (gate : Gate) (sn : Told) (expected : Option (List Row)) → OnErr answer (IfTells sn (told gate sn ≡ expected)) → OnErr answer (Stays expected (told gate sn))
err_stays_if (Ok done) gate sn expected same = tt
err_stays_if (Err fault) gate sn expected same = stays_if gate sn expected same

pub ended_rows : (bytes : List ℕ) (batches : List (List RowChange)) (end : ℕ) → IsEnded bytes batches end → tables_in bytes ≡ Some (tables_of batches)
ended_rows bytes batches end is = journal_tables bytes batches (ended_is bytes batches end is)

-- its gate leaves room behind it
pub ended_room : (bytes : List ℕ) (batches : List (List RowChange)) (end : ℕ) → IsEnded bytes batches end → length bytes < 2 ^ 63 → end + 1 < 2 ^ 63
ended_room bytes batches end is bound = omega (arith, is.end_is, bound, ap length is.whole, length-append (header ++ frames_of batches) (is.gate ∷ is.rest))

module _ {D : Type 0} (d : Ghosts D) (reads : (disk : D) → IfSome (d.seen disk) (d.may_leave disk)) (only_now : (disk : D) (image : List ℕ) → d.left_since disk (d.moment disk) image → d.may_leave disk image) where
  pub begin_failed : (old new : D) (also : Option (List Row)) → IsHeld d old Unread → IfSome (d.seen old) (λ file. length file ≤ 9) → Puts d 0 nine old new → Step d old new Unread Unread (told Unread (d.seen old)) also
  begin_failed old new also held small put =
      let s = begin_torn (d.seen old) (d.seen new) (d.may_leave old) (d.may_leave new) (reads new) put.tells small held.file put.now in
      record {
        held = record { room = tt; file = s.at };
        told_is = s.told_is;
        endures = endures d reads only_now old new Unread Unread also (IsTorn d 0 nine old) held tt tt put.tells put.since (begin_left (d.seen old) (d.may_leave old) also small held.file) (no_doubt Unread Unread (d.seen old) (d.seen new) also s.told_is);
      }

  pub begin_done : (old new : D) (also : Option (List Row)) → IsHeld d old Unread → IfSome (d.seen old) (λ file. length file ≤ 9) → Puts d 0 nine old new → HasPut d 0 nine old new → Step d old new Unread (Shut 8) (told Unread (d.seen old)) also
  begin_done old new also held small put has =
      let s = begun (d.seen old) (d.seen new) (d.may_leave old) (d.may_leave new) small held.file has.seen has.images in
      record {
        held = record { room = omega arith; file = s.at };
        told_is = s.told_is;
        endures = endures d reads only_now old new Unread (Shut 8) also (IsTorn d 0 nine old) held tt tt put.tells put.since (begin_left (d.seen old) (d.may_leave old) also small held.file) (no_doubt Unread (Shut 8) (d.seen old) (d.seen new) also s.told_is);
      }

  -- only what is known of the gate is other than before
  found : (disk : D) (gate : Gate) (end : ℕ) (also : Option (List Row)) → IsSettled gate → IsHeld d disk gate → end + 1 < 2 ^ 63 → IfSome (d.seen disk) (λ file. Stands (Shut end) file (d.may_leave disk)) → Step d disk disk gate (Shut end) (told gate (d.seen disk)) also
  found disk gate end also settled held room at = record {
    held = record { room = room; file = at };
    told_is = sym (settled_told gate (d.seen disk) settled);
    endures = endures d reads only_now disk disk gate (Shut end) also (λ image. ⊥) held (synced_of gate settled) tt refl (since_none d disk (λ image. ⊥)) (λ image none. absurd none) (no_doubt gate (Shut end) (d.seen disk) (d.seen disk) also (sym (settled_told gate (d.seen disk) settled)));
  }

  pub begin_stood : (disk : D) (end : ℕ) (also : Option (List Row)) → IsHeld d disk (Shut end) → IfSome (d.seen disk) (λ file. length file ≤ 9) → Step d disk disk (Shut end) (Shut 8) (told (Shut end) (d.seen disk)) also
  begin_stood disk end also held small = found disk (Shut end) 8 also tt held (omega arith) (begun_before end (d.seen disk) (d.may_leave disk) (reads disk) small held.file)

  pub found_read : (disk : D) (gate : Gate) (bytes : List ℕ) (batches : List (List RowChange)) (end : ℕ) (also : Option (List Row)) → IsSettled gate → IsHeld d disk gate → 9 < length bytes → length bytes < 2 ^ 63 → IfSome (d.seen disk) (λ file. bytes ≡ file) → IsEnded bytes batches end → Step d disk disk gate (Shut end) (told gate (d.seen disk)) also
  found_read disk gate bytes batches end also settled held long bound same is =
      found disk gate end also settled held (ended_room bytes batches end is bound) (read_told gate (d.seen disk) bytes batches end (d.may_leave disk) settled long (reads disk) same held.file is)

  -- an empty journal that stands, of a gate that is known to be read
  pub begin_other : (disk : D) (gate : Gate) → IsSettled gate → (gate ≡ Unread → ⊥) → IsHeld d disk gate → IfSome (d.seen disk) (λ file. length file ≤ 9) → Step d disk disk gate (Shut 8) (told gate (d.seen disk)) (told gate (d.seen disk))
  begin_other disk Unsynced settled other held small = absurd settled
  begin_other disk Unread settled other held small = absurd (other refl)
  begin_other disk (Shut end) settled other held small = begin_stood disk end (told (Shut end) (d.seen disk)) held small
  begin_other disk (Doubtful end) settled other held small = absurd settled

  pub begin_failed_at : (old new : D) (gate : Gate) → gate ≡ Unread → IsHeld d old gate → IfSome (d.seen old) (λ file. length file ≤ 9) → Puts d 0 nine old new → Step d old new gate gate (told gate (d.seen old)) (told gate (d.seen old))
  begin_failed_at old new gate is held small put =
      subst (λ (g : Gate). IsHeld d old g → Step d old new g g (told g (d.seen old)) (told g (d.seen old))) (sym is) (λ had. begin_failed old new (told Unread (d.seen old)) had small put) held

  pub begin_done_at : (old new : D) (gate : Gate) → gate ≡ Unread → IsHeld d old gate → IfSome (d.seen old) (λ file. length file ≤ 9) → Puts d 0 nine old new → HasPut d 0 nine old new → Step d old new gate (Shut 8) (told gate (d.seen old)) (told gate (d.seen old))
  begin_done_at old new gate is held small put has =
      subst (λ (g : Gate). IsHeld d old g → Step d old new g (Shut 8) (told g (d.seen old)) (told g (d.seen old))) (sym is) (λ had. begin_done old new (told Unread (d.seen old)) had small put has) held
