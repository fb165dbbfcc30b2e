-- What one more call makes of the images of a disk in memory.
use Rattle.std.proofs.Common.{◌≡◌, ◌⊎◌, inl, inr, ⊎_elim, ℕ, zero, suc, ◌≤◌, List, [], ◌∷◌, ◌++◌, length, Result, Ok, Err, refl, sym, ap, ◌∙◌, subst, arith, length-append}
use Rattle.std.specs.Prelude.{OnOk, OnErr, false, is_err}
use Rattle.std.proofs.lemmas.List.Sums.{fold-append}
use Rattle.aq_journal.specs.declared.memory_disk.Call.{Call}
use Rattle.aq_journal.specs.declared.memory_disk.Call.TheVariants.{Wrote, Synced}
use Rattle.aq_journal.specs.Disks.{Torn, IsWritten, NothingNew, Follows, Elapses}
use Rattle.aq_journal.specs.Memories.{DiskState, Moment, at_first, after_call, after_calls, bytes_now, MayMake, IsImage, LeftFrom, MayLeave, LeftSince, reads_image, first_reads}
use Rattle.aq_journal.proofs.Writes.{torn_written}

pub after_more : (m : Moment) (calls : List Call) (call : Call) → after_calls m (calls ++ call ∷ []) ≡ after_call (after_calls m calls) call
after_more m calls call = fold-append after_call m calls (call ∷ [])

adds : (m : Moment) (calls : List Call) (call : Call) (t : ℕ) (image : List ℕ) → t ≤ length calls → LeftFrom m (calls ++ call ∷ []) t image → LeftFrom m calls t image ⊎ IsImage (after_calls m (calls ++ call ∷ [])) image
adds m [] call zero image le left = left
adds m [] call (suc t) image le left = absurd (omega (arith, le))
adds m (c ∷ calls) call zero image le (inl here) = inl (inl here)
adds m (c ∷ calls) call zero image le (inr there) = ⊎_elim (λ had. inl (inr had)) (λ new. inr new) (adds (after_call m c) calls call zero image (omega arith) there)
adds m (c ∷ calls) call (suc t) image le left = adds (after_call m c) calls call t image (omega (arith, le)) left

keeps : (m : Moment) (calls : List Call) (call : Call) (t : ℕ) (image : List ℕ) → t ≤ length calls → LeftFrom m calls t image → LeftFrom m (calls ++ call ∷ []) t image
keeps m [] call zero image le had = inl had
keeps m [] call (suc t) image le had = absurd (omega (arith, le))
keeps m (c ∷ calls) call zero image le (inl here) = inl here
keeps m (c ∷ calls) call zero image le (inr there) = inr (keeps (after_call m c) calls call zero image (omega arith) there)
keeps m (c ∷ calls) call (suc t) image le had = keeps (after_call m c) calls call t image (omega (arith, le)) had

-- ---- time

pub time_same : (old new : DiskState) → new.first ≡ old.first → new.changes ≡ old.changes → Elapses (length old.changes) (length new.changes) (LeftSince old) (LeftSince new) (MayLeave new)
time_same old new first same = record {
  later = omega (arith, ap length same);
  nothing_else = λ t image le left. inl (subst (λ (calls : List Call). LeftFrom (at_first old.first) calls t image) same (subst (λ (bytes : List ℕ). LeftFrom (at_first bytes) new.changes t image) first left));
  keeps = λ t image le left. subst (λ (bytes : List ℕ). LeftFrom (at_first bytes) new.changes t image) (sym first) (subst (λ (calls : List Call). LeftFrom (at_first old.first) calls t image) (sym same) left);
}

time_so : (first : List ℕ) (calls : List Call) (call : Call) → Elapses (length calls) (length (calls ++ call ∷ [])) (LeftFrom (at_first first) calls) (LeftFrom (at_first first) (calls ++ call ∷ [])) (IsImage (after_calls (at_first first) (calls ++ call ∷ [])))
time_so first calls call = record {
  later = omega (arith, length-append calls (call ∷ []));
  nothing_else = λ t image le left. adds (at_first first) calls call t image le left;
  keeps = λ t image le left. keeps (at_first first) calls call t image le left;
}

pub time_more : (old new : DiskState) (call : Call) → new.first ≡ old.first → new.changes ≡ old.changes ++ call ∷ [] → Elapses (length old.changes) (length new.changes) (LeftSince old) (LeftSince new) (MayLeave new)
time_more old new call first more =
    subst (λ (bytes : List ℕ). Elapses (length old.changes) (length new.changes) (LeftSince old) (LeftFrom (at_first bytes) new.changes) (IsImage (after_calls (at_first bytes) new.changes))) (sym first)
    (subst (λ (calls : List Call). Elapses (length old.changes) (length calls) (LeftSince old) (LeftFrom (at_first old.first) calls) (IsImage (after_calls (at_first old.first) calls))) (sym more) (time_so old.first old.changes call))

-- a call that may not have been noted
pub time_maybe : {T E : Type 0} (old mid new : DiskState) (call : Call) (noted : Result T E) → mid.first ≡ old.first → mid.changes ≡ old.changes
    → OnOk noted (new ≡ record mid { changes = mid.changes ++ call ∷ [] }) → OnErr noted (new ≡ mid) → Elapses (length old.changes) (length new.changes) (LeftSince old) (LeftSince new) (MayLeave new)
time_maybe old mid new call (Ok done) first same more none =
    time_more old new call (ap (λ (d : DiskState). d.first) more ∙ first) (ap (λ (d : DiskState). d.changes) more ∙ ap (λ (calls : List Call). calls ++ call ∷ []) same)
time_maybe old mid new call (Err refused) first same more none = time_same old new (ap (λ (d : DiskState). d.first) none ∙ first) (ap (λ (d : DiskState). d.changes) none ∙ same)

-- what holds of an answer that is no refusal
pub ok_of : {T E A : Type 0} (answer : Result T E) → OnOk answer A → false ≡ is_err answer → A
ok_of (Ok done) holds is = holds
ok_of (Err refused) holds is = absurd cc

-- ---- images

-- the images of a disk with one call more, as those of the moment before
pub made_of : (old new : DiskState) (call : Call) → new.first ≡ old.first → new.changes ≡ old.changes ++ call ∷ [] → (image : List ℕ) → MayLeave new image → IsImage (after_call (after_calls (at_first old.first) old.changes) call) image
made_of old new call first more image left =
    let one : after_calls (at_first new.first) new.changes ≡ after_calls (at_first old.first) (old.changes ++ call ∷ []) = λ i. after_calls (at_first (first i)) (more i) in
    subst (λ m. IsImage m image) (one ∙ after_more (at_first old.first) old.changes call) left

torn_wrote : (at : ℕ) (piece before image : List ℕ) → MayMake (Wrote at piece) before image → Torn at (length piece) before image
torn_wrote at piece before image (inl all) = subst (λ (l : List ℕ). Torn at (length piece) before l) (sym all) (torn_written at piece before)
torn_wrote at piece before image (inr torn) = torn

pub crash_wrote : (old new : DiskState) (at : ℕ) (piece : List ℕ) → new.first ≡ old.first → new.changes ≡ old.changes ++ Wrote at piece ∷ [] → Follows (Torn at (length piece)) (MayLeave old) (MayLeave new)
crash_wrote old new at piece first more image left =
    let made = made_of old new (Wrote at piece) first more image left in
    (made.0, made.1, torn_wrote at piece made.0 image made.2)

-- the bytes as they read have the piece
pub stands_wrote : (old new : DiskState) (at : ℕ) (piece : List ℕ) → new.first ≡ old.first → new.changes ≡ old.changes ++ Wrote at piece ∷ [] → Follows (IsWritten at piece) (λ image. image ≡ bytes_now old) (λ image. image ≡ bytes_now new)
stands_wrote old new at piece first more image is =
    let one : after_calls (at_first new.first) new.changes ≡ after_calls (at_first old.first) (old.changes ++ Wrote at piece ∷ []) = λ i. after_calls (at_first (first i)) (more i) in
    (bytes_now old, refl, is ∙ ap (λ (m : Moment). m.bytes) (one ∙ after_more (at_first old.first) old.changes (Wrote at piece)))

pub crash_synced : (old new : DiskState) → new.first ≡ old.first → new.changes ≡ old.changes ++ Synced ∷ [] → NothingNew (MayLeave old) (MayLeave new)
crash_synced old new first more image left =
    let is : image ≡ (after_calls (at_first old.first) old.changes).bytes = made_of old new Synced first more image left in
    subst (λ (l : List ℕ). MayLeave old l) (sym is) (reads_image (at_first old.first) old.changes (first_reads old.first))
