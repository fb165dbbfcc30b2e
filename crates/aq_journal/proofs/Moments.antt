-- How calls of a disk follow one another.
use Rattle.std.proofs.Common.{◌≡◌, inl, inr, ⊎_elim, ℕ, ◌≤◌, List, length, true, Option, Some, None, refl, sym, ap, subst, ◌∙◌, arith}
use Rattle.std.specs.Prelude.{IfSome, OnOk, Result, Ok, Err, is_some}
use Rattle.std.specs.Option.{option_map}
use Rattle.aq_journal.specs.declared.disk.Disk.{Ghosts}
use Rattle.aq_journal.specs.Disks.{IfTells, Torn, TornIfTold, written, IsWritten, NothingNew, Follows, Elapses}
use Rattle.aq_journal.specs.Calls.{Since, IsTorn, Puts, HasPut, IsQuiet}

-- a disk that tells told before
pub told_before : (so sn : Option (List ℕ)) → sn ≡ so → is_some sn ≡ true → is_some so ≡ true
told_before so sn same told = ap is_some (sym same) ∙ told

-- what is known of bytes that are told still
pub still_told : (P : List ℕ → Type 0) (so sn : Option (List ℕ)) → IfTells sn (sn ≡ so) → IfSome so P → IfSome sn P
still_told P so (Some bytes) same holds = subst (λ (seen : Option (List ℕ)). IfSome seen P) (sym (same refl)) holds
still_told P so None same holds = tt

tells_torn : (at n : ℕ) (old new : Option (List ℕ)) → TornIfTold at n old new → is_some new ≡ is_some old
tells_torn at n (Some old) (Some new) torn = refl
tells_torn at n None None torn = refl
tells_torn at n (Some old) None torn = absurd torn
tells_torn at n None (Some new) torn = absurd torn

tells_map : (f : List ℕ → List ℕ) (old : Option (List ℕ)) → is_some (option_map f old) ≡ is_some old
tells_map f (Some old) = refl
tells_map f None = refl

module _ {D : Type 0} (d : Ghosts D) where
  pub since_none : (old : D) (Is : List ℕ → Type 0) → Since d old old Is
  since_none old Is = record { later = omega arith; left = λ t image le left. inl left }

  pub since_as : (old new : D) (Is Or : List ℕ → Type 0) → ((image : List ℕ) → Is image → Or image) → Since d old new Is → Since d old new Or
  since_as old new Is Or turn since = record { later = since.later; left = λ t image le left. ⊎_elim (λ past. inl past) (λ is. inr (turn image is)) (since.left t image le left) }

  -- calls, and then others
  pub since_then : (old mid new : D) (Is : List ℕ → Type 0) → Since d old mid Is → Since d mid new Is → Since d old new Is
  since_then old mid new Is first second = record {
    later = omega (arith, first.later, second.later);
    left = λ t image le left. ⊎_elim (λ past. first.left t image le past) (λ is. inr is) (second.left t image (omega (arith, le, first.later)) left);
  }

  -- one call
  pub since_one : (old new : D) (Is : List ℕ → Type 0) → Elapses (d.moment old) (d.moment new) (d.left_since old) (d.left_since new) (d.may_leave new) → ((image : List ℕ) → d.may_leave new image → Is image) → Since d old new Is
  since_one old new Is time now = record { later = time.later; left = λ t image le left. ⊎_elim (λ past. inl past) (λ may. inr (now image may)) (time.nothing_else t image le left) }

  -- a write that failed
  pub put_failed : (at : ℕ) (bytes : List ℕ) (old new : D) → IfTells (d.seen new) (TornIfTold at (length bytes) (d.seen old) (d.seen new)) → Follows (Torn at (length bytes)) (d.may_leave old) (d.may_leave new)
      → Elapses (d.moment old) (d.moment new) (d.left_since old) (d.left_since new) (d.may_leave new) → IfTells (d.seen new) (Puts d at bytes old new)
  put_failed at bytes old new torn crash time told = record { tells = tells_torn at (length bytes) (d.seen old) (d.seen new) (torn told); now = crash; since = since_one old new (IsTorn d at bytes old) time crash }

  -- a write, and a sync, whatever it answers
  pub put_synced : (at : ℕ) (bytes : List ℕ) (old mid new : D) → IfTells (d.seen mid) (d.seen mid ≡ option_map (written at bytes) (d.seen old)) → Follows (Torn at (length bytes)) (d.may_leave old) (d.may_leave mid)
      → Elapses (d.moment old) (d.moment mid) (d.left_since old) (d.left_since mid) (d.may_leave mid)
      → IfTells (d.seen new) (d.seen new ≡ d.seen mid) → NothingNew (d.may_leave mid) (d.may_leave new) → Elapses (d.moment mid) (d.moment new) (d.left_since mid) (d.left_since new) (d.may_leave new) → IfTells (d.seen new) (Puts d at bytes old new)
  put_synced at bytes old mid new wrote crash time same none later told = record {
    tells = ap is_some (same told ∙ wrote (told_before (d.seen mid) (d.seen new) (same told) told)) ∙ tells_map (written at bytes) (d.seen old);
    now = λ image may. crash image (none image may);
    since = since_then old mid new (IsTorn d at bytes old) (since_one old mid (IsTorn d at bytes old) time crash) (since_one mid new (IsTorn d at bytes old) later (λ image may. crash image (none image may)));
  }

  pub put_done : {T E : Type 0} (less : (disk : D) (image : List ℕ) → d.once_synced disk image → d.may_leave disk image) (at : ℕ) (bytes : List ℕ) (old mid new : D) (synced : Result T E) → IfTells (d.seen mid) (d.seen mid ≡ option_map (written at bytes) (d.seen old)) → IfTells (d.seen new) (d.seen new ≡ d.seen mid)
      → Follows (IsWritten at bytes) (d.once_synced old) (d.once_synced mid) → OnOk synced (NothingNew (d.once_synced mid) (d.may_leave new)) → OnOk synced (IfTells (d.seen new) (HasPut d at bytes old new))
  put_done less at bytes old mid new (Ok answer) wrote same over none = λ told. record { seen = same told ∙ wrote (told_before (d.seen mid) (d.seen new) (same told) told); images = λ image may. let from = over image (none image may) in (from.0, less old from.0 from.1, from.2) }
  put_done less at bytes old mid new (Err fault) wrote same over none = tt

  -- ---- calls that change nothing

  pub quiet_none : (old : D) → IsQuiet d old old
  quiet_none old = record { seen = refl; now = λ image may. may; since = since_none old (λ image. ⊥) }

  -- one call, which leaves what a crash could leave before
  pub quiet_same : (counts_now : (disk : D) (t : ℕ) (image : List ℕ) → t ≤ d.moment disk → d.may_leave disk image → d.left_since disk t image) (old new : D) → d.seen new ≡ d.seen old → NothingNew (d.may_leave old) (d.may_leave new)
      → Elapses (d.moment old) (d.moment new) (d.left_since old) (d.left_since new) (d.may_leave new) → IsQuiet d old new
  quiet_same counts_now old new same none time = record {
    seen = same;
    now = none;
    since = record { later = time.later; left = λ t image le left. ⊎_elim (λ past. inl past) (λ may. inl (counts_now old t image le (none image may))) (time.nothing_else t image le left) };
  }

  pub quiet_one : (counts_now : (disk : D) (t : ℕ) (image : List ℕ) → t ≤ d.moment disk → d.may_leave disk image → d.left_since disk t image) (old new : D) → IfTells (d.seen new) (d.seen new ≡ d.seen old) → NothingNew (d.may_leave old) (d.may_leave new)
      → Elapses (d.moment old) (d.moment new) (d.left_since old) (d.left_since new) (d.may_leave new) → IfTells (d.seen new) (IsQuiet d old new)
  quiet_one counts_now old new same none time told = quiet_same counts_now old new (same told) none time

  pub quiet_then : (old mid new : D) → IfTells (d.seen mid) (IsQuiet d old mid) → IfTells (d.seen new) (IsQuiet d mid new) → IfTells (d.seen new) (IsQuiet d old new)
  quiet_then old mid new before after told = let second = after told in let first = before (told_before (d.seen mid) (d.seen new) second.seen told) in record { seen = second.seen ∙ first.seen; now = λ image may. first.now image (second.now image may); since = since_then old mid new (λ image. ⊥) first.since second.since }
