-- What a connection has after `prepare` answered Ok.
use Rattle.std.proofs.Common.{◌≡◌, ◌≢◌, ◌⊎◌, inl, inr, ◌≤◌, ◌∙◌, Bool, true, false, Result, Ok, Err, IfOk, IsTrue, MatchBool, OnOk, refl, sym, arith}
use Rattle.std.proofs.lemmas.Bool.{false≢true}
use Rattle.sqlite.specs.declared.error.Error.{Error}
use Rattle.sqlite.specs.declared.error.Error.TheVariants.{SqliteFailure}
use Rattle.sqlite.specs.declared.error.ErrorCode.TheVariants.{NotADatabase, OutOfMemory, TransactionState}
use Rattle.sqlite.specs.State.{State, HasCleanDisk}
use Rattle.sqlite_trees.specs.View.{doubt}
use Rattle.sqlite_trees.proofs.Doubt.{no_doubt}

pub if_ok : {X E P Q : Type 0} (r : Result X E) → (P → Q) → OnOk r P → OnOk r Q
if_ok (Ok x) f h = f h
if_ok (Err e) f h = tt

-- what is said of given rows is said of those that were found
pub found : {E : Type 0} (P Q S : Type 0) (r : Result Bool E) → (P → Q) → IfOk r (λ is_put. MatchBool is_put P S) → IfOk r (λ is_put. MatchBool is_put Q S)
found P Q S (Ok true) f h = f h
found P Q S (Ok false) f h = h
found P Q S (Err e) f h = h

-- what is open is clean
clean_if : (is_clean is_open : Bool) → (is_clean ≡ false → is_open ≡ false) → is_open ≡ true → is_clean ≡ true
clean_if true is_open shut h = refl
clean_if false is_open shut h = absurd (false≢true (sym (shut refl) ∙ h))

pub both_clean : (mid new : State) → (new.is_clean ≡ false → new.is_open ≡ false) → doubt mid.is_clean ≤ doubt new.is_clean → IsTrue new.is_open → HasCleanDisk mid × HasCleanDisk new
both_clean mid new shut less h =
    let late = no_doubt _ (clean_if _ _ shut h) in
    (omega (arith, less, late), late)

-- a refusal that looks at what stands is no want of memory
pub not_memory : {P Q : Type 0} (e : Error) → ((e ≡ SqliteFailure TransactionState) × P) ⊎ ((e ≡ SqliteFailure NotADatabase) × Q) → e ≢ SqliteFailure OutOfMemory
not_memory e (inl why) same = let is = why.0 in cc
not_memory e (inr why) same = let is = why.0 in cc
