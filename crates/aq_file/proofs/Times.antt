-- The moments of a disk that notes what stood before each call.
use Rattle.std.proofs.Common.{◌≡◌, ◌⊎◌, inl, inr, ⊎_elim, ℕ, zero, suc, ◌≤◌, false, List, [], ◌∷◌, ◌++◌, length, Option, refl, sym, ap, subst, arith, length-append}
use Rattle.std.specs.Prelude.{OnOk, Result, Ok, Err, is_err}
use Rattle.sqlite_disk.specs.declared.Disk.{Ghosts}
use Rattle.aq_journal.specs.Disks.{Elapses}
use Rattle.aq_file.specs.Late.{leaves, left_from}

-- what an answer says that is no error
pub ok_of : {T E A : Type 0} (answer : Result T E) → OnOk answer A → false ≡ is_err answer → A
ok_of (Ok done) holds is = holds
ok_of (Err refused) holds is = absurd cc

module _ {F : Type 0} (g : Ghosts F) (bytes : List ℕ) where
  abbrev Left : Option F → List ℕ → Type 0
  Left state image = leaves g bytes state image

  abbrev Before : List (Option F) → ℕ → List ℕ → Type 0
  Before states t image = left_from g bytes states t image

  one_more : (states : List (Option F)) (state : Option F) (t : ℕ) (image : List ℕ) → Before (states ++ state ∷ []) t image → Before states t image ⊎ Left state image
  one_more [] state zero image left = inr (⊎_elim (λ last. last) (λ none. absurd none) left)
  one_more [] state (suc t) image left = absurd left
  one_more (first ∷ states) state zero image (inl here) = inl (inl here)
  one_more (first ∷ states) state zero image (inr there) = ⊎_elim (λ had. inl (inr had)) (λ last. inr last) (one_more states state zero image there)
  one_more (first ∷ states) state (suc t) image left = one_more states state t image left

  keeps : (states : List (Option F)) (state : Option F) (t : ℕ) (image : List ℕ) → Before states t image → Before (states ++ state ∷ []) t image
  keeps [] state t image left = absurd left
  keeps (first ∷ states) state zero image (inl here) = inl here
  keeps (first ∷ states) state zero image (inr there) = inr (keeps states state zero image there)
  keeps (first ∷ states) state (suc t) image left = keeps states state t image left

  is_last : (states : List (Option F)) (state : Option F) (t : ℕ) (image : List ℕ) → t ≤ length states → Left state image → Before (states ++ state ∷ []) t image
  is_last [] state zero image le left = inl left
  is_last [] state (suc t) image le left = absurd (omega (arith, le))
  is_last (first ∷ states) state zero image le left = inr (is_last states state zero image (omega arith) left)
  is_last (first ∷ states) state (suc t) image le left = is_last states state t image (omega (arith, le)) left

  abbrev SinceThen : Option F → List (Option F) → ℕ → List ℕ → Type 0
  SinceThen state states t image = Left state image ⊎ Before states t image

  one_noted : (states : List (Option F)) (old new : Option F) → Elapses (length states) (length (states ++ old ∷ [])) (SinceThen old states) (SinceThen new (states ++ old ∷ [])) (Left new)
  one_noted states old new = record {
    later = omega (arith, length-append states (old ∷ []));
    nothing_else = λ t image le left. ⊎_elim (λ now. inr now) (λ before. ⊎_elim (λ had. inl (inr had)) (λ last. inl (inl last)) (one_more states old t image before)) left;
    keeps = λ t image le left. ⊎_elim (λ last. inr (is_last states old t image le last)) (λ had. inr (keeps states old t image had)) left;
  }

  -- a call that was noted, whatever became of the file
  pub noted : (states-old states-new : List (Option F)) (old new : Option F) → states-new ≡ states-old ++ old ∷ [] → Elapses (length states-old) (length states-new) (SinceThen old states-old) (SinceThen new states-new) (Left new)
  noted states-old states-new old new is =
      subst (λ (states : List (Option F)). Elapses (length states-old) (length states) (SinceThen old states-old) (SinceThen new states) (Left new)) (sym is) (one_noted states-old old new)
