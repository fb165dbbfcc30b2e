-- A file that is opened late: what it tells, and what a crash leaves of it (own).
use Rattle.std.specs.Prelude.{◌≡◌, ◌⊎◌, ℕ, zero, suc, Bool, true, false, IsTrue, List, [], ◌∷◌, length, Option, Some, None, IfSome, Result, IsErr}
use Rattle.std.proofs.Common.{inl, inr, refl, sym, subst}
use Rattle.sqlite_disk.specs.declared.Disk.{Ghosts}
use Rattle.aq_journal.specs.Disks.{Only, NothingNew}

-- ---- a file as it is opened, and over a call

-- it may be used, no answer of it was wrong, and it has these bytes, on the disk too
pub record IsOpened {F : Type 0} (g : Ghosts F) (bytes : List ℕ) (file : F) : Type 0 where
  pub usable : IsTrue (g.is_usable file)
  pub clean : IsTrue (g.is_clean file)
  pub seen : g.seen file ≡ bytes
  pub only : Only bytes (g.may_leave file)

-- a call that reads: an answer may be wrong, and nothing else is other than before
pub record IsRead {F : Type 0} (g : Ghosts F) (old new : F) : Type 0 where
  pub clean : IsTrue (g.is_clean new) → IsTrue (g.is_clean old)
  pub seen : g.seen new ≡ g.seen old
  pub crash : NothingNew (g.may_leave old) (g.may_leave new)

-- behind a sync that failed no call is answered
abbrev pub StaysUnusable : {F T E : Type 0} → Ghosts F → F → F → Result T E → Type 0
StaysUnusable g old new result = g.is_usable old ≡ false → IsErr result × (g.is_usable new ≡ false)

-- ---- what is told

abbrev pub told_if : Bool → List ℕ → Option (List ℕ)
told_if true bytes = Some bytes
told_if false bytes = None

module _ {F : Type 0} (g : Ghosts F) (bytes : List ℕ) where
  -- before the opening the bytes that it is known to hold, and then its own, until an answer was wrong
  abbrev pub tells : Option F → Option (List ℕ)
  tells None = Some bytes
  tells (Some file) = told_if (g.is_clean file) (g.seen file)

  -- What a crash may leave. Before the opening that is anything. Once an answer was wrong nothing is said of it.
  abbrev pub leaves : Option F → List ℕ → Type 0
  leaves None image = Unit {0}
  leaves (Some file) image = IsTrue (g.is_clean file) × g.may_leave file image

  -- and what it may leave once a sync is answered
  abbrev pub stands : Option F → List ℕ → Type 0
  stands None image = image ≡ bytes
  stands (Some file) image = IsTrue (g.is_clean file) × (image ≡ g.seen file)

  -- what it might have left at one of these moments, but for so many of the first
  abbrev pub left_from : List (Option F) → ℕ → List ℕ → Type 0
  left_from [] t image = ⊥
  left_from (state ∷ states) zero image = leaves state image ⊎ left_from states zero image
  left_from (state ∷ states) (suc t) image = left_from states t image

  -- ---- what a disk owes of its images

  none_behind : (states : List (Option F)) (image : List ℕ) → left_from states (length states) image → ⊥
  none_behind [] image left = left
  none_behind (state ∷ states) image left = none_behind states image left

  pub only_last : (state : Option F) (states : List (Option F)) (image : List ℕ) → leaves state image ⊎ left_from states (length states) image → leaves state image
  only_last state states image (inl now) = now
  only_last state states image (inr before) = absurd (none_behind states image before)

  module _ (seen_may_stay : (file : F) → g.may_leave file (g.seen file)) where
    pub stands_leaves : (state : Option F) (image : List ℕ) → stands state image → leaves state image
    stands_leaves None image is = tt
    stands_leaves (Some file) image is = (is.0, subst (g.may_leave file) (sym is.1) (seen_may_stay file))

    pub tells_image : (state : Option F) → IfSome (tells state) (leaves state)
    tells_image None = tt
    tells_image (Some file) = each (g.is_clean file) refl
      where
        each : (clean : Bool) → g.is_clean file ≡ clean → IfSome (told_if clean (g.seen file)) (leaves (Some file))
        each true is = (is, seen_may_stay file)
        each false is = tt
