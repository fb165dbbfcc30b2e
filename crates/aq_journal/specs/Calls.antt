-- Calls of a disk one after the other.
use Rattle.std.specs.Prelude.{◌≡◌, ◌⊎◌, ℕ, ◌≤◌, List, length, is_some}
use Rattle.std.specs.Option.{option_map}
use Rattle.aq_journal.specs.declared.disk.Disk.{Ghosts}
use Rattle.aq_journal.specs.Disks.{Torn, written, IsWritten, NothingNew, Follows}

-- A crash at any moment since an earlier one leaves what it could leave up to here, or such an image.
pub record Since {D : Type 0} (d : Ghosts D) (old new : D) (Is : List ℕ → Type 0) : Type 0 where
  pub later : d.moment old ≤ d.moment new
  pub left : (t : ℕ) (image : List ℕ) → t ≤ d.moment old → d.left_since new t image → d.left_since old t image ⊎ Is image

-- From some moment of the calls on a crash leaves such an image and no other.
pub record Onwards {D : Type 0} (d : Ghosts D) (old new : D) (Is : List ℕ → Type 0) : Type 0 where
  pub moment : ℕ
  pub begins : d.moment old ≤ moment
  pub ends : moment ≤ d.moment new
  pub left : (image : List ℕ) → d.left_since new moment image → Is image

-- ---- a write and the sync behind it

-- an image of before, torn
abbrev pub IsTorn : {D : Type 0} → Ghosts D → ℕ → List ℕ → D → List ℕ → Type 0
IsTorn d at bytes old image = (before : List ℕ) × d.may_leave old before × Torn at (length bytes) before image

-- whatever is answered, a crash leaves such images
pub record Puts {D : Type 0} (d : Ghosts D) (at : ℕ) (bytes : List ℕ) (old new : D) : Type 0 where
  pub tells : is_some (d.seen new) ≡ is_some (d.seen old)
  pub now : (image : List ℕ) → d.may_leave new image → IsTorn d at bytes old image
  pub since : Since d old new (IsTorn d at bytes old)

-- the bytes stand there, in the file and in each image, over what a crash could leave before
pub record HasPut {D : Type 0} (d : Ghosts D) (at : ℕ) (bytes : List ℕ) (old new : D) : Type 0 where
  pub seen : d.seen new ≡ option_map (written at bytes) (d.seen old)
  pub images : Follows (IsWritten at bytes) (d.may_leave old) (d.may_leave new)

-- ---- calls that change nothing

pub record IsQuiet {D : Type 0} (d : Ghosts D) (old new : D) : Type 0 where
  pub seen : d.seen new ≡ d.seen old
  pub now : NothingNew (d.may_leave old) (d.may_leave new)
  pub since : Since d old new (λ image. ⊥)
