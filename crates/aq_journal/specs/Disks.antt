-- What the calls of a disk do to its bytes, and what a crash may leave of them, at any moment (own).
use Rattle.std.specs.Prelude.{◌≡◌, ◌⊎◌, ℕ, ◌+◌, ◌-◌, ◌<◌, ◌≤◌, min, max, true, List, ◌++◌, length, take, drop, replicate, Option, Some, None, is_some, Result, Ok, Err}
use Rattle.aq_base.specs.Faults.{HasRisen}
use Rattle.aq_base.specs.declared.refusal.Failed.{Failed}

-- a count rises at a call that fails, and at no other
abbrev pub HasCause : {A : Type 0} → ℕ → ℕ → Result A Failed → Type 0
HasCause before after (Ok answer) = after ≡ before
HasCause before after (Err failed) = HasRisen before after

-- A disk may stop telling within a call, and never begins to. So what a call promises of what is told is said of a disk that still tells as the call ends.
abbrev pub IfTells : Option (List ℕ) → Type 0 → Type 0
IfTells seen P = is_some seen ≡ true → P

-- ---- bytes

-- n bytes from a place on stand at the front of the buffer: at least one, if one is there and the buffer has room
pub record Gives (bytes : List ℕ) (at : ℕ) (buffer : List ℕ) (n : ℕ) : Type 0 where
  pub there : n ≤ length bytes - at
  pub same : take n buffer ≡ take n (drop at bytes)
  pub some : 0 < length buffer → at < length bytes → 0 < n

-- the bytes with a piece written at a place: zeros fill what is between the old end and a place behind it
abbrev pub written : ℕ → List ℕ → List ℕ → List ℕ
written at piece bytes = take at bytes ++ replicate (at - length bytes) 0 ++ piece ++ drop (at + length piece) bytes

-- an image with the piece written
abbrev pub IsWritten : ℕ → List ℕ → List ℕ → List ℕ → Type 0
IsWritten at piece before image = image ≡ written at piece before

-- what a crash may make of a write of n bytes: any bytes in the range and past the old end, the others as they were
pub record Torn (at n : ℕ) (old new : List ℕ) : Type 0 where
  pub before : take (min at (length old)) new ≡ take at old
  pub after : drop (at + n) new ≡ drop (at + n) old
  pub no_shorter : length old ≤ length new
  pub no_longer : length new ≤ max (length old) (at + n)

-- what a failed write makes of bytes that are told
abbrev pub TornIfTold : ℕ → ℕ → Option (List ℕ) → Option (List ℕ) → Type 0
TornIfTold at n (Some old) (Some new) = Torn at n old new
TornIfTold at n None None = Unit {0}
TornIfTold at n (Some old) None = ⊥
TornIfTold at n None (Some new) = ⊥

-- ---- what a crash leaves: images, lists of bytes

-- these bytes and nothing else
abbrev pub Only : List ℕ → (List ℕ → Type 0) → Type 0
Only bytes may_leave = (image : List ℕ) → may_leave image → image ≡ bytes

-- nothing but what it could leave before
abbrev pub NothingNew : (List ℕ → Type 0) → (List ℕ → Type 0) → Type 0
NothingNew old new = (image : List ℕ) → new image → old image

-- each of the images is one of before, after a step
abbrev pub Follows : (List ℕ → List ℕ → Type 0) → (List ℕ → Type 0) → (List ℕ → Type 0) → Type 0
Follows step old new = (image : List ℕ) → new image → (before : List ℕ) × old before × step before image

-- Time goes on: a crash since a moment might have left what it might have left before, or what it may leave now.
pub record Elapses (before now : ℕ) (past since : ℕ → List ℕ → Type 0) (may_leave : List ℕ → Type 0) : Type 0 where
  pub later : before ≤ now
  pub nothing_else : (moment : ℕ) (image : List ℕ) → moment ≤ before → since moment image → past moment image ⊎ may_leave image
  pub keeps : (moment : ℕ) (image : List ℕ) → moment ≤ before → past moment image → since moment image
