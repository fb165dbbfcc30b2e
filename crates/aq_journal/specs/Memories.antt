-- What contracts see of the disk in memory: the calls that changed it, and from them the images of each moment.
use Rattle.std.specs.Prelude.{◌≡◌, ◌⊎◌, ℕ, zero, suc, List, [], ◌∷◌, length, fold, Option, Some, None, Result, Ok, Err}
use Rattle.std.proofs.Common.{inl, inr, refl, sym, subst}
use Rattle.aq_base.specs.Faults.{next}
use Rattle.aq_base.specs.declared.refusal.Failed.{Failed}
use Rattle.aq_journal.specs.declared.memory_disk.Call.{Call}
use Rattle.aq_journal.specs.declared.memory_disk.Call.TheVariants.{Wrote, Tore, Synced}
use Rattle.aq_journal.specs.Disks.{Torn, written}

-- the bytes at first, the calls that changed what a crash may leave, the numbers of the calls that are to fail, the calls so far, and how many of them failed
pub record DiskState : Type 0 where
  pub first : List ℕ
  pub changes : List Call
  pub failing : List ℕ
  pub calls : ℕ
  pub faults : ℕ

-- the bytes as they read, those of the last sync, and the writes since, the latest first
pub record Moment : Type 0 where
  pub bytes : List ℕ
  pub synced : List ℕ
  pub unsynced : List Call

abbrev pub at_first : List ℕ → Moment
at_first bytes = record { bytes = bytes; synced = bytes; unsynced = [] }

abbrev pub after_call : Moment → Call → Moment
after_call m (Wrote at piece) = record { bytes = written at piece m.bytes; synced = m.synced; unsynced = Wrote at piece ∷ m.unsynced }
after_call m (Tore at size) = record { bytes = m.bytes; synced = m.synced; unsynced = Tore at size ∷ m.unsynced }
after_call m Synced = record { bytes = m.bytes; synced = m.bytes; unsynced = [] }

abbrev pub after_calls : Moment → List Call → Moment
after_calls m calls = fold after_call m calls

abbrev pub moment_now : DiskState → Moment
moment_now disk = after_calls (at_first disk.first) disk.changes

abbrev pub bytes_now : DiskState → List ℕ
bytes_now disk = (moment_now disk).bytes

-- the bytes that stand: those of before the first write, or those after the last
abbrev pub current : List ℕ → Option (List ℕ) → List ℕ
current first None = first
current first (Some now) = now

-- a call that leaves the bytes as they read
abbrev pub IsQuiet : Call → Type 0
IsQuiet (Wrote at piece) = ⊥
IsQuiet (Tore at size) = Unit {0}
IsQuiet Synced = Unit {0}

-- ---- images

-- what a crash may make of a write: all of it, or any bytes in its range and past the old end
abbrev pub MayMake : Call → List ℕ → List ℕ → Type 0
MayMake (Wrote at piece) before image = (image ≡ written at piece before) ⊎ Torn at (length piece) before image
MayMake (Tore at size) before image = (image ≡ before) ⊎ Torn at size before image
MayMake Synced before image = ⊥

-- the bytes of the last sync, and what may be made of each write since
abbrev pub AreMade : List Call → List ℕ → List ℕ → Type 0
AreMade [] synced image = image ≡ synced
AreMade (call ∷ calls) synced image = (before : List ℕ) × AreMade calls synced before × MayMake call before image

abbrev pub IsImage : Moment → List ℕ → Type 0
IsImage m image = AreMade m.unsynced m.synced image

abbrev pub MayLeave : DiskState → List ℕ → Type 0
MayLeave disk image = IsImage (moment_now disk) image

-- an image of one of the moments, but for so many of the first
abbrev pub LeftFrom : Moment → List Call → ℕ → List ℕ → Type 0
LeftFrom m [] t image = IsImage m image
LeftFrom m (call ∷ calls) zero image = IsImage m image ⊎ LeftFrom (after_call m call) calls zero image
LeftFrom m (call ∷ calls) (suc t) image = LeftFrom (after_call m call) calls t image

abbrev pub LeftSince : DiskState → ℕ → List ℕ → Type 0
LeftSince disk t image = LeftFrom (at_first disk.first) disk.changes t image

abbrev pub faults_after : {A : Type 0} → ℕ → Result A Failed → ℕ
faults_after before (Ok answer) = before
faults_after before (Err failed) = next before

-- ---- what a disk owes of its images

pub is_counted : (m : Moment) (calls : List Call) (t : ℕ) (image : List ℕ) → IsImage (after_calls m calls) image → LeftFrom m calls t image
is_counted m [] t image now = now
is_counted m (call ∷ calls) zero image now = inr (is_counted (after_call m call) calls zero image now)
is_counted m (call ∷ calls) (suc t) image now = is_counted (after_call m call) calls t image now

pub is_last : (m : Moment) (calls : List Call) (image : List ℕ) → LeftFrom m calls (length calls) image → IsImage (after_calls m calls) image
is_last m [] image left = left
is_last m (call ∷ calls) image left = is_last (after_call m call) calls image left

reads_then : (m : Moment) (call : Call) → IsImage m m.bytes → IsImage (after_call m call) (after_call m call).bytes
reads_then m (Wrote at piece) reads = (m.bytes, reads, inl refl)
reads_then m (Tore at size) reads = (m.bytes, reads, inl refl)
reads_then m Synced reads = refl

pub reads_image : (m : Moment) (calls : List Call) → IsImage m m.bytes → IsImage (after_calls m calls) (after_calls m calls).bytes
reads_image m [] reads = reads
reads_image m (call ∷ calls) reads = reads_image (after_call m call) calls (reads_then m call reads)

-- the bytes as they read, and no others, are an image
pub reads_alone : (m : Moment) (calls : List Call) (image : List ℕ) → IsImage m m.bytes → image ≡ (after_calls m calls).bytes → IsImage (after_calls m calls) image
reads_alone m calls image reads is = subst (λ (bytes : List ℕ). IsImage (after_calls m calls) bytes) (sym is) (reads_image m calls reads)

pub first_reads : (bytes : List ℕ) → IsImage (at_first bytes) bytes
first_reads bytes = refl
