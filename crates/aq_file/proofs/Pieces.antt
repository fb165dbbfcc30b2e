-- Bytes that were read.
use Rattle.std.proofs.Common.{◌≡◌, ◌<◌, ℕ, List, length, subst, arith}
use Rattle.std.specs.Prelude.{OnOk, Result, Ok, Err}
use Rattle.sqlite_disk.specs.Disk.{Holds}

-- They are there in a file that is the same, as many as there was room for.
pub holds_then : {T E : Type 0} (answer : Result T E) (P : Type 0) (there file : List ℕ) (at : ℕ) (room piece : List ℕ) → there ≡ file → length piece ≡ length room → OnOk answer (P → 0 < length room → Holds there at piece) → OnOk answer (P → 0 < length piece → Holds file at piece)
holds_then (Ok done) P there file at room piece same long holds = λ clean some. subst (λ (bytes : List ℕ). Holds bytes at piece) same (holds clean (omega (arith, some, long)))
holds_then (Err fault) P there file at room piece same long holds = tt
