-- What contracts see of the sources and sinks in memory, which fail at the calls that they are told to.
use Rattle.std.specs.Prelude.{ℕ, Bool, false, nat_le, List, [], ◌∷◌, length}

-- the bytes left, the numbers of the calls that are to fail, the calls so far, and how many of them failed
pub record SourceState : Type 0 where
  pub left : List ℕ
  pub failing : List ℕ
  pub calls : ℕ
  pub faults : ℕ

-- the bytes written, and how many there is room for
pub record SinkState : Type 0 where
  pub written : List ℕ
  pub room : ℕ
  pub failing : List ℕ
  pub calls : ℕ
  pub faults : ℕ

-- whether a piece with bytes finds all room taken
abbrev pub finds_no_room : SinkState → List ℕ → Bool
finds_no_room sink [] = false
finds_no_room sink (_ ∷ _) = nat_le sink.room (length sink.written)
