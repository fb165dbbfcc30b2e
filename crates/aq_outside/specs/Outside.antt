-- What contracts see of a source and of a sink: bytes that an object tells or does not tell (own).
use Rattle.std.specs.Prelude.{◌≡◌, ℕ, ◌<◌, ◌≤◌, List, [], ◌++◌, length, take, Option, IfSome}
use Rattle.std.specs.Option.{option_map}

-- a source: the bytes that are left, if it tells them, and how often it has failed
pub record SourceView : Type 0 where
  pub left : Option (List ℕ)
  pub faults : ℕ

-- a sink: the bytes that were written, if it tells them, and how often it has failed
pub record SinkView : Type 0 where
  pub written : Option (List ℕ)
  pub faults : ℕ

-- all that an object tells
abbrev pub IsAll : {A : Type 0} → Option (List A) → List A → Type 0
IsAll told all = IfSome told (λ items. items ≡ all)

-- a fact about all that an object tells, if it tells it, and else about some
pub record OfTold {A : Type 0} (told : Option (List A)) (Says : List A → Type 0) : Type 0 where
  pub all : List A
  pub is_all : IsAll told all
  pub says : Says all

-- the first n bytes that were left went into the buffer; none of a buffer with room is the end
pub record Moves (before after : Option (List ℕ)) (buffer : List ℕ) (n : ℕ) : Type 0 where
  pub within : n ≤ length buffer
  pub moved : before ≡ option_map (λ rest. take n buffer ++ rest) after
  pub end : n ≡ 0 → 0 < length buffer → IfSome before (λ left. left ≡ [])

-- the first n bytes of a piece went after what was written; of a piece with bytes at least one
pub record Takes (before after : Option (List ℕ)) (piece : List ℕ) (n : ℕ) : Type 0 where
  pub within : n ≤ length piece
  pub written : after ≡ option_map (λ bytes. bytes ++ take n piece) before
  pub some : 0 < length piece → 0 < n
