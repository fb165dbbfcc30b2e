-- A sheet in words (own).
use Rattle.std.specs.Prelude.{ℕ, Bool, false, ◌&&◌, nat_lt, List, [], ◌∷◌, bytes_eq}
use Rattle.std.specs.List.{list_all}

-- the words of a line
abbrev pub Line : Type 0
Line = List (List ℕ)

-- a line for each head, which is its name and its word, the names of the columns, and a line for each row
pub record PageSheet : Type 0 where
  pub heads : List Line
  pub columns : Line
  pub rows : List Line

-- printed bytes without spaces, one at least
abbrev pub is_graphic : ℕ → Bool
is_graphic byte = nat_lt 32 byte && nat_lt byte 127

abbrev pub is_word : List ℕ → Bool
is_word [] = false
is_word (byte ∷ bytes) = list_all is_graphic (byte ∷ bytes)

-- a head has its name and one word
abbrev pub is_head : List ℕ → Line → Bool
is_head name (word ∷ value ∷ []) = bytes_eq word name && is_word value
is_head name _ = false
