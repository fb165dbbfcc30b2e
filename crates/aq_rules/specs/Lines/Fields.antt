-- The fields of a line: its parts round the bars, without the spaces round each (AQS raw data transaction format).
use Rattle.std.specs.Prelude.{ℕ, ◌-◌, Bool, true, false, ◌==◌, if◌then◌else◌, List, [], ◌∷◌, map, slice_index_or}
use Rattle.std.specs.List.{slice_split}

abbrev pub is_empty : List ℕ → Bool
is_empty [] = true
is_empty (byte ∷ bytes) = false

abbrev pub is_space : ℕ → Bool
is_space byte = byte == 32

abbrev pub is_bar : ℕ → Bool
is_bar byte = byte == 124

-- a text without the spaces at its start
abbrev pub without_front : List ℕ → List ℕ
without_front [] = []
without_front (byte ∷ bytes) = if is_space byte then without_front bytes else byte ∷ bytes

-- a byte before a text, unless it is a space and nothing follows
abbrev pub onto_text : ℕ → List ℕ → List ℕ
onto_text byte [] = if is_space byte then [] else byte ∷ []
onto_text byte (next ∷ bytes) = byte ∷ next ∷ bytes

-- a text without the spaces at its end
abbrev pub without_back : List ℕ → List ℕ
without_back [] = []
without_back (byte ∷ bytes) = onto_text byte (without_back bytes)

abbrev pub trimmed : List ℕ → List ℕ
trimmed text = without_back (without_front text)

abbrev pub fields : List ℕ → List (List ℕ)
fields line = map trimmed (slice_split is_bar line)

-- a field by its number from 1, empty if the line has none
abbrev pub field : ℕ → List (List ℕ) → List ℕ
field number texts = slice_index_or texts (number - 1) []
