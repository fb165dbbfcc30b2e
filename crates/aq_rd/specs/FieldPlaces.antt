-- Where the fields of a line start and end.
use Rattle.std.specs.Prelude.{◌≡◌, ℕ, ◌-◌, ◌<◌, ◌≤◌, Bool, true, false, not, ◌&&◌, nat_le, List, length, take, drop, slice_index_or}
use Rattle.std.specs.List.{list_all, list_any}
use Rattle.aq_rules.specs.Lines.Fields.{fields, field, trimmed, is_empty}
use Rattle.aq_rd.specs.declared.fields.TheConstants.{MOST_FIELDS}

-- whether a text stands among these
abbrev pub has_text : List (List ℕ) → Bool
has_text texts = list_any (λ text. not (is_empty text)) texts

-- a field stands between these places
abbrev pub StandsAt : List ℕ → ℕ → ℕ → ℕ → Type 0
StandsAt line number start end = trimmed (take (end - start) (drop start line)) ≡ field number (fields line)

-- whether all bytes are from one to the last printed one
abbrev pub are_between : ℕ → List ℕ → Bool
are_between least text = list_all (λ byte. nat_le least byte && nat_le byte 0x7E) text

-- that a text has no spaces is known by its bytes
abbrev pub HasSpaces : Bool → List ℕ → Type 0
HasSpaces has_spaces text = has_spaces ≡ false → are_between 0x21 text ≡ true

-- the fields are counted, and the first ones, and the one after them, start at these places
pub record HoldsFields (line : List ℕ) (starts : List ℕ) (count : ℕ) : Type 0 where
  pub within : (k : ℕ) → k ≤ MOST_FIELDS → slice_index_or starts k 0 ≤ length line
  pub rising : (number : ℕ) → 1 ≤ number → number ≤ MOST_FIELDS → number < count → slice_index_or starts (number - 1) 0 < slice_index_or starts number 0
  pub ended : (number : ℕ) → 1 ≤ number → number ≤ MOST_FIELDS → number < count → StandsAt line number (slice_index_or starts (number - 1) 0) (slice_index_or starts number 0 - 1)
  pub last : (number : ℕ) → 1 ≤ number → number ≤ MOST_FIELDS → count ≤ number → StandsAt line number (slice_index_or starts (number - 1) 0) (length line)
  pub counted : count ≡ length (fields line)
  pub behind : (k : ℕ) → k ≤ MOST_FIELDS → k < count → drop k (fields line) ≡ fields (drop (slice_index_or starts k 0) line)
