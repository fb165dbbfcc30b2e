-- The lines of a load's body (own; the comments are those of the AQS raw data transaction format).
use Rattle.std.specs.Prelude.{ℕ, ◌+◌, Bool, true, not, ◌&&◌, ◌==◌, if◌then◌else◌, List, [], ◌∷◌, length, take, drop, map, filter, bytes_eq}
use Rattle.std.specs.List.{onto_first}
use Rattle.aq_rules.specs.Lines.Fields.{is_empty, without_front}

-- a line that is not skipped, by its number in the body from 1
pub record NumberedLine : Type 0 where
  pub number : ℕ
  pub text : List ℕ

-- the byte order mark of UTF-8
abbrev pub BYTE_ORDER_MARK : List ℕ
BYTE_ORDER_MARK = 0xEF ∷ 0xBB ∷ 0xBF ∷ []

abbrev pub without_mark : List ℕ → List ℕ
without_mark body = if bytes_eq (take 3 body) BYTE_ORDER_MARK then drop 3 body else body

-- each line ends with LF, and the last one needs no end
abbrev pub cut_at_ends : List ℕ → List (List ℕ)
cut_at_ends [] = []
cut_at_ends (byte ∷ bytes) = if byte == 10 then [] ∷ cut_at_ends bytes else onto_first byte (cut_at_ends bytes)

-- a line without one CR at its end
abbrev pub without_return : List ℕ → List ℕ
without_return [] = []
without_return (byte ∷ bytes) = if (byte == 13) && is_empty bytes then [] else byte ∷ without_return bytes

-- all lines of a body, the skipped ones among them
abbrev pub texts : List ℕ → List (List ℕ)
texts body = map without_return (cut_at_ends (without_mark body))

abbrev pub line_count : List ℕ → ℕ
line_count body = length (texts body)

abbrev pub is_blank_or_comment : List ℕ → Bool
is_blank_or_comment [] = true
is_blank_or_comment (byte ∷ bytes) = byte == 35

-- a line of no bytes or of spaces alone, or one whose first byte other than a space is `#`
abbrev pub is_skipped : List ℕ → Bool
is_skipped text = is_blank_or_comment (without_front text)

abbrev pub numbered : ℕ → List (List ℕ) → List NumberedLine
numbered number [] = []
numbered number (text ∷ texts) = record { number = number; text = text } ∷ numbered (number + 1) texts

abbrev pub body_lines : List ℕ → List NumberedLine
body_lines body = filter (λ line. not (is_skipped line.text)) (numbered 1 (texts body))
