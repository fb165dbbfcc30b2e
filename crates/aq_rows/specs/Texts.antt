-- Words with single spaces between them, as they are walked.
use Rattle.std.specs.Prelude.{ℕ, Bool, ◌==◌, Option, Some, None, List, []}
use Rattle.std.specs.Borrow.{Bor}
use Rattle.std.specs.List.{slice_split}
use Rattle.aq_rules.specs.Lines.Fields.{is_space}

abbrev pub is_byte : ℕ → ℕ → Bool
is_byte wanted byte = byte == wanted

abbrev pub words_left : Option (Bor (List ℕ)) → List (List ℕ)
words_left None = []
words_left (Some text) = slice_split is_space text.now

abbrev pub word_of : Bor (List ℕ) → List ℕ
word_of word = word.now
