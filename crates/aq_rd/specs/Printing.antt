-- A line as it is written, field by field.
use Rattle.std.specs.Prelude.{ℕ, List, [], ◌∷◌, ◌++◌, Option, Some, None}
use Rattle.aq_base.specs.declared.code.Code.{Code}
use Rattle.aq_rules.specs.Lines.Canonical.{code_text}

-- the texts, each after a bar
abbrev pub behind_bars : List (List ℕ) → List ℕ
behind_bars [] = []
behind_bars (text ∷ texts) = 124 ∷ text ++ behind_bars texts

abbrev pub null_text : Option Code → List ℕ
null_text None = []
null_text (Some code) = code_text code
