-- A text that is cut at its commas, one after the other.
use Rattle.std.specs.Prelude.{ℕ, List, [], Option, Some, None}
use Rattle.std.specs.Borrow.{Bor}
use Rattle.aq_rules.specs.Questions.Spelling.{between_commas}

-- what stands between the commas of what is left, if anything is
abbrev pub behind_comma : Option (Bor (List ℕ)) → List (List ℕ)
behind_comma None = []
behind_comma (Some rest) = between_commas rest.now
