-- The qualifier codes of an observation: a list of at most ten codes, none twice, in the order of the line.
use Rattle.std.specs.Prelude.{ℕ, Bool, true, not, ◌&&◌, ◌==◌, if◌then◌else◌, IsTrue, List, [], ◌∷◌, ◌++◌, take}
use Rattle.std.specs.List.{list_any}
use Rattle.aq_base.specs.Padded.{Holds, padded_to}
use Rattle.aq_base.specs.declared.code.Code.{Code}
use Rattle.aq_base.specs.declared.quals.TheConstants.{MOST_QUALIFIERS}

abbrev pub is_same_code : Code → Code → Bool
is_same_code a b = (a.first == b.first) && (a.second == b.second)

abbrev pub has_code : Code → List Code → Bool
has_code code codes = list_any (λ other. is_same_code other code) codes

abbrev pub all_distinct : List Code → Bool
all_distinct [] = true
all_distinct (code ∷ codes) = not (has_code code codes) && all_distinct codes

-- the codes with one more at the end, or as they are if it is there
abbrev pub with_code : List Code → Code → List Code
with_code codes code = if has_code code codes then codes else codes ++ code ∷ []

-- the code of no characters, which fills the places after the last code
abbrev pub blank : Code
blank = record { first = 0; second = 0 }

abbrev pub padded : List Code → List Code
padded codes = padded_to MOST_QUALIFIERS blank codes

-- the first `count` places hold distinct codes, and the others the blank
pub record HoldsCodes (places : List Code) (count : ℕ) : Type 0 where
  pub held : Holds MOST_QUALIFIERS blank places count
  pub distinct : IsTrue (all_distinct (take count places))
