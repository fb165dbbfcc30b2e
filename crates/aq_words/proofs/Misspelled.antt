-- A text that does not spell its part, part by part.
use Rattle.std.proofs.Common.{◌≡◌, ℕ, zero, suc, get_or, Bool, true, false, not, ◌&&◌, ◌||◌, List, [], ◌∷◌, drop, map, length, ◌<◌, ◌≤◌, min, refl, ap, sym, ◌∙◌, arith}
use Rattle.std.specs.Prelude.{if◌then◌else◌, is_none, is_some, Option, Some, None}
use Rattle.aq_rules.specs.Questions.Asking.{is_misspelled, is_sought, named_by}
use Rattle.aq_rules.specs.Questions.Table.{Part, OfStandard, OfPairStandard, OfSite, OfParameter, OfYear, OfEndYear, OfDay, OfNumber, OfList, OfArea}
use Rattle.aq_words.specs.Parts.{is_spelled, is_wrong, part_of}
use Rattle.aq_words.specs.Texts.{texts_of}
use Rattle.std.specs.Borrow.{Bor}
use Rattle.aq_words.specs.declared.parts.Part as code

not_some : {A : Type 0} (o : Option A) → is_none o ≡ not (is_some o)
not_some None = refl
not_some (Some x) = refl

unspelled : (part : Part) (text : List ℕ) → is_none (named_by part text) ≡ not (is_spelled part text)
unspelled OfStandard text = not_some (named_by OfStandard text)
unspelled OfPairStandard text = not_some (named_by OfPairStandard text)
unspelled OfSite text = not_some (named_by OfSite text)
unspelled OfParameter text = not_some (named_by OfParameter text)
unspelled OfYear text = not_some (named_by OfYear text)
unspelled OfEndYear text = not_some (named_by OfEndYear text)
unspelled OfDay text = not_some (named_by OfDay text)
unspelled OfNumber text = not_some (named_by OfNumber text)
unspelled OfList text = not_some (named_by OfList text)
unspelled OfArea text = not_some (named_by OfArea text)

wrong : (sought spelled none : Bool) → none ≡ not spelled → (if sought then false else none) ≡ (not sought && not spelled)
wrong true spelled none n = refl
wrong false spelled none n = n

pub first-part : (part : Part) (parts : List Part) (text : List ℕ) (texts : List (List ℕ)) → is_misspelled (part ∷ parts) (text ∷ texts) ≡ (is_wrong part text || is_misspelled parts texts)
first-part part parts text texts =
    ap (λ b. b || is_misspelled parts texts) (wrong (is_sought part) (is_spelled part text) (is_none (named_by part text)) (unspelled part text))

-- what is left from a place on, by the part and the text there
pub from_place : (parts : List code.Part) (texts : List (Bor (List ℕ))) (place : ℕ) (part : code.Part) (text : Bor (List ℕ)) → place < length parts → place < length texts
    → is_misspelled (drop place (map part_of parts)) (drop place (texts_of texts))
    ≡ (is_wrong (part_of (get_or parts place part)) (get_or texts place text).now || is_misspelled (drop (suc place) (map part_of parts)) (drop (suc place) (texts_of texts)))
from_place [] texts place part text some more = absurd (omega (arith, some))
from_place (p ∷ parts) [] place part text some more = absurd (omega (arith, more))
from_place (p ∷ parts) (t ∷ texts) zero part text some more = first-part (part_of p) (map part_of parts) t.now (texts_of texts)
from_place (p ∷ parts) (t ∷ texts) (suc place) part text some more = from_place parts texts place part text (omega (arith, some)) (omega (arith, more))

no_texts : (parts : List Part) → is_misspelled parts [] ≡ false
no_texts [] = refl
no_texts (part ∷ parts) = refl

-- nothing is left behind the last part, or the last text
pub nothing_left : (parts : List code.Part) (texts : List (Bor (List ℕ))) (place : ℕ) → min (length parts) (length texts) ≤ place
    → is_misspelled (drop place (map part_of parts)) (drop place (texts_of texts)) ≡ false
nothing_left [] texts zero all = refl
nothing_left [] texts (suc place) all = refl
nothing_left (p ∷ parts) [] zero all = refl
nothing_left (p ∷ parts) [] (suc place) all = no_texts (drop place (map part_of parts))
nothing_left (p ∷ parts) (t ∷ texts) zero all = absurd (omega (arith, all))
nothing_left (p ∷ parts) (t ∷ texts) (suc place) all = nothing_left parts texts place (omega (arith, all))
