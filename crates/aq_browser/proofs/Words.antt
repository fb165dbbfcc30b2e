-- A word that is written where it is to stand, and is escaped as it is.
use Rattle.std.proofs.Common.{◌≡◌, ℕ, ◌-◌, true, List, [], ◌∷◌, ◌++◌, length, take, drop, refl, sym, ap, subst, ◌∙◌, arith}
use Rattle.std.specs.List.{list_all}
use Rattle.std.proofs.lemmas.List.{length-drop, take_all}
use Rattle.aq_pages.specs.Html.{escaped, is_plain}
use Rattle.aq_pages.proofs.Escapes.{plain_stays}

behind : (out text : List ℕ) → drop (length out) (out ++ text) ≡ text
behind [] text = refl
behind (byte ∷ out) text = behind out text

-- what stands from the end of what was there before
end_is :
    (out text all : List ℕ) (start : ℕ) → all ≡ out ++ text → start ≡ length out
    → take (length all - start) (drop start all) ≡ text
end_is out text all start is from =
    take_all (length all - start) (drop start all) (omega (arith, length-drop start all))
    ∙ (ap (λ (n : ℕ). drop n all) from ∙ (ap (λ (l : List ℕ). drop (length out) l) is ∙ behind out text))

pub plain_word :
    (out text all seen : List ℕ) (start : ℕ) → all ≡ out ++ text → seen ≡ all → start ≡ length out
    → list_all is_plain (take (length seen - start) (drop start seen)) ≡ true → all ≡ out ++ escaped text
plain_word out text all seen start is same from plain =
    let word : list_all is_plain text ≡ true = subst (λ (l : List ℕ). list_all is_plain l ≡ true) (end_is out text seen start (same ∙ is) from) plain in
    is ∙ ap (λ (l : List ℕ). out ++ l) (sym (plain_stays text word))
