-- A date by its parts.
use Rattle.std.proofs.Common.{◌≡◌, ℕ, List, take, drop, refl, ap, ◌∙◌}
use Rattle.std.proofs.lemmas.List.{drop-drop}
use Rattle.aq_rules.specs.Lines.Spellings.{date_in}
use Rattle.aq_rules.specs.Questions.Spelling.{date_of}

pub date_in-parts : (text year month day rest : List ℕ) → year ≡ take 4 text → rest ≡ drop 4 text → month ≡ take 2 rest → day ≡ drop 2 rest → date_of year month day ≡ date_in text
unfolding date_in date_of
date_in-parts text year month day rest e f g h =
    let two : day ≡ drop 6 text = h ∙ ap (drop 2) f ∙ drop-drop 2 4 text in
    rw (two, g, f, e) refl
