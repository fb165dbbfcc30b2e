-- The link of a row in its pieces, of which the first and the third are the same in all rows.
use Rattle.std.proofs.Common.{◌≡◌, ℕ, List, [], ◌∷◌, ◌++◌, flat_map, refl, ap, ◌∙◌, append_assoc}
use Rattle.std.specs.Prelude.{codes}
use Rattle.aq_pages.specs.Html.{escaped}
use Rattle.aq_rules.specs.Shown.Sheet.{SheetCell}
use Rattle.aq_browser.specs.Links.{labelled}
use Rattle.aq_browser.specs.Rows.{labelled_text, row_link, row_word, target_end, target_start, text_at, text_link, word_link}

same_link : (before behind text : List ℕ) → word_link (target_start before) (target_end behind) (escaped text) ≡ text_link before behind text
unfolding word_link target_start target_end text_link labelled_text labelled
same_link before behind text =
    let word = escaped text in
    append_assoc (codes "<a href=\"/page") before (word ++ ((behind ++ codes "\">") ++ (word ++ codes "</a>\n")))
    ∙ ap (λ (more : List ℕ). codes "<a href=\"/page" ++ (before ++ (word ++ more))) (append_assoc behind (codes "\">") (word ++ codes "</a>\n"))

pub same_links :
    (before behind : List ℕ) (place : ℕ) (rows : List (List SheetCell))
    → flat_map (row_word (target_start before) place (target_end behind)) rows ≡ flat_map (row_link before place behind) rows
same_links before behind place [] = refl
same_links before behind place (row ∷ rows) =
    ap (λ (link : List ℕ). link ++ flat_map (row_word (target_start before) place (target_end behind)) rows) (same_link before behind (text_at place row))
    ∙ ap (λ (links : List ℕ). row_link before place behind row ++ links) (same_links before behind place rows)
