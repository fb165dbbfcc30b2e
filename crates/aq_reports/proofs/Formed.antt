-- Cells, heads and rows that are well formed, and the sheet of them.
use Rattle.std.proofs.Common.{◌≡◌, ℕ, true, List, length, ap, subst, sym, ◌∙◌}
use Rattle.std.specs.List.{list_all}
use Rattle.std.proofs.lemmas.Bool.{and_parts}
use Rattle.aq_rules.specs.Shown.Sheet.{SheetCell, Head, Sheet}
use Rattle.aq_rules.specs.Shown.WellFormed.{IsWellFormed, all_differ, is_head, is_word, names_in}
use Rattle.aq_rules.proofs.SheetCells.{count, site-word, standard-word, truth-word, verdict-word}
use Rattle.aq_reports.specs.Formed.{are_heads, are_rows}

pub ruleset words = (count, site-word, standard-word, truth-word, verdict-word)

abbrev sheet_of : List Head → List (List ℕ) → List (List SheetCell) → Sheet
sheet_of heads columns rows = record { heads = heads; columns = columns; rows = rows }

pub sheet-formed : (sheet : Sheet) (heads : List Head) (columns names : List (List ℕ)) (rows : List (List SheetCell))
    → sheet ≡ sheet_of heads columns rows → columns ≡ names → list_all is_word names ≡ true
    → are_heads heads ≡ true → are_rows (length names) rows ≡ true → IsWellFormed sheet
sheet-formed sheet heads columns names rows made named words are rowed =
    let parts = and_parts (list_all is_head heads) (all_differ (names_in heads)) are in
    let same : sheet ≡ sheet_of heads names rows = made ∙ ap (λ (c : List (List ℕ)). sheet_of heads c rows) named in
    subst IsWellFormed (sym same) (record { heads = parts.0; names_differ = parts.1; columns = words; rows = rowed })
