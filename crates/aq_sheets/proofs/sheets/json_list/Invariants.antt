use Rattle.std.proofs.Common.{◌≡◌, [], ◌∷◌, ◌++◌, map, drop}
use Rattle.aq_rules.specs.Shown.Json.{json_of}
use Rattle.aq_sheets.proofs.Lines.{words_behind}
use Rattle.aq_sheets.proofs.sheets.json_list.Given as goal

abbrev pub invariant-loop-sheet : goal.invariant-loop-sheet
invariant-loop-sheet l =
    l.out.items ++ words_behind 44 l.comma (map json_of (drop l.sheet-index l.sheets)) ≡ 91 ∷ words_behind 44 [] (map json_of l.sheets)
