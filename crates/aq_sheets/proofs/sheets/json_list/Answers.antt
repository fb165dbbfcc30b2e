use Rattle.std.proofs.Common.{◌≡◌, [], ◌∷◌, map, drop, ap, arith}
use Rattle.std.proofs.lemmas.List.{drop_all}
use Rattle.aq_rules.specs.Shown.Json.{json_of}
use Rattle.aq_sheets.proofs.Lines.{line_done}
use Rattle.aq_sheets.proofs.sheets.json_list.Goals as goal

pub returns : goal.returns
returns c =
    let none : drop c.loop-sheet.sheet-index c.args.sheets.now ≡ [] = drop_all c.loop-sheet.sheet-index c.args.sheets.now (omega arith) in
    line_done 44 93 (91 ∷ []) c.loop-sheet.out.items c.push-2.new.self.items c.loop-sheet.comma.now (map json_of c.args.sheets.now) _ (ap (map json_of) none) c.loop-sheet.invariant c.in_ok-push-2.ensures.items
