use Rattle.std.proofs.Common.{◌≡◌, [], map, drop, ap, arith}
use Rattle.std.proofs.lemmas.List.{drop_all}
use Rattle.aq_rules.specs.Lines.Canonical as line
use Rattle.aq_sheets.proofs.Lines.{words_done}
use Rattle.aq_sheets.proofs.export.write_codes.Goals as goal

pub returns : goal.returns
returns c =
    let none : drop c.loop-code.code-index c.args.codes.now ≡ [] = drop_all c.loop-code.code-index c.args.codes.now (omega arith) in
    words_done 32 c.args.out.now.items c.loop-code.out.items c.loop-code.space.now (map line.code_text c.args.codes.now) _ (ap (map line.code_text) none) c.loop-code.invariant
