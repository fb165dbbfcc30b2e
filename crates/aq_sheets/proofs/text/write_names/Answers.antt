use Rattle.std.proofs.Common.{◌≡◌, [], drop, arith}
use Rattle.std.proofs.lemmas.List.{drop_all}
use Rattle.aq_sheets.proofs.Lines.{line_done}
use Rattle.aq_sheets.proofs.text.write_names.Goals as goal

pub returns : goal.returns
returns c =
    let none : drop c.loop-name.name-index c.args.names.now ≡ [] = drop_all c.loop-name.name-index c.args.names.now (omega arith) in
    line_done 32 10 c.args.out.now.items c.loop-name.out.items c.push.new.self.items c.loop-name.space.now c.args.names.now _ none c.loop-name.invariant c.in_ok-push.ensures.items
