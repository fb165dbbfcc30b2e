use Rattle.std.proofs.Common.{◌≡◌, [], ◌++◌, drop}
use Rattle.aq_sheets.proofs.Lines.{words_behind}
use Rattle.aq_sheets.proofs.text.write_names.Given as goal

abbrev pub invariant-loop-name : goal.invariant-loop-name
invariant-loop-name l =
    l.out.items ++ words_behind 32 l.space (drop l.name-index l.names) ≡ l.fn.out.items ++ words_behind 32 [] l.names
