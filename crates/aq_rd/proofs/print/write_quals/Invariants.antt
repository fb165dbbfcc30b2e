use Rattle.std.proofs.Common.{◌≡◌, ◌++◌, map, take}
use Rattle.aq_rules.specs.Lines.Canonical.{code_text}
use Rattle.aq_rd.specs.Printing.{behind_bars}
use Rattle.aq_rd.proofs.print.write_quals.Given as goal

abbrev pub invariant-loop-code : goal.invariant-loop-code
invariant-loop-code l = l.out.items ≡ l.initial.out.items ++ behind_bars (map code_text (take l.code-index l.quals))
