use Rattle.std.proofs.Common.{◌≡◌, ◌++◌, take}
use Rattle.aq_rules.specs.Lines.Canonical.{code_text}
use Rattle.aq_rows.proofs.Written.{behind_spaces}
use Rattle.aq_rows.proofs.texts.write_codes.Given as goal

abbrev pub invariant-loop-code : goal.invariant-loop-code
invariant-loop-code l = l.out.items ≡ l.initial.out.items ++ behind_spaces code_text (take l.code-index l.rest)
