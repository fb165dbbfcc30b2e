use Rattle.std.proofs.Common.{◌≡◌, ◌++◌, take}
use Rattle.aq_rules.proofs.RowTexts.{rest_write}
use Rattle.aq_rows.proofs.Written.{behind_spaces}
use Rattle.aq_rows.proofs.texts.write_rest.Given as goal

abbrev pub invariant-loop-counted : goal.invariant-loop-counted
invariant-loop-counted l = l.out.items ≡ l.initial.out.items ++ behind_spaces rest_write (take l.counted-index l.rest)
