use Rattle.std.proofs.Common.{◌≡◌, ◌++◌, take}
use Rattle.aq_rules.proofs.RowTexts.{listed_write}
use Rattle.aq_rows.proofs.Written.{behind_spaces}
use Rattle.aq_rows.proofs.texts.write_listed.Given as goal

abbrev pub invariant-loop-listed : goal.invariant-loop-listed
invariant-loop-listed l = l.out.items ≡ l.initial.out.items ++ behind_spaces listed_write (take l.listed-index l.rest)
