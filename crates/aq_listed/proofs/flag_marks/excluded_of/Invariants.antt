use Rattle.std.proofs.Common.{◌≡◌, ◌++◌, drop, filter}
use Rattle.aq_listed.specs.FlagWords.{is_left_out}
use Rattle.aq_listed.proofs.flag_marks.excluded_of.Given as goal

abbrev pub invariant-loop-mark : goal.invariant-loop-mark
invariant-loop-mark l = l.excluded.items ++ filter (is_left_out l.registry l.site) (drop l.mark-index l.marks) ≡ filter (is_left_out l.registry l.site) l.marks
