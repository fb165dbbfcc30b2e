use Rattle.std.proofs.Common.{◌≡◌, ◌++◌, drop}
use Rattle.std.specs.Prelude.{flat_map}
use Rattle.aq_listed.specs.Marks.{marks_at}
use Rattle.aq_listed.proofs.site_marks.add_codes.Given as goal

abbrev pub invariant-loop-code : goal.invariant-loop-code
invariant-loop-code l = l.marks.items ++ flat_map (marks_at l.key) (drop l.code-index l.carried) ≡ l.fn.marks.items ++ flat_map (marks_at l.key) l.carried
