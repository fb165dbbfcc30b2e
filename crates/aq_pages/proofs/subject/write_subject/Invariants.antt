use Rattle.std.proofs.Common.{◌≡◌, ◌++◌, drop, false}
use Rattle.aq_pages.specs.Subject.{subject_from}
use Rattle.aq_pages.proofs.subject.write_subject.Given as goal

abbrev pub invariant-loop-line : goal.invariant-loop-line
invariant-loop-line l =
    l.out.items ++ subject_from l.begun l.start l.end (drop l.line-index l.lines)
    ≡ l.fn.out.items ++ subject_from false l.start l.end l.lines
