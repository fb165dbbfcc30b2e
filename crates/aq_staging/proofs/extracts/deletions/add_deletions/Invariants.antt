use Rattle.std.proofs.Common.{◌≡◌, ◌++◌, None}
use Rattle.aq_staging.specs.Extracts.Judging.{span_of}
use Rattle.aq_staging.specs.Extracts.Texts.{dropped_lines, walked}
use Rattle.aq_staging.proofs.extracts.deletions.add_deletions.Given as goal

abbrev pub invariant-loop-key : goal.invariant-loop-key
invariant-loop-key g l =
    l.text.items ++ walked (dropped_lines (span_of l.days) l.rows l.shelf) l.before l.key-iterator
    ≡ l.fn.text.items ++ walked (dropped_lines (span_of l.days) l.rows l.shelf) None l.rows
