use Rattle.std.proofs.Common.{◌≡◌, ◌∷◌, drop}
use Rattle.aq_rules.specs.Kept.Rows.{tables_follow}
use Rattle.aq_book.proofs.version_1.do_tables_follow.Given as goal

abbrev pub invariant-loop-row : goal.invariant-loop-row
invariant-loop-row l = tables_follow (l.before ∷ drop l.row-index l.rest) ≡ tables_follow l.rows
