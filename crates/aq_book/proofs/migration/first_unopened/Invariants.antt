use Rattle.std.proofs.Common.{◌≡◌, ◌-◌, ◌<◌, ◌≤◌, true, false, length, take}
use Rattle.aq_rules.specs.Kept.Migration.{can_be_opened}
use Rattle.aq_book.proofs.migration.first_unopened.Given as goal

abbrev pub invariant-loop-bad : goal.invariant-loop-bad
invariant-loop-bad l = record {
  apart : l.good < l.bad;
  within : l.bad ≤ length l.rows;
  opened : can_be_opened (take l.good l.rows) ≡ true;
  unopened : can_be_opened (take l.bad l.rows) ≡ false;
}

abbrev pub decreases-loop-bad : goal.decreases-loop-bad
decreases-loop-bad l = l.bad - l.good
