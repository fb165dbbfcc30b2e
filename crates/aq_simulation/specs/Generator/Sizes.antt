-- How large a load's body may be.
use Rattle.std.specs.Prelude.{ℕ, ◌≤◌, List, length}
use Rattle.aq_rules.specs.Limits.{MOST_BYTES, MOST_LINES}
use Rattle.aq_rules.specs.Lines.Lines.{line_count}

pub record IsSmall (body : List ℕ) : Type 0 where
  pub bytes : length body ≤ MOST_BYTES
  pub lines : line_count body ≤ MOST_LINES
