-- What contracts see of the keepers in memory.
use Rattle.std.specs.Prelude.{ℕ, Bool, true, false, if◌then◌else◌, List, Some, Result, Ok, Err}
use Rattle.aq_keeper.specs.declared.keeper.KeeperFault.{KeeperFault}
use Rattle.aq_keeper.specs.declared.keeper.KeeperFault.TheVariants.{Failed, Memory}
use Rattle.aq_keeper.specs.Told.{KeeperView}
use Rattle.aq_rules.specs.Kept.Rows.{Row}

-- of the one that fails at the calls that it is told to: the tables' rows, the numbers of the calls that are to fail, the calls so far, how many of them failed, how many were commits, and whether it has its tables still
pub record KeeperState : Type 0 where
  pub tables : List Row
  pub failing : List ℕ
  pub calls : ℕ
  pub faults : ℕ
  pub commits : ℕ
  pub is_held : Bool

-- of the one that never fails while it has its tables: their rows, whether it has them still, how often it failed since, and its commits
pub record SteadyState : Type 0 where
  pub tables : List Row
  pub is_held : Bool
  pub faults : ℕ
  pub commits : ℕ

abbrev pub steady_view : SteadyState → KeeperView
steady_view keeper =
    record { tables = Some keeper.tables; faults = if keeper.is_held then 0 else keeper.faults; commits = keeper.commits; is_held = keeper.is_held }

-- whether a call failed
abbrev pub has_failed : {A : Type 0} → Result A KeeperFault → Bool
has_failed (Ok answer) = false
has_failed (Err Failed) = true
has_failed (Err Memory) = false
