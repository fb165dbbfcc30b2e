-- What contracts see of a keeper: tables that it tells or does not tell, its counts of faults and of commits, and whether it has its tables still (own).
use Rattle.std.specs.Prelude.{◌≡◌, ℕ, Bool, false, Option, Some, None, IfSome, Result, Ok, Err, List}
use Rattle.aq_base.specs.Faults.{HasRisen, next, memory_text, failed_text}
use Rattle.aq_keeper.specs.declared.keeper.KeeperFault.{KeeperFault}
use Rattle.aq_keeper.specs.declared.keeper.KeeperFault.TheVariants.{Failed, Memory}
use Rattle.aq_rules.specs.Kept.Rows.{Row}

-- a keeper: the rows of its tables in the order of tables and keys, if it tells them, how often it has failed, how many batches it was asked to commit, and whether it has its tables still, or has let them go
pub record KeeperView : Type 0 where
  pub tables : Option (List Row)
  pub faults : ℕ
  pub commits : ℕ
  pub is_held : Bool

-- the same once it has let them go: what was told stays told
abbrev pub let_go : KeeperView → KeeperView
let_go keeper = record keeper { is_held = false }

-- A store may fail within a call, and its keeper then tells no more; it never begins to tell. So what a call
-- promises of what is told is said of what is told as it ends: it is as expected, and what was expected was told.
abbrev pub Stays : {A : Type 0} → Option A → Option A → Type 0
Stays expected after = IfSome after (λ told. expected ≡ Some told)

-- what was told before, if something is told still
abbrev pub told_through : {A : Type 0} → Option A → Option A → Option A
told_through before (Some told) = before
told_through before None = None

-- what the refusals of a keeper are called
abbrev pub fault_text : KeeperFault → List ℕ
fault_text Failed = failed_text
fault_text Memory = memory_text

-- a count rises at a call that fails, and at no other: want of memory is no fault
abbrev pub HasCause : {A : Type 0} → ℕ → ℕ → Result A KeeperFault → Type 0
HasCause before after (Ok answer) = after ≡ before
HasCause before after (Err Failed) = HasRisen before after
HasCause before after (Err Memory) = after ≡ before

-- how many faults are counted after a call: one more if it failed, and else as many as before
abbrev pub faults_after : {A : Type 0} → ℕ → Result A KeeperFault → ℕ
faults_after before (Ok answer) = before
faults_after before (Err Failed) = next before
faults_after before (Err Memory) = before
