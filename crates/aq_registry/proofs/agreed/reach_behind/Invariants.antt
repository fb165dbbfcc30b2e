use Rattle.std.proofs.Common.{◌≡◌, ◌≤◌, ℕ, List, Option, None, length, take, drop}
use Rattle.std.specs.List.{last_or}
use Rattle.aq_registry.specs.declared.agreed.Entry.{Entry}
use Rattle.aq_registry.specs.Agreed.{spans_of, AreChained, AreReached}
use Rattle.aq_registry.proofs.agreed.reach_behind.Given as goal

-- the entries before the place at hand have their reaches, and those from it on are as before
pub record IsReachedTo (old entries : List Entry) (before : Option Entry) (i : ℕ) : Type 0 where
  pub same : spans_of entries ≡ spans_of old
  pub reached : AreReached None (take i entries)
  pub chained : AreChained (drop i entries)
  pub last : before ≡ last_or None (take i entries)
  pub long : length entries ≡ length old
  pub within : i ≤ length old

abbrev pub invariant-loop-i : goal.invariant-loop-i
invariant-loop-i l = IsReachedTo l.fn.entries.items l.entries.items l.before l.i
