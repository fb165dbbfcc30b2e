use Rattle.std.proofs.Common.{◌≡◌, ◌≤◌, ℕ, List, Option, None, length, take}
use Rattle.std.specs.List.{last_or}
use Rattle.std.specs.Vec.{vec_capacity}
use Rattle.aq_registry.specs.declared.agreed.Entry.{Entry}
use Rattle.aq_registry.specs.Agreed.{spans_of, AreReached}
use Rattle.aq_registry.proofs.agreed.reach.Given as goal

-- the entries before the place at hand have their reaches, and there is as much room as before
pub record IsReachedTo (old_room room : ℕ) (old entries : List Entry) (before : Option Entry) (i : ℕ) : Type 0 where
  pub same : spans_of entries ≡ spans_of old
  pub reached : AreReached None (take i entries)
  pub last : before ≡ last_or None (take i entries)
  pub long : length entries ≡ length old
  pub within : i ≤ length old
  pub as_large : room ≡ old_room

abbrev pub invariant-loop-i : goal.invariant-loop-i
invariant-loop-i l = IsReachedTo (vec_capacity l.fn.entries) (vec_capacity l.entries) l.fn.entries.items l.entries.items l.before l.i
