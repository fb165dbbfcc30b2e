use Rattle.std.proofs.Common.{Option, Some, None, IfSome, ap}
use Rattle.aq_rules.specs.Kept.RowChanges.{PutRow}
use Rattle.aq_tables.proofs.sixteen.put_by.Goals as goal

if_some : {X : Type 0} {P Q : X → Type 0} (r : Option X) → ((x : X) → P x → Q x) → IfSome r P → IfSome r Q
if_some None f h = h
if_some (Some x) f h = f x h

pub returns-in-Put : goal.returns-in-Put
returns-in-Put c = rw (← c.change.view_is, c.in-Put.is) (if_some c.observation_in.result (λ row is. ap PutRow is) c.observation_in.ensures.some)
