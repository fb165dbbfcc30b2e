-- Until when a request is to have come whole and its reply to have been taken whole, as reads and writes leave it (own). What the clock says is no part of it.
use Rattle.std.specs.Prelude.{◌≡◌, ℕ, ◌<◌, true, List, length, Option, Some, None, Result, Ok, Err}
use Rattle.std.specs.Option.{is_some}
use Rattle.aq_outside.specs.declared.host.waits.Deadlines.{Deadlines}
use Rattle.aq_outside.specs.declared.host.waits.Came.{Came}

-- no request has begun, and no reply
abbrev pub none_begun : Deadlines
none_begun = record { request = None; reply = None }

-- a deadline that stands stays, and if none stands one is set
abbrev pub IsSet : {A : Type 0} → Option A → Option A → Type 0
IsSet (Some until) after = after ≡ Some until
IsSet None after = is_some after ≡ true

-- behind a read that is answered a request has begun: its deadline is the one that it began with. A read that fails changes nothing.
abbrev pub AfterRead : {E : Type 0} → Deadlines → Deadlines → Result ℕ E → Type 0
AfterRead before after (Ok n) = IsSet before.request after.request × (after.reply ≡ before.reply)
AfterRead before after (Err fault) = after ≡ before

-- once n bytes of a reply are taken, of what is left of it, its request has come whole. The reply keeps the deadline that it began with until it is taken whole. A write that fails changes nothing.
abbrev pub AfterWrite : {E : Type 0} → Deadlines → Deadlines → List ℕ → Result ℕ E → Type 0
AfterWrite before after piece (Ok n) =
    (after.request ≡ None) × (n < length piece → IsSet before.reply after.reply) × (n ≡ length piece → after.reply ≡ None)
AfterWrite before after piece (Err fault) = after ≡ before

-- ---- a read that waits for a time

-- as a read says it: where nothing came in time it is a failure
abbrev pub came : {E : Type 0} → Result (Option ℕ) E → Result ℕ Unit
came (Ok (Some n)) = Ok n
came (Ok None) = Err tt
came (Err fault) = Err tt

abbrev pub count_that_came : {E : Type 0} → Result Came E → Result ℕ E
count_that_came (Ok some) = Ok some.count
count_that_came (Err fault) = Err fault
