-- A head as the program keeps it: by its parts' places.
use Rattle.std.specs.Prelude.{ℕ, ◌≤◌, Bool}
use Rattle.aq_rules.specs.Limits.{MOST_BYTES}
use Rattle.aq_http.specs.declared.limits.TheConstants.{MOST_HEAD}
use Rattle.aq_http.specs.declared.verb.Verb.{Verb}

-- the target goes from `start` to `end`
pub record HeadPlaces : Type 0 where
  pub head_bytes : ℕ
  pub body_bytes : ℕ
  pub verb : Verb
  pub start : ℕ
  pub end : ℕ
  pub close : Bool

pub record IsHeadPlaces (places : HeadPlaces) : Type 0 where
  pub ordered : places.start ≤ places.end
  pub within : places.end ≤ places.head_bytes
  pub short : places.head_bytes ≤ MOST_HEAD
  pub body : places.body_bytes ≤ MOST_BYTES
