-- A text as it is written to a sink.
use Rattle.std.specs.Prelude.{◌≡◌, ℕ, ◌<◌, ◌≤◌, List, ◌++◌, length, take, Option, Result, OnOk, OnErr}
use Rattle.std.specs.Option.{option_map}
use Rattle.aq_outside.specs.Door.{HasCause}
use Rattle.aq_outside.specs.Outside.{SinkView}

-- a front of the text, all of it among them, went after what was written
pub record WritesFront (before after : Option (List ℕ)) (text : List ℕ) : Type 0 where
  pub count : ℕ
  pub within : count ≤ length text
  pub written : after ≡ option_map (λ bytes. bytes ++ take count text) before

-- all of the text did, or, if the count of faults rose, a front of a text with bytes
pub record Writes {A E : Type 0} (text : List ℕ) (before after : SinkView) (answer : Result A E) : Type 0 where
  pub whole : OnOk answer (after.written ≡ option_map (λ bytes. bytes ++ text) before.written)
  pub front : WritesFront before.written after.written text
  pub some : OnErr answer (0 < length text)
  pub cause : HasCause before.faults after.faults answer
