-- A connection's bytes so far, as far as the first request of them (RFC 9112, sections 2 to 6 and 9).
use Rattle.std.specs.Prelude.{◌≡◌, ℕ, ◌+◌, Bool, nat_le, if◌then◌else◌, List, length, take, drop}
use Rattle.aq_http.specs.Head.{Head, HeadStep, IsHeadStep}
use Rattle.aq_http.specs.Head as head
use Rattle.aq_http.specs.declared.verb.Verb.{Verb}
use Rattle.aq_http.specs.declared.step.Request.{Request as ReadRequest}
use Rattle.aq_http.specs.declared.step.Step.{Step as Read}
use Rattle.aq_http.specs.declared.step.Step.TheVariants as read

-- a whole request: how many bytes it has, and whether the connection ends after its reply
pub record Request : Type 0 where
  pub used : ℕ
  pub verb : Verb
  pub target : List ℕ
  pub body : List ℕ
  pub close : Bool

-- what is due: more bytes, or the reply that refuses the request and ends the connection, or the reply to a whole request
pub data Step : Type 0 where
  More : Step
  Refuse : (status : ℕ) → Step
  Whole : (request : Request) → Step

-- the request of a head and the body after it
abbrev pub request_in : List ℕ → Head → Request
request_in input h = record {
  used = h.head_bytes + h.body_bytes;
  verb = h.verb;
  target = h.target;
  body = take h.body_bytes (drop h.head_bytes input);
  close = h.close;
}

-- a request is whole as soon as all of its body is there
abbrev pub with_body : List ℕ → Head → Step
with_body input h = if nat_le (h.head_bytes + h.body_bytes) (length input) then Whole (request_in input h) else More

abbrev pub step_behind : List ℕ → HeadStep → Step
step_behind input head.More = More
step_behind input (head.Refuse status) = Refuse status
step_behind input (head.Whole h) = with_body input h

-- the step to which a connection's bytes so far come
pub record IsStep (input : List ℕ) (step : Step) : Type 0 where
  pub head_step : HeadStep
  pub stands : IsHeadStep input head_step
  pub is : step_behind input head_step ≡ step

-- as the program has it
abbrev pub request_of : ReadRequest → Request
request_of request = record {
  used = request.used;
  verb = request.verb;
  target = request.target.now;
  body = request.body.now;
  close = request.close;
}

abbrev pub step_of : Read → Step
step_of read.More = More
step_of (read.Refuse status) = Refuse status
step_of (read.Whole request) = Whole (request_of request)
