-- What is fetched, piece by piece.
use Rattle.std.proofs.Common.{◌≡◌, ◌≢◌, ℕ, ◌+◌, ◌<◌, List, ◌++◌, length, cond, refl, sym, ap, ◌∙◌, subst, Result, Ok, Err}
use Rattle.std.specs.Prelude.{⊤}
use Rattle.std.proofs.lemmas.Bool.{lt-leb}
use Rattle.aq_base.specs.Faults.{HasRisen}
use Rattle.aq_http.specs.Head.{Head, HeadStep, IsHeadStep}
use Rattle.aq_http.specs.Head as head
use Rattle.aq_http.specs.declared.head.HeadStep.{HeadStep as ReadHead}
use Rattle.aq_http.specs.Step.{IsStep, Step, More, Refuse, Whole, request_in}
use Rattle.aq_outside.specs.Door.{DoorView, IsDry}
use Rattle.aq_serve.specs.Talking.{Fetches, FetchesPiece, FetchedSo, IsPiece, IsRequestBy, Took}
use Rattle.aq_serve.specs.declared.fetch.FetchFault.{FetchFault}
use Rattle.aq_serve.specs.declared.fetch.FetchFault.TheVariants as fault
use Rattle.aq_serve.proofs.Wires.{gets_join, took_join}

-- what a loop has read so far, by a buffer whose length stays
pub record HasFetched (before after : DoorView) (pending now buffer_before buffer : List ℕ) : Type 0 where
  pub took : Took before after pending now
  pub reads : after.reads ≡ before.reads
  pub piece : length buffer ≡ length buffer_before

-- a piece was wanted, and not to be had
pub no_piece : {A : Type 0} (P : A → Type 0) (a b c : DoorView) (p q r : List ℕ) (f : FetchFault)
    → Took a b p q → b.reads ≡ a.reads → IsStep q More → FetchesPiece b c q r (Err f) → Fetches P a c p r (Err f)
no_piece P a b c p q r fault.ReadFailed so_far reads waits e = record {
  took = took_join a b c p q r so_far e.took;
  reads = subst (λ n. HasRisen n c.reads) reads e.reads;
  more = subst (λ t. IsStep t More) (sym e.same) waits;
}
no_piece P a b c p q r fault.Memory so_far reads waits e = record {
  got = so_far.got ++ e.got;
  gets = gets_join a b c so_far.got e.got so_far.gets e.gets;
  reads = e.reads ∙ reads;
}

-- the connection has ended
pub at_end : (Q : List ℕ → Type 0) (a b c : DoorView) (p q r : List ℕ) (n : ℕ)
    → Took a b p q → b.reads ≡ a.reads → Q q → n ≡ 0 → FetchedSo (IsPiece c q r n) b c q r → FetchedSo (Q r × IsDry c.wire) a c p r
at_end Q a b c p q r n so_far reads here none e = record {
  took = took_join a b c p q r so_far e.took;
  reads = e.reads ∙ reads;
  answer = (subst Q (sym (e.answer.same none)) here, e.answer.end none);
}

-- what was read before is read with it
pub fetched_behind : {A : Type 0} (P : A → Type 0) (a b c : DoorView) (p q r : List ℕ) (answer : Result A FetchFault)
    → Took a b p q → b.reads ≡ a.reads → Fetches P b c q r answer → Fetches P a c p r answer
fetched_behind P a b c p q r (Ok x) so_far reads e = record {
  took = took_join a b c p q r so_far e.took;
  reads = e.reads ∙ reads;
  answer = e.answer;
}
fetched_behind P a b c p q r (Err fault.ReadFailed) so_far reads e = record {
  took = took_join a b c p q r so_far e.took;
  reads = subst (λ n. HasRisen n c.reads) reads e.reads;
  more = e.more;
}
fetched_behind P a b c p q r (Err fault.Memory) so_far reads e = record {
  got = so_far.got ++ e.got;
  gets = gets_join a b c so_far.got e.got so_far.gets e.gets;
  reads = e.reads ∙ reads;
}

-- ---- steps

pub open_head : (now : List ℕ) → IsHeadStep now head.More → IsStep now More
open_head now stands = record { head_step = head.More; stands = stands; is = refl }

pub refused_head : (now : List ℕ) (status : ℕ) → IsHeadStep now (head.Refuse status) → IsStep now (Refuse status)
refused_head now status stands = record { head_step = head.Refuse status; stands = stands; is = refl }

-- a body that is not whole yet
pub open_body : (now : List ℕ) (h : Head) → IsHeadStep now (head.Whole h) → length now < h.head_bytes + h.body_bytes → IsStep now More
open_body now h stands short = record {
  head_step = head.Whole h;
  stands = stands;
  is = ap (λ t. cond t (Whole (request_in now h)) More) (lt-leb _ _ short);
}

abbrev IsWholeHead : HeadStep → Type 0
IsWholeHead head.More = ⊥
IsWholeHead (head.Refuse status) = ⊤
IsWholeHead (head.Whole h) = ⊤

pub whole_is_not_more : (h : Head) → head.Whole h ≢ head.More
whole_is_not_more h e = subst IsWholeHead e tt

-- the head still stands in front of what was read behind it, and its body is not whole
pub body_waits : (p q : List ℕ) (h : Head) (got : List ℕ) → q ≡ p ++ got
    → ((input more : List ℕ) (step : HeadStep) → step ≢ head.More → IsHeadStep input step → IsHeadStep (input ++ more) step)
    → IsHeadStep p (head.Whole h) → length q < h.head_bytes + h.body_bytes → IsStep q More
body_waits p q h got is stays stands short =
    open_body q h (subst (λ t. IsHeadStep t (head.Whole h)) (sym is) (stays p got (head.Whole h) (whole_is_not_more h) stands)) short

-- a request as it was fetched
pub request_by : (a b : DoorView) (p q : List ℕ) (step this : ReadHead) → step ≡ this
    → FetchedSo (IsRequestBy step b q) a b p q → IsRequestBy this b q
request_by a b p q step this is e = (subst (λ t. FetchedSo (IsRequestBy t b q) a b p q) is e).answer

-- a request that was not fetched, as it was not
pub fault_by : (a b : DoorView) (p q : List ℕ) (P : ReadHead → Type 0) (why this : FetchFault) → why ≡ this → Fetches P a b p q (Err why) → Fetches P a b p q (Err this)
fault_by a b p q P why this is e = subst (λ f. Fetches P a b p q (Err f)) is e

abbrev IsRefusal : Step → Type 0
IsRefusal More = ⊥
IsRefusal (Refuse status) = ⊤
IsRefusal (Whole request) = ⊤

pub refusal_is_not_more : (status : ℕ) → Refuse status ≢ More
refusal_is_not_more status e = subst IsRefusal e tt
