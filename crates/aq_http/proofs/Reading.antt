-- A head that the parser answers, as a step.
use Rattle.std.proofs.Common.{◌≡◌, ℕ, ◌<◌, ◌≤◌, ◌⊎◌, inl, inr, min, Bool, true, false, cond, List, length, map, take, drop, refl, sym, ap, ◌∙◌, arith, Result}
use Rattle.std.proofs.lemmas.Bool.{cases_lt, le-leb, lt-leb}
use Rattle.std.proofs.lemmas.List.{length-map, length-take, take-append-drop, take_all}
use Rattle.httparse.specs.declared.spans.HeaderSpan.{HeaderSpan}
use Rattle.httparse.specs.declared.spans.RequestSpans.{RequestSpans}
use Rattle.httparse.specs.Grammar.{RequestHead, HasNoRequest, MayBecomeRequest}
use Rattle.httparse.specs.Spans.{IsRequestAt, IsRequestOf, RequestOverflows, header_bytes, name_and_value, span_bytes}
use Rattle.http1.specs.declared.fields.KnownFields.{KnownFields}
use Rattle.http1.specs.Fields.{Header, known_fields}
use Rattle.aq_http.specs.declared.limits.TheConstants.{MOST_HEAD, MOST_HEADERS}
use Rattle.aq_http.specs.declared.head.HeadStep.{HeadStep as Read}
use Rattle.aq_http.specs.declared.head.HeadStep.TheVariants as read
use Rattle.aq_http.specs.declared.verb.Verb.{Verb}
use Rattle.aq_http.specs.Head.{More, Refuse, Whole, WholeHead, NoHead, OpenHead, IfWhole, IsHeadStep, body_or_refusal, head_in, has_transfer_encoding, is_encoded, head_step_in, step_at, step_by, verb_of, whole_step, window, with_length}
use Rattle.aq_http.specs.Places.{IsHeadPlaces}
use Rattle.aq_http.proofs.Encodings.{known_encoded}
use Rattle.aq_http.proofs.Steps.{head_in_more}

pub window_is : (n : ℕ) (input : List ℕ) → n ≡ min (length input) MOST_HEAD → take n input ≡ window input
window_is n input e = by_length (cases_lt (length input) MOST_HEAD)
  where
    to_length : length input < MOST_HEAD → n ≡ length input
    to_length short = omega (arith, e)

    to_most : MOST_HEAD ≤ length input → n ≡ MOST_HEAD
    to_most long = omega (arith, e)

    by_length : (length input < MOST_HEAD) ⊎ (MOST_HEAD ≤ length input) → take n input ≡ window input
    by_length (inl short) =
        ap (λ k. take k input) (to_length short) ∙ take_all (length input) input (omega arith) ∙ sym (take_all MOST_HEAD input (omega arith))
    by_length (inr long) = ap (λ k. take k input) (to_most long)

-- a head in the window is the same in all bytes
seen_in_all : (input : List ℕ) (step : Read) → IfWhole step (λ places. IsHeadPlaces places × (places.head_bytes ≤ length (window input)))
    → head_step_in input step ≡ head_step_in (window input) step
seen_in_all input read.More good = refl
seen_in_all input (read.Refuse status) good = refl
seen_in_all input (read.Whole places) good =
    let longer = head_in_more (window input) (drop MOST_HEAD input) places good.0.ordered (omega (arith, good.0.within, good.1)) in
    ap Whole (ap (λ bytes. head_in bytes places) (sym (take-append-drop MOST_HEAD input)) ∙ longer)

parts_are : (bytes : List ℕ) (headers : List HeaderSpan) (spans : RequestSpans) (h : RequestHead)
    → IsRequestAt bytes headers spans h → step_at bytes headers spans ≡ whole_step h
parts_are bytes headers spans h at = λ i. step_by (at.len i) (at.method i) (at.path i) (at.version i) (at.fields i)

few_fields : (bytes : List ℕ) (headers : List HeaderSpan) (spans : RequestSpans) (h : RequestHead)
    → IsRequestAt bytes headers spans h → spans.headers ≤ MOST_HEADERS → length h.fields ≤ MOST_HEADERS
few_fields bytes headers spans h at few =
    let same = ap length at.fields in
    omega (
      arith,
      same,
      length-map (take spans.headers headers) (header_bytes bytes),
      length-map h.fields name_and_value,
      length-take spans.headers headers,
      few,
    )

-- what is read of the window, whose bytes these are
pub record IsReadOf (bytes : List ℕ) (headers : List HeaderSpan) (spans : RequestSpans) (step : Read) : Type 0 where
  pub of : IsRequestOf bytes headers spans
  pub few : spans.headers ≤ MOST_HEADERS
  pub places : IfWhole step (λ places. IsHeadPlaces places × (places.head_bytes ≤ length bytes))
  pub is : head_step_in bytes step ≡ step_at bytes headers spans

pub whole_is_read : (input : List ℕ) (headers : List HeaderSpan) (spans : RequestSpans) (step : Read)
    → IsReadOf (window input) headers spans step → IsHeadStep input (head_step_in input step)
whole_is_read input headers spans step read_so = record {
  front = WholeHead read_so.of.0;
  stands = (
    (drop spans.len (window input), read_so.of.1.reads),
    few_fields (window input) headers spans read_so.of.0 read_so.of.1 read_so.few,
  );
  is = sym (seen_in_all input step read_so.places ∙ read_so.is ∙ parts_are (window input) headers spans read_so.of.0 read_so.of.1);
}

-- ---- the parts of a whole head

pub coded_is_refused : (size : ℕ) (method target : List ℕ) (minor : ℕ) (headers : List Header)
    → has_transfer_encoding headers ≡ true → Refuse 501 ≡ step_by size method target minor headers
coded_is_refused size method target minor headers coded =
    ap (λ t. cond t (Refuse 501) (with_length size method target minor headers
    (body_or_refusal (verb_of method) headers))) (sym coded)

length_decides : (size : ℕ) (method target : List ℕ) (minor : ℕ) (headers : List Header) (r : Result ℕ ℕ)
    → has_transfer_encoding headers ≡ false → body_or_refusal (verb_of method) headers ≡ r
    → with_length size method target minor headers r ≡ step_by size method target minor headers
length_decides size method target minor headers r plain e =
    ap (λ l. with_length size method target minor headers l) (sym e)
    ∙ ap (λ t. cond t (Refuse 501) (with_length size method target minor headers
    (body_or_refusal (verb_of method) headers))) (sym plain)

-- the headers that spans cover
abbrev pub headers_at : List ℕ → List HeaderSpan → RequestSpans → List Header
headers_at bytes headers spans = map (header_bytes bytes) (take spans.headers headers)

-- the length, as the program finds it, of a body in its bytes
pub length_found : (bytes method : List ℕ) (headers : List HeaderSpan) (spans : RequestSpans) (known : KnownFields) (coded : Bool) (verb : Verb) (length this : Result ℕ ℕ)
    → known ≡ known_fields (headers_at bytes headers spans) → coded ≡ is_encoded known.transfer_encoding → coded ≡ false
    → verb ≡ verb_of method → method ≡ span_bytes bytes spans.method
    → length ≡ body_or_refusal verb (headers_at bytes headers spans) → length ≡ this
    → with_length spans.len (span_bytes bytes spans.method) (span_bytes bytes spans.path) spans.version (headers_at bytes headers spans) this ≡ step_at bytes headers spans
length_found bytes method headers spans known coded verb length this summary tests plain of_method is found these =
    let said = headers_at bytes headers spans in
    length_decides spans.len (span_bytes bytes spans.method) (span_bytes bytes spans.path) spans.version said this
    (sym (known_encoded known said summary) ∙ sym tests ∙ plain)
    (ap (λ v. body_or_refusal v said) (sym (of_method ∙ ap verb_of is)) ∙ sym found ∙ these)

pub none_is_refused : (input : List ℕ) → RequestOverflows MOST_HEADERS (window input) → IsHeadStep input (Refuse 400)
none_is_refused input over = record { front = NoHead; stands = over; is = refl }

pub full_is_refused : (input : List ℕ) → HasNoRequest (window input) → MayBecomeRequest (window input) → MOST_HEAD ≤ length input
    → IsHeadStep input (Refuse 431)
full_is_refused input none may full = record { front = OpenHead; stands = (none, may); is = ap (λ t. cond t (Refuse 431) More) (le-leb _ _ full) }

pub open_waits : (input : List ℕ) → HasNoRequest (window input) → MayBecomeRequest (window input) → length input < MOST_HEAD
    → IsHeadStep input More
open_waits input none may short = record { front = OpenHead; stands = (none, may); is = ap (λ t. cond t (Refuse 431) More) (lt-leb _ _ short) }
