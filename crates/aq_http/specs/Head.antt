-- The head of a request, and what it asks of the connection. Its grammar is `httparse`'s, with the versions 1.0 and 1.1 (RFC 9112, sections 2 to 5).
use Rattle.std.specs.Prelude.{⊤, ◌≡◌, ℕ, ◌≤◌, Bool, true, false, ◌||◌, ◌==◌, nat_le, if◌then◌else◌, List, length, map, take, slice_range, codes, bytes_eq, Result, Ok, Err}
use Rattle.std.specs.List.{list_any}
use Rattle.httparse.specs.Grammar.{RequestHead, ReadsRequest, HasNoRequest, MayBecomeRequest, print_request}
use Rattle.httparse.specs.declared.spans.HeaderSpan.{HeaderSpan}
use Rattle.httparse.specs.declared.spans.RequestSpans.{RequestSpans}
use Rattle.httparse.specs.Spans.{RequestOverflows, header_bytes, name_and_value, span_bytes}
use Rattle.http1.specs.declared.fields.TransferEncoding.{TransferEncoding}
use Rattle.http1.specs.declared.fields.TransferEncoding.TheVariants as coding
use Rattle.http1.specs.Fields.{Header, is_named, values_named, elements_named, has_option}
use Rattle.aq_http.specs.Length.{body_length}
use Rattle.aq_http.specs.declared.verb.Verb.{Verb}
use Rattle.aq_http.specs.declared.verb.Verb.TheVariants.{Get, Post, Other}
use Rattle.aq_http.specs.declared.head.HeadStep.{HeadStep as Read}
use Rattle.aq_http.specs.declared.head.HeadStep.TheVariants as read
use Rattle.aq_http.specs.declared.limits.TheConstants.{MOST_HEAD, MOST_HEADERS}
use Rattle.aq_http.specs.Places.{HeadPlaces}

-- ---- where a head stands

-- the bytes in which the head must end (own)
abbrev pub window : List ℕ → List ℕ
window input = take MOST_HEAD input

-- what the bytes begin with: a head of at most 64 headers; none, whatever follows; or none yet, and more bytes may make one
pub data Front : Type 0 where
  WholeHead : RequestHead → Front
  NoHead : Front
  OpenHead : Front

-- The last two are both true in two places, and there either may be found: inside a request target that no bytes make whole, and after 64 whole headers and the first byte of another, before the empty line that ends the head.
abbrev pub IsFront : List ℕ → Front → Type 0
IsFront bytes (WholeHead h) = ((rest : List ℕ) × ReadsRequest bytes h rest) × (length h.fields ≤ MOST_HEADERS)
IsFront bytes NoHead = RequestOverflows MOST_HEADERS bytes
IsFront bytes OpenHead = HasNoRequest bytes × MayBecomeRequest bytes

-- ---- what a head says

-- the names and values of the headers, without the blanks round each value
abbrev pub headers_of : RequestHead → List Header
headers_of h = map name_and_value h.fields

abbrev pub verb_of : List ℕ → Verb
verb_of method =
    if bytes_eq method (codes "GET") then Get else (if bytes_eq method (codes "POST") then Post else Other)

-- the connection ends after the reply: version 1.0, or a Connection header that lists `close`, in any case of letters (RFC 9112, section 9.3)
abbrev pub is_last : ℕ → List Header → Bool
is_last minor headers = (minor == 0) || has_option (codes "close") (elements_named (codes "connection") headers)

abbrev pub has_transfer_encoding : List Header → Bool
has_transfer_encoding headers = list_any (is_named (codes "transfer-encoding")) headers

-- a page in a browser sends this header with each POST, and other clients do not (RFC 6454, section 7; the use of it is (own))
abbrev pub has_origin : List Header → Bool
has_origin headers = list_any (is_named (codes "origin")) headers

abbrev pub is_of_page : Verb → List Header → Bool
is_of_page Post headers = has_origin headers
is_of_page Get headers = false
is_of_page Other headers = false

-- the length of the body, or the status that refuses the request: a page in a browser may not write
abbrev pub body_or_refusal : Verb → List Header → Result ℕ ℕ
body_or_refusal verb headers =
    if is_of_page verb headers then Err 403 else body_length verb (values_named (codes "content-length") headers)

-- a head that is not refused: how many bytes it has, and its body
pub record Head : Type 0 where
  pub head_bytes : ℕ
  pub body_bytes : ℕ
  pub verb : Verb
  pub target : List ℕ
  pub close : Bool

pub data HeadStep : Type 0 where
  More : HeadStep
  Refuse : (status : ℕ) → HeadStep
  Whole : (head : Head) → HeadStep

-- a head by its parts: its number of bytes, method, target, minor version and headers
abbrev pub with_length : ℕ → List ℕ → List ℕ → ℕ → List Header → Result ℕ ℕ → HeadStep
with_length size method target minor headers (Err status) = Refuse status
with_length size method target minor headers (Ok count) = Whole (record {
  head_bytes = size;
  body_bytes = count;
  verb = verb_of method;
  target = target;
  close = is_last minor headers;
})

-- a body in another form than its bytes is not taken (RFC 9112, section 6.1); a page may not write; and else its length decides
abbrev pub step_by : ℕ → List ℕ → List ℕ → ℕ → List Header → HeadStep
step_by size method target minor headers =
    if has_transfer_encoding headers then Refuse 501
    else with_length size method target minor headers (body_or_refusal (verb_of method) headers)

abbrev pub whole_step : RequestHead → HeadStep
whole_step h = step_by (length (print_request h)) h.method h.target h.minor (headers_of h)

-- what follows from the front, and from how many bytes there are
abbrev pub head_step : List ℕ → Front → HeadStep
head_step input (WholeHead h) = whole_step h
head_step input NoHead = Refuse 400
head_step input OpenHead = if nat_le MOST_HEAD (length input) then Refuse 431 else More

-- the step to which a connection's bytes so far come, as far as the head
pub record IsHeadStep (input : List ℕ) (step : HeadStep) : Type 0 where
  pub front : Front
  pub stands : IsFront (window input) front
  pub is : head_step input front ≡ step

-- ---- as the program keeps it

-- the head, seen in the bytes that it was read from or in longer ones
abbrev pub head_in : List ℕ → HeadPlaces → Head
head_in input places = record {
  head_bytes = places.head_bytes;
  body_bytes = places.body_bytes;
  verb = places.verb;
  target = slice_range input places.start places.end;
  close = places.close;
}

abbrev pub head_step_in : List ℕ → Read → HeadStep
head_step_in input read.More = More
head_step_in input (read.Refuse status) = Refuse status
head_step_in input (read.Whole places) = Whole (head_in input places)

-- the parts that spans cover
abbrev pub step_at : List ℕ → List HeaderSpan → RequestSpans → HeadStep
step_at bytes headers spans =
    step_by spans.len (span_bytes bytes spans.method) (span_bytes bytes spans.path) spans.version
    (map (header_bytes bytes) (take spans.headers headers))

abbrev pub is_encoded : TransferEncoding → Bool
is_encoded coding.Absent = false
is_encoded coding.Chunked = true
is_encoded coding.Other = true
is_encoded coding.Blank = true
is_encoded coding.Invalid = true

abbrev pub IfWhole : Read → (HeadPlaces → Type 0) → Type 0
IfWhole read.More P = ⊤
IfWhole (read.Refuse status) P = ⊤
IfWhole (read.Whole places) P = P places
