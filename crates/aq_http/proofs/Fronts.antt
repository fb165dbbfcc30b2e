-- What a connection's bytes begin with, and what more bytes change of it.
use Rattle.std.proofs.Common.{◌≡◌, ◌≢◌, ℕ, ◌<◌, ◌≤◌, ◌⊎◌, inl, inr, Bool, true, false, cond, leb, List, [], ◌∷◌, ◌++◌, length, take, drop, refl, sym, ap, ◌∙◌, subst, arith, append_assoc, append-nil, Result, Ok, Err}
use Rattle.std.specs.Prelude.{⊤, codes, IfErr}
use Rattle.std.specs.Str.Parse.{digits_value}
use Rattle.std.proofs.lemmas.Bool.{false≢true, cases_lt, leb-true, leb-false, le-leb}
use Rattle.std.proofs.lemmas.List.{length-append, length-take, take-append-le, take-append-drop, take-take, take_all}
use Rattle.httparse.specs.Grammar.{RequestHead, print_request, ReadsRequest}
use Rattle.httparse.proofs.GrammarLemmas.{ReadsRequest-append, request_unique}
use Rattle.http1.specs.Fields.{Header, values_named}
use Rattle.aq_rules.specs.Limits.{MOST_BYTES}
use Rattle.aq_http.specs.declared.limits.TheConstants.{MOST_HEAD}
use Rattle.aq_http.specs.declared.verb.Verb.{Verb}
use Rattle.aq_http.specs.declared.verb.Verb.TheVariants.{Get, Post, Other}
use Rattle.aq_http.specs.Head.{Front, WholeHead, NoHead, OpenHead, IsFront, Head, HeadStep, More, Refuse, Whole, IsHeadStep, body_or_refusal, has_transfer_encoding, head_step, headers_of, is_of_page, verb_of, whole_step, window, with_length}
use Rattle.aq_http.specs.Length.{body_length}
use Rattle.aq_http.specs.Reply.{is_reply_status}

-- ---- the window

pub record HasGrown (before after : List ℕ) : Type 0 where
  pub more : List ℕ
  pub is : after ≡ before ++ more

pub window_grows : (a b : List ℕ) → HasGrown (window a) (window (a ++ b))
window_grows a b = by_length (cases_lt (length a) MOST_HEAD)
  where
    by_length : (length a < MOST_HEAD) ⊎ (MOST_HEAD ≤ length a) → HasGrown (window a) (window (a ++ b))
    by_length (inl short) =
        let all : take MOST_HEAD a ≡ a = take_all MOST_HEAD a (omega arith) in
        let front : take (length a) (take MOST_HEAD (a ++ b)) ≡ a =
        take-take (length a) MOST_HEAD (a ++ b) (omega arith) ∙ take-append-le (length a) a b (omega arith) ∙ take_all (length a) a (omega arith) in
        record {
          more = drop (length a) (take MOST_HEAD (a ++ b));
          is = sym (take-append-drop (length a) (take MOST_HEAD (a ++ b)))
              ∙ ap (λ f. f ++ drop (length a) (take MOST_HEAD (a ++ b))) (front ∙ sym all);
        }
    by_length (inr long) = record { more = []; is = take-append-le MOST_HEAD a b long ∙ sym (append-nil (take MOST_HEAD a)) }

-- ---- the front

head_stays : (w m : List ℕ) (h : RequestHead) → IsFront w (WholeHead h) → IsFront (w ++ m) (WholeHead h)
head_stays w m h is = ((is.0.0 ++ m, ReadsRequest-append w h is.0.0 m is.0.1), is.1)

none_stays : (w m : List ℕ) → IsFront w NoHead → IsFront (w ++ m) NoHead
none_stays w m over more h rest reads =
    over (m ++ more) h rest (subst (λ t. ReadsRequest t h rest) (append_assoc w m more) reads)

pub front_stays : (a b : List ℕ) (f : Front) → f ≢ OpenHead → IsFront (window a) f → IsFront (window (a ++ b)) f
front_stays a b (WholeHead h) closed is =
    let grown = window_grows a b in
    subst (λ w. IsFront w (WholeHead h)) (sym grown.is) (head_stays (window a) grown.more h is)
front_stays a b NoHead closed is =
    let grown = window_grows a b in
    subst (λ w. IsFront w NoHead) (sym grown.is) (none_stays (window a) grown.more is)
front_stays a b OpenHead closed is = absurd (closed refl)

-- where a head stands, nothing else does
pub one_front : (w : List ℕ) (h : RequestHead) (f : Front) → IsFront w (WholeHead h) → IsFront w f → f ≡ WholeHead h
one_front w h (WholeHead k) is other = ap WholeHead (request_unique w k h _ _ other.0.1 is.0.1).0
one_front w h NoHead is over =
    absurd (omega (arith, is.1, over [] h is.0.0 (subst (λ t. ReadsRequest t h is.0.0) (sym (append-nil w)) is.0.1)))
one_front w h OpenHead is none = absurd (none.0 h is.0.0 is.0.1)

-- ---- steps as far as the head

abbrev is_open : Front → Bool
is_open (WholeHead h) = false
is_open NoHead = false
is_open OpenHead = true

not_open : (f : Front) → is_open f ≡ false → f ≢ OpenHead
not_open f e q = absurd (false≢true (sym e ∙ ap is_open q))

-- a head step that is no `More` stays
pub head_step_stays : (a b : List ℕ) (s : HeadStep) → s ≢ More → IsHeadStep a s → IsHeadStep (a ++ b) s
head_step_stays a b s due is = by_front is.front is.stands is.is
  where
    by_front : (f : Front) → IsFront (window a) f → head_step a f ≡ s → IsHeadStep (a ++ b) s
    by_front (WholeHead h) stands e = record {
      front = WholeHead h;
      stands = front_stays a b (WholeHead h) (not_open (WholeHead h) refl) stands;
      is = e;
    }
    by_front NoHead stands e = record {
      front = NoHead;
      stands = front_stays a b NoHead (not_open NoHead refl) stands;
      is = e;
    }
    by_front OpenHead stands e = by_length (leb MOST_HEAD (length a)) refl
      where
        by_length : (t : Bool) → leb MOST_HEAD (length a) ≡ t → IsHeadStep (a ++ b) s
        by_length true full =
            let long : MOST_HEAD ≤ length a = leb-true _ _ full in
            let longer : leb MOST_HEAD (length (a ++ b)) ≡ true = le-leb _ _ (omega (arith, long, length-append a b)) in
            record {
              front = OpenHead;
              stands = subst (λ w. IsFront w OpenHead) (sym (take-append-le MOST_HEAD a b long)) stands;
              is = ap (λ t. cond t (Refuse 431) More) (longer ∙ sym full) ∙ e;
            }
        by_length false short = absurd (due (sym e ∙ ap (λ t. cond t (Refuse 431) More) short))

-- ---- what a whole head keeps to

abbrev OnLength : Result ℕ ℕ → Type 0
OnLength (Ok count) = count ≤ MOST_BYTES
OnLength (Err status) = ⊤

length_is_short : (verb : Verb) (values : List (List ℕ)) → OnLength (body_length verb values)
length_is_short Get [] = omega arith
length_is_short Post [] = tt
length_is_short Other [] = omega arith
length_is_short verb (value ∷ values) = by_tests _ (leb n MOST_BYTES) refl
  where
    n : ℕ
    n = digits_value 10 value

    by_tests : (s t : Bool) → leb n MOST_BYTES ≡ t → OnLength (cond s (cond t (Ok n) (Err 413)) (Err 400))
    by_tests true true fits = leb-true _ _ fits
    by_tests true false e = tt
    by_tests false t e = tt

body_is_short : (verb : Verb) (headers : List Header) → OnLength (body_or_refusal verb headers)
body_is_short verb headers = by_page (is_of_page verb headers) (body_length verb values) (length_is_short verb values)
  where
    values : List (List ℕ)
    values = values_named (codes "content-length") headers

    by_page : (t : Bool) (r : Result ℕ ℕ) → OnLength r → OnLength (cond t (Err 403) r)
    by_page true r short = tt
    by_page false r short = short

abbrev pub OnWhole : (Head → Type 0) → HeadStep → Type 0
OnWhole P More = ⊤
OnWhole P (Refuse status) = ⊤
OnWhole P (Whole head) = P head

pub record IsBounded (size : ℕ) (head : Head) : Type 0 where
  pub head_is : head.head_bytes ≡ size
  pub body : head.body_bytes ≤ MOST_BYTES

whole_is_bounded : (h : RequestHead) → OnWhole (IsBounded (length (print_request h))) (whole_step h)
whole_is_bounded h =
    by_coding (has_transfer_encoding (headers_of h)) (body_or_refusal verb (headers_of h)) (body_is_short verb (headers_of h))
  where
    verb : Verb
    verb = verb_of h.method

    by_coding : (t : Bool) (r : Result ℕ ℕ) → OnLength r
        → OnWhole (IsBounded (length (print_request h)))
        (cond t (Refuse 501) (with_length (length (print_request h)) h.method h.target h.minor (headers_of h) r))
    by_coding true r short = tt
    by_coding false (Ok count) short = record { head_is = refl; body = short }
    by_coding false (Err status) short = tt

-- a whole head lies in the window and in the bytes, and its body is no longer than a load
pub record IsHeadWithin (input : List ℕ) (head : Head) : Type 0 where
  pub short : head.head_bytes ≤ MOST_HEAD
  pub within : head.head_bytes ≤ length input
  pub body : head.body_bytes ≤ MOST_BYTES

-- ---- other steps as far as the head

abbrev pub NotMore : HeadStep → Type 0
NotMore More = ⊥
NotMore (Refuse status) = ⊤
NotMore (Whole head) = ⊤

abbrev IsRefusal : HeadStep → Type 0
IsRefusal More = ⊤
IsRefusal (Refuse status) = is_reply_status status ≡ true
IsRefusal (Whole head) = ⊤

refused_length : (verb : Verb) (values : List (List ℕ)) → IfErr (body_length verb values) (λ status. is_reply_status status ≡ true)
refused_length Get [] = tt
refused_length Post [] = refl
refused_length Other [] = tt
refused_length verb (value ∷ values) = by_tests _ _
  where
    by_tests : (s t : Bool) → IfErr (cond s (cond t (Ok (digits_value 10 value)) (Err 413)) (Err 400)) (λ status. is_reply_status status ≡ true)
    by_tests true true = tt
    by_tests true false = refl
    by_tests false t = refl

refused_body : (verb : Verb) (headers : List Header) → IfErr (body_or_refusal verb headers) (λ status. is_reply_status status ≡ true)
refused_body verb headers = by_page (is_of_page verb headers) (body_length verb values) (refused_length verb values)
  where
    values : List (List ℕ)
    values = values_named (codes "content-length") headers

    by_page : (t : Bool) (r : Result ℕ ℕ) → IfErr r (λ status. is_reply_status status ≡ true)
        → IfErr (cond t (Err 403) r) (λ status. is_reply_status status ≡ true)
    by_page true r status = refl
    by_page false r status = status

whole_is_due : (h : RequestHead) → NotMore (whole_step h) × IsRefusal (whole_step h)
whole_is_due h =
    by_coding (has_transfer_encoding (headers_of h)) (body_or_refusal (verb_of h.method) (headers_of h)) (refused_body (verb_of h.method) (headers_of h))
  where
    step : Result ℕ ℕ → HeadStep
    step r = with_length (length (print_request h)) h.method h.target h.minor (headers_of h) r

    by_coding : (t : Bool) (r : Result ℕ ℕ) → IfErr r (λ status. is_reply_status status ≡ true)
        → NotMore (cond t (Refuse 501) (step r)) × IsRefusal (cond t (Refuse 501) (step r))
    by_coding true r status = (tt, refl)
    by_coding false (Ok count) status = (tt, tt)
    by_coding false (Err code) status = (tt, status)

-- bytes that have no head yet are fewer than a head may have
pub open_is_short : (input : List ℕ) → IsHeadStep input More → length input < MOST_HEAD
open_is_short input is = by_front is.front is.is
  where
    by_front : (f : Front) → head_step input f ≡ More → length input < MOST_HEAD
    by_front (WholeHead h) e = absurd (subst NotMore e (whole_is_due h).0)
    by_front NoHead e = absurd (subst NotMore e tt)
    by_front OpenHead e = by_length (leb MOST_HEAD (length input)) refl
      where
        by_length : (t : Bool) → leb MOST_HEAD (length input) ≡ t → length input < MOST_HEAD
        by_length true full = absurd (subst NotMore (ap (λ t. cond t (Refuse 431) More) (sym full) ∙ e) tt)
        by_length false short = leb-false _ _ short

pub head_refusal : (input : List ℕ) (status : ℕ) → IsHeadStep input (Refuse status) → is_reply_status status ≡ true
head_refusal input status is = subst IsRefusal is.is (by_front is.front)
  where
    by_front : (f : Front) → IsRefusal (head_step input f)
    by_front (WholeHead h) = (whole_is_due h).1
    by_front NoHead = refl
    by_front OpenHead = by_length (leb MOST_HEAD (length input))
      where
        by_length : (t : Bool) → IsRefusal (cond t (Refuse 431) More)
        by_length true = refl
        by_length false = tt

-- the head of the grammar that a whole head was read from
pub record IsReadFrom (input : List ℕ) (h : Head) : Type 0 where
  pub k : RequestHead
  pub stands : IsFront (window input) (WholeHead k)
  pub is : whole_step k ≡ Whole h

pub whole_front : (input : List ℕ) (h : Head) → IsHeadStep input (Whole h) → IsReadFrom input h
whole_front input h is = by_front is.front is.stands is.is
  where
    by_front : (f : Front) → IsFront (window input) f → head_step input f ≡ Whole h → IsReadFrom input h
    by_front (WholeHead k) stands e = record { k = k; stands = stands; is = e }
    by_front NoHead stands e = absurd (subst (OnWhole (λ _. ⊥)) e tt)
    by_front OpenHead stands e = absurd (subst (OnWhole (λ _. ⊥)) e (by_length (leb MOST_HEAD (length input))))
      where
        by_length : (t : Bool) → OnWhole (λ _. ⊥) (cond t (Refuse 431) More)
        by_length true = tt
        by_length false = tt

pub head_is_within : (input : List ℕ) (head : Head) → IsHeadStep input (Whole head) → IsHeadWithin input head
head_is_within input head is =
    let from = whole_front input head is in
    let bounds : IsBounded (length (print_request from.k)) head =
    subst (OnWhole (IsBounded (length (print_request from.k)))) from.is (whole_is_bounded from.k) in
    let size = ap length from.stands.0.1.1 ∙ length-append (print_request from.k) from.stands.0.0 in
    let fits = length-take MOST_HEAD input in
    record {
      short = omega (arith, bounds.head_is, size, fits);
      within = omega (arith, bounds.head_is, size, fits);
      body = bounds.body;
    }
