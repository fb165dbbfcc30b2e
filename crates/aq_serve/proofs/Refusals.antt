-- A head that is refused is no fault of the keeper: its status is another than 503.
use Rattle.std.proofs.Common.{◌≡◌, ℕ, ◌+◌, Bool, true, false, cond, leb, List, [], ◌∷◌, length, refl, subst, Result, Ok, Err}
use Rattle.std.specs.Prelude.{⊤, ◌==◌, IfErr, codes}
use Rattle.std.specs.Str.Parse.{digits_value}
use Rattle.httparse.specs.Grammar.{RequestHead, print_request}
use Rattle.http1.specs.Fields.{Header, values_named}
use Rattle.aq_http.specs.declared.limits.TheConstants.{MOST_HEAD}
use Rattle.aq_http.specs.declared.verb.Verb.{Verb}
use Rattle.aq_http.specs.declared.verb.Verb.TheVariants.{Get, Post, Other}
use Rattle.aq_http.specs.Head.{Front, WholeHead, NoHead, OpenHead, HeadStep, IsHeadStep, body_or_refusal, has_transfer_encoding, head_step, headers_of, is_of_page, verb_of, whole_step, with_length}
use Rattle.aq_http.specs.Head as head
use Rattle.aq_http.specs.Length.{body_length}
use Rattle.aq_http.specs.Step.{IsStep, Step, More, Refuse, Whole, step_behind, request_in}

abbrev Other503 : ℕ → Type 0
Other503 status = (status == 503) ≡ false

refused_length : (verb : Verb) (values : List (List ℕ)) → IfErr (body_length verb values) Other503
refused_length Get [] = tt
refused_length Post [] = refl
refused_length Other [] = tt
refused_length verb (value ∷ values) = by_tests _ _
  where
    by_tests : (s t : Bool) → IfErr (cond s (cond t (Ok (digits_value 10 value)) (Err 413)) (Err 400)) Other503
    by_tests true true = tt
    by_tests true false = refl
    by_tests false t = refl

refused_body : (verb : Verb) (headers : List Header) → IfErr (body_or_refusal verb headers) Other503
refused_body verb headers = by_page (is_of_page verb headers) (body_length verb values) (refused_length verb values)
  where
    values : List (List ℕ)
    values = values_named (codes "content-length") headers

    by_page : (t : Bool) (r : Result ℕ ℕ) → IfErr r Other503 → IfErr (cond t (Err 403) r) Other503
    by_page true r status = refl
    by_page false r status = status

abbrev OnRefusedHead : HeadStep → Type 0
OnRefusedHead head.More = ⊤
OnRefusedHead (head.Refuse status) = Other503 status
OnRefusedHead (head.Whole h) = ⊤

refused_whole : (h : RequestHead) → OnRefusedHead (whole_step h)
refused_whole h = by_coding (has_transfer_encoding (headers_of h)) (body_or_refusal (verb_of h.method) (headers_of h)) (refused_body (verb_of h.method) (headers_of h))
  where
    by_coding : (t : Bool) (r : Result ℕ ℕ) → IfErr r Other503
        → OnRefusedHead (cond t (head.Refuse 501) (with_length (length (print_request h)) h.method h.target h.minor (headers_of h) r))
    by_coding true r status = refl
    by_coding false (Ok count) status = tt
    by_coding false (Err code) status = status

refused_head : (input : List ℕ) (step : HeadStep) → IsHeadStep input step → OnRefusedHead step
refused_head input step is = subst OnRefusedHead is.is (by_front is.front)
  where
    by_front : (f : Front) → OnRefusedHead (head_step input f)
    by_front (WholeHead h) = refused_whole h
    by_front NoHead = refl
    by_front OpenHead = by_length (leb MOST_HEAD (length input))
      where
        by_length : (t : Bool) → OnRefusedHead (cond t (head.Refuse 431) head.More)
        by_length true = refl
        by_length false = tt

abbrev OnRefused : Step → Type 0
OnRefused More = ⊤
OnRefused (Refuse status) = Other503 status
OnRefused (Whole request) = ⊤

pub refusal_is_no_fault : (input : List ℕ) (status : ℕ) → IsStep input (Refuse status) → (status == 503) ≡ false
refusal_is_no_fault input status is = subst OnRefused is.is (by_head is.head_step (refused_head input is.head_step is.stands))
  where
    by_head : (t : HeadStep) → OnRefusedHead t → OnRefused (step_behind input t)
    by_head head.More other = tt
    by_head (head.Refuse code) other = other
    by_head (head.Whole h) other = by_length (leb (h.head_bytes + h.body_bytes) (length input))
      where
        by_length : (t : Bool) → OnRefused (cond t (Whole (request_in input h)) More)
        by_length true = tt
        by_length false = tt
