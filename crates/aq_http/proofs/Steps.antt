-- A step from the step as far as the head.
use Rattle.std.proofs.Common.{◌≡◌, ◌≢◌, ℕ, ◌+◌, ◌-◌, ◌<◌, ◌≤◌, Bool, true, false, cond, leb, List, ◌++◌, length, take, drop, refl, sym, ap, ◌∙◌, subst, arith}
use Rattle.std.specs.Prelude.{⊤, slice_range}
use Rattle.std.proofs.lemmas.Bool.{leb-true, leb-false, le-leb}
use Rattle.std.proofs.lemmas.List.{length-append, length-drop, length-take, take-append-le, drop-append-le}
use Rattle.aq_rules.specs.Limits.{MOST_BYTES}
use Rattle.aq_http.specs.declared.limits.TheConstants.{MOST_HEAD}
use Rattle.aq_http.specs.Head.{Head, HeadStep, IsHeadStep, head_in, WholeHead, head_step, window}
use Rattle.aq_http.specs.Head as head
use Rattle.aq_http.specs.Places.{HeadPlaces, IsHeadPlaces}
use Rattle.aq_http.specs.Step.{Request, Step, More, Refuse, Whole, IsStep, step_behind, with_body, request_in}
use Rattle.aq_http.specs.Reply.{is_reply_status}
use Rattle.aq_http.proofs.Fronts.{NotMore, head_is_within, head_refusal, head_step_stays, one_front, open_is_short, whole_front}

abbrev OnWholeStep : (Request → Type 0) → Step → Type 0
OnWholeStep P More = ⊤
OnWholeStep P (Refuse status) = ⊤
OnWholeStep P (Whole request) = P request

-- ---- more bytes

body_stays : (a b : List ℕ) (h : Head) → leb (h.head_bytes + h.body_bytes) (length a) ≡ true → with_body (a ++ b) h ≡ with_body a h
body_stays a b h fits =
    let within : h.head_bytes + h.body_bytes ≤ length a = leb-true _ _ fits in
    let longer : leb (h.head_bytes + h.body_bytes) (length (a ++ b)) ≡ true = le-leb _ _ (omega (arith, within, length-append a b)) in
    let behind : drop h.head_bytes (a ++ b) ≡ drop h.head_bytes a ++ b = drop-append-le h.head_bytes a b (omega (arith, within)) in
    let body : take h.body_bytes (drop h.head_bytes (a ++ b)) ≡ take h.body_bytes (drop h.head_bytes a) =
    ap (take h.body_bytes) behind
    ∙ take-append-le h.body_bytes (drop h.head_bytes a) b (omega (arith, within, length-drop h.head_bytes a)) in
    ap (λ t. whole_if t (take h.body_bytes (drop h.head_bytes (a ++ b)))) (longer ∙ sym fits)
    ∙ ap (whole_if (leb (h.head_bytes + h.body_bytes) (length a))) body
  where
    whole_if : Bool → List ℕ → Step
    whole_if t body = cond t (Whole (record {
      used = h.head_bytes + h.body_bytes;
      verb = h.verb;
      target = h.target;
      body = body;
      close = h.close;
    })) More

-- a step that is no `More` stays
pub step_stays : (a b : List ℕ) (s : Step) → s ≢ More → IsStep a s → IsStep (a ++ b) s
step_stays a b s due is = by_head is.head_step is.stands is.is
  where
    by_head : (t : HeadStep) → IsHeadStep a t → step_behind a t ≡ s → IsStep (a ++ b) s
    by_head head.More stands e = absurd (due (sym e))
    by_head (head.Refuse status) stands e = record {
      head_step = head.Refuse status;
      stands = head_step_stays a b (head.Refuse status) (λ q. subst NotMore q tt) stands;
      is = e;
    }
    by_head (head.Whole h) stands e = by_length (leb (h.head_bytes + h.body_bytes) (length a)) refl
      where
        by_length : (t : Bool) → leb (h.head_bytes + h.body_bytes) (length a) ≡ t → IsStep (a ++ b) s
        by_length true fits = record {
          head_step = head.Whole h;
          stands = head_step_stays a b (head.Whole h) (λ q. subst NotMore q tt) stands;
          is = body_stays a b h fits ∙ e;
        }
        by_length false short = absurd (due (sym (sym (more_if short) ∙ e)))
          where
            more_if : leb (h.head_bytes + h.body_bytes) (length a) ≡ false → with_body a h ≡ More
            more_if none = ap (λ t. cond t (Whole (request_in a h)) More) none

-- ---- one whole request

pub one_head_step : (input : List ℕ) (h : Head) (t : HeadStep) → IsHeadStep input (head.Whole h) → IsHeadStep input t → t ≡ head.Whole h
one_head_step input h t whole is =
    let from = whole_front input h whole in
    let same : is.front ≡ WholeHead from.k = one_front (window input) from.k is.front from.stands is.stands in
    sym is.is ∙ ap (head_step input) same ∙ from.is

pub one_step : (input : List ℕ) (r : Request) (s : Step) → IsStep input (Whole r) → IsStep input s → s ≡ Whole r
one_step input r s whole is = by_head whole.head_step whole.stands whole.is
  where
    by_head : (t : HeadStep) → IsHeadStep input t → step_behind input t ≡ Whole r → s ≡ Whole r
    by_head head.More stands e = absurd (subst (OnWholeStep (λ _. ⊥)) e tt)
    by_head (head.Refuse status) stands e = absurd (subst (OnWholeStep (λ _. ⊥)) e tt)
    by_head (head.Whole h) stands e =
        let same = one_head_step input h is.head_step stands is.stands in
        sym is.is ∙ ap (step_behind input) same ∙ e

-- ---- bounds

pub record IsWithin (input : List ℕ) (r : Request) : Type 0 where
  pub used : r.used ≤ length input
  pub body : length r.body ≤ MOST_BYTES

pub whole_within : (input : List ℕ) (r : Request) → IsStep input (Whole r) → IsWithin input r
whole_within input r is = by_head is.head_step is.stands is.is
  where
    by_head : (t : HeadStep) → IsHeadStep input t → step_behind input t ≡ Whole r → IsWithin input r
    by_head head.More stands e = absurd (subst (OnWholeStep (λ _. ⊥)) e tt)
    by_head (head.Refuse status) stands e = absurd (subst (OnWholeStep (λ _. ⊥)) e tt)
    by_head (head.Whole h) stands e = subst (OnWholeStep (IsWithin input)) e (by_length (leb (h.head_bytes + h.body_bytes) (length input)) refl)
      where
        by_length : (t : Bool) → leb (h.head_bytes + h.body_bytes) (length input) ≡ t → OnWholeStep (IsWithin input) (cond t (Whole (request_in input h)) More)
        by_length true fits = record {
          used = leb-true _ _ fits;
          body = omega (arith, (head_is_within input h stands).body, length-take h.body_bytes (drop h.head_bytes input));
        }
        by_length false short = tt

abbrev OnMore : Type 0 → Step → Type 0
OnMore P More = P
OnMore P (Refuse status) = ⊤
OnMore P (Whole request) = ⊤

pub more_is_short : (input : List ℕ) → IsStep input More → length input < MOST_HEAD + MOST_BYTES
more_is_short input is = by_head is.head_step is.stands is.is
  where
    by_head : (t : HeadStep) → IsHeadStep input t → step_behind input t ≡ More → length input < MOST_HEAD + MOST_BYTES
    by_head head.More stands e = let short = open_is_short input stands in omega (arith, short)
    by_head (head.Refuse status) stands e = absurd (subst (OnMore ⊥) e tt)
    by_head (head.Whole h) stands e = subst (OnMore (length input < MOST_HEAD + MOST_BYTES)) e (by_length (leb (h.head_bytes + h.body_bytes) (length input)) refl)
      where
        by_length : (t : Bool) → leb (h.head_bytes + h.body_bytes) (length input) ≡ t → OnMore (length input < MOST_HEAD + MOST_BYTES) (cond t (Whole (request_in input h)) More)
        by_length true fits = tt
        by_length false short =
            let bounds = head_is_within input h stands in
            omega (arith, bounds.short, bounds.body, leb-false _ _ short)

-- ---- refusals

abbrev OnRefuse : (ℕ → Type 0) → Step → Type 0
OnRefuse P More = ⊤
OnRefuse P (Refuse status) = P status
OnRefuse P (Whole request) = ⊤

pub refusal_has_reply : (input : List ℕ) (status : ℕ) → IsStep input (Refuse status) → is_reply_status status ≡ true
refusal_has_reply input status is = by_head is.head_step is.stands is.is
  where
    P : ℕ → Type 0
    P k = is_reply_status k ≡ true

    by_head : (t : HeadStep) → IsHeadStep input t → step_behind input t ≡ Refuse status → P status
    by_head head.More stands e = absurd (subst (OnRefuse (λ _. ⊥)) e tt)
    by_head (head.Refuse code) stands e = subst (OnRefuse P) e (head_refusal input code stands)
    by_head (head.Whole h) stands e = subst (OnRefuse P) e (by_length (leb (h.head_bytes + h.body_bytes) (length input)))
      where
        by_length : (t : Bool) → OnRefuse P (cond t (Whole (request_in input h)) More)
        by_length true = tt
        by_length false = tt

-- ---- a head that was kept

-- its parts are the same in longer bytes
pub head_in_more : (a b : List ℕ) (places : HeadPlaces) → places.start ≤ places.end → places.end ≤ length a → head_in (a ++ b) places ≡ head_in a places
head_in_more a b places ordered within =
    let behind : drop places.start (a ++ b) ≡ drop places.start a ++ b = drop-append-le places.start a b (omega (arith, ordered, within)) in
    let part : slice_range (a ++ b) places.start places.end ≡ slice_range a places.start places.end =
    ap (take (places.end - places.start)) behind
    ∙ take-append-le (places.end - places.start) (drop places.start a) b (omega (arith, ordered, within, length-drop places.start a)) in
    λ i. record {
      head_bytes = places.head_bytes;
      body_bytes = places.body_bytes;
      verb = places.verb;
      target = part i;
      close = places.close;
    }

-- a kept head gives the request of all bytes
pub kept_head_gives_request : (input a b : List ℕ) (places : HeadPlaces) (r : Request) → input ≡ a ++ b → IsHeadPlaces places
    → IsHeadStep a (head.Whole (head_in a places)) → places.head_bytes + places.body_bytes ≤ length input
    → r ≡ request_in input (head_in input places) → IsStep input (Whole r)
kept_head_gives_request input a b places r e good stands fits is =
    let bounds = head_is_within a (head_in a places) stands in
    let same = head_in_more a b places good.ordered (omega (arith, good.within, bounds.within)) in
    record {
      head_step = head.Whole (head_in input places);
      stands = subst (λ t. IsHeadStep t (head.Whole (head_in t places))) (sym e)
          (subst (λ h. IsHeadStep (a ++ b) (head.Whole h)) (sym same)
          (head_step_stays a b (head.Whole (head_in a places)) (λ q. subst NotMore q tt) stands));
      is = ap (λ t. cond t (Whole (request_in input (head_in input places))) More) (le-leb _ _ fits) ∙ ap Whole (sym is);
    }
