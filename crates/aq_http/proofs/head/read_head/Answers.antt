use Rattle.std.proofs.Common.{◌≡◌, ℕ, List, ap, subst, length, arith, Ok}
use Rattle.std.proofs.lemmas.List.{length-take}
use Rattle.httparse.specs.declared.spans.RequestSpans.{RequestSpans}
use Rattle.httparse.specs.declared.Error.{Error}
use Rattle.httparse.specs.declared.Status.{Status}
use Rattle.httparse.specs.declared.Status.TheVariants.{Partial}
use Rattle.httparse.specs.Grammar.{HasNoRequest, MayBecomeRequest}
use Rattle.httparse.specs.Outcome.{IfComplete, OnPartial}
use Rattle.httparse.specs.Spans.{IsRequestOf}
use Rattle.aq_http.specs.declared.limits.TheConstants.{MOST_HEAD}
use Rattle.aq_http.proofs.Reading.{IsReadOf, full_is_refused, open_waits, whole_is_read}
use Rattle.aq_http.proofs.head.read_head.Goals as goal

pub whole_head-requires-clause-short : goal.whole_head-requires-clause-short
whole_head-requires-clause-short c =
    omega (arith, ap length c.window-window.ensures, length-take MOST_HEAD c.args.input.now)

pub returns-in-Ok-Complete : goal.returns-in-Ok-Complete
returns-in-Ok-Complete c =
    whole_is_read c.args.input.now c.parse_request.new.headers c.in-Ok-Complete.spans c.whole_head.result
    (subst (λ bytes. IsReadOf bytes c.parse_request.new.headers c.in-Ok-Complete.spans c.whole_head.result) c.window-window.ensures
    (record {
      of = subst (λ s. IfComplete {E = Error} (Ok s) (IsRequestOf c.window-window.result.now c.parse_request.new.headers))
          c.in-Ok-Complete.field-0-is c.in-Ok-Complete.ensures.complete;
      few = c.whole_head.ensures.few;
      places = c.whole_head.ensures.places;
      is = c.whole_head.ensures.value;
    }))

-- no whole head was read: there is none yet, and more bytes may make one
not_whole : (bytes shown : List ℕ) (status : Status RequestSpans) → bytes ≡ shown → status ≡ Partial
    → OnPartial {A = RequestSpans} {E = Error} (Ok status) (HasNoRequest bytes) → OnPartial {A = RequestSpans} {E = Error} (Ok status) (MayBecomeRequest bytes)
    → HasNoRequest shown × MayBecomeRequest shown
not_whole bytes shown status same partial none may = (
  subst HasNoRequest same (subst (λ s. OnPartial {A = RequestSpans} {E = Error} (Ok s) (HasNoRequest bytes)) partial none),
  subst MayBecomeRequest same (subst (λ s. OnPartial {A = RequestSpans} {E = Error} (Ok s) (MayBecomeRequest bytes)) partial may),
)

pub returns-in-Ok-Partial : goal.returns-in-Ok-Partial
returns-in-Ok-Partial c =
    let open_head = not_whole _ _ _ c.window-window.ensures c.in-Ok-Partial.field-0-is c.in-Ok-Partial.ensures.partial c.in-Ok-Partial.ensures.unfinished in
    full_is_refused c.args.input.now open_head.0 open_head.1 (omega arith)

pub returns-in-Ok-Partial-2 : goal.returns-in-Ok-Partial-2
returns-in-Ok-Partial-2 c =
    let open_head = not_whole _ _ _ c.window-window.ensures c.in-Ok-Partial.field-0-is c.in-Ok-Partial.ensures.partial c.in-Ok-Partial.ensures.unfinished in
    open_waits c.args.input.now open_head.0 open_head.1 (omega arith)
