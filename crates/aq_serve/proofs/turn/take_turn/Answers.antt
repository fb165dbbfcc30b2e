use Rattle.std.proofs.Common.{Ok, Some}
use Rattle.aq_http.specs.Step.{Refuse}
use Rattle.aq_http.specs.declared.head.HeadStep.TheVariants as read
use Rattle.aq_serve.specs.Talking.{IsRequestBy}
use Rattle.aq_serve.specs.declared.ending.End.TheVariants.{Whole}
use Rattle.aq_serve.specs.declared.fetch.FetchFault.TheVariants.{ReadFailed, Memory}
use Rattle.aq_serve.proofs.Answering.{cut_turn, dry_turn, turn_after, unread_turn}
use Rattle.aq_serve.proofs.Fetching.{fault_by, refusal_is_not_more, request_by}
use Rattle.aq_serve.proofs.turn.take_turn.Goals as goal

pub returns-in-Err-ReadFailed-clause-turn : goal.returns-in-Err-ReadFailed-clause-turn
returns-in-Err-ReadFailed-clause-turn g c =
    cut_turn c.args.served _ _ _ _ _
    (fault_by _ _ _ _ (λ step. IsRequestBy step (g.D.Door.seen c.fetch.new.door) c.fetch.new.input) _ ReadFailed c.in-Err-ReadFailed.field-0-is c.in-Err-ReadFailed.ensures.fetched)

pub returns-in-Err-Memory-clause-turn : goal.returns-in-Err-Memory-clause-turn
returns-in-Err-Memory-clause-turn g c =
    unread_turn c.args.served c.args.input.now c.fetch.new.input _ _ _ _
    (fault_by _ _ c.args.input.now c.fetch.new.input (λ step. IsRequestBy step (g.D.Door.seen c.fetch.new.door) c.fetch.new.input) _ Memory c.in-Err-Memory.field-0-is c.in-Err-Memory.ensures.fetched)

pub returns-in-More-clause-turn : goal.returns-in-More-clause-turn
returns-in-More-clause-turn g c =
    let fetched = c.in-Ok.ensures.fetched in
    let now = c.fetch.new.input in
    let waits = request_by _ _ c.args.input.now now c.in-Ok.step read.More c.in-More.is fetched in
    turn_after c.args.served _ _ _ _ _ now now (Ok (Some Whole)) fetched.took fetched.reads (dry_turn c.args.served now now _ _ waits.0 waits.1)

pub returns-in-Refuse-clause-turn : goal.returns-in-Refuse-clause-turn
returns-in-Refuse-clause-turn g c =
    let fetched = c.in-Ok.ensures.fetched in
    let refused = request_by _ _ c.args.input.now c.fetch.new.input c.in-Ok.step (read.Refuse c.in-Refuse.status) c.in-Refuse.is fetched in
    turn_after c.args.served _ _ _ _ _ c.fetch.new.input c.fetch.new.input c.refuse.result fetched.took fetched.reads
    (c.refuse.ensures c.args.served c.fetch.new.input c.fetch.new.input (g.V.Service.seen c.args.service.now c.args.keeper.now)
    (λ more. c.steps_stay.ensures.step c.fetch.new.input more (Refuse c.in-Refuse.status) (refusal_is_not_more c.in-Refuse.status) refused))

pub returns-in-Whole-clause-turn : goal.returns-in-Whole-clause-turn
returns-in-Whole-clause-turn g c =
    turn_after c.args.served _ _ _ _ _ c.fetch.new.input c.serve_request.new.input c.serve_request.result c.in-Ok.ensures.fetched.took c.in-Ok.ensures.fetched.reads c.serve_request.ensures
