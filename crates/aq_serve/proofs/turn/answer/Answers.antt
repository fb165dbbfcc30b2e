use Rattle.std.proofs.Common.{subst}
use Rattle.aq_http.specs.Step.{request_of}
use Rattle.aq_serve.proofs.Answering.{IsWholeStep, answer_lost, answer_replies}
use Rattle.aq_serve.proofs.turn.answer.Goals as goal

pub returns-in-Ok-clause-answered : goal.returns-in-Ok-clause-answered
returns-in-Ok-clause-answered g c =
    let stands = c.request-request.ensures.step c.requires.whole.front c.requires.whole.more c.requires.whole.is c.requires.whole.stands in
    answer_replies c.args.served c.args.input.now c.in-Ok.bytes.items (request_of c.request-request.result)
    c.ends_behind-closes.result (g.V.Service.seen c.args.service.now c.args.keeper.now) (g.V.Service.seen c.answer.new.self c.answer.new.keeper)
    (λ more. c.steps_stay.ensures.step c.args.input.now more _ (λ e. subst IsWholeStep e tt) stands)
    c.ends_behind-closes.ensures.value
    (c.steps_are_bounded.ensures.used c.args.input.now _ stands)
    c.ends_behind-closes.ensures.few
    c.in-Ok.ensures.answered

pub returns-in-Err-clause-lost : goal.returns-in-Err-clause-lost
returns-in-Err-clause-lost g c =
    answer_lost c.args.served c.args.input.now (request_of c.request-request.result)
    (g.V.Service.seen c.args.service.now c.args.keeper.now) (g.V.Service.seen c.answer.new.self c.answer.new.keeper)
    (c.request-request.ensures.step c.requires.whole.front c.requires.whole.more c.requires.whole.is c.requires.whole.stands)
    c.in-Err.ensures.lost
