use Rattle.std.proofs.Common.{subst}
use Rattle.aq_office.proofs.ServiceLemmas.Replied.{answers_found, loses_found}
use Rattle.aq_office.proofs.Taking.{if_err, if_ok}
use Rattle.aq_serve.specs.Answered.{to_found}
use Rattle.aq_keeper.specs.Standing.{Standing, standing_of}
use Rattle.aq_office.specs.Service.Replies.{AnswersBy, LosesBy}
use Rattle.aq_office.proofs.service.office_service.OfficeServiceService.answer.Goals as goal

pub returns-clause-answered : goal.returns-clause-answered
returns-clause-answered g c =
    let before : Standing = standing_of c.args.self.now (g.K.Keeper.seen c.args.keeper.now) in
    let after : Standing = standing_of c.answer_found.new.self (g.K.Keeper.seen c.answer_found.new.keeper) in
    if_ok c.answer_found.result
    (λ reply is. answers_found c.args.verb c.args.target.now c.args.body.now c.args.close reply.items before after
    (subst (λ f. AnswersBy (to_found c.args.self.now f c.args.body.now) c.args.close reply.items before after) c.find-found.ensures.value is))
    c.answer_found.ensures.answered

pub returns-clause-lost : goal.returns-clause-lost
returns-clause-lost g c =
    let before : Standing = standing_of c.args.self.now (g.K.Keeper.seen c.args.keeper.now) in
    let after : Standing = standing_of c.answer_found.new.self (g.K.Keeper.seen c.answer_found.new.keeper) in
    if_err c.answer_found.result
    (λ is. loses_found c.args.verb c.args.target.now c.args.body.now before after
    (subst (λ f. LosesBy (to_found c.args.self.now f c.args.body.now) before after) c.find-found.ensures.value is))
    c.answer_found.ensures.lost
