use Rattle.std.proofs.Common.{◌<◌, List, ℕ, subst}
use Rattle.sha2.specs.Sha256.{sha256}
use Rattle.std.specs.Prelude.{IfOk, OnErr}
use Rattle.aq_rules.specs.Limits.{MOST_LINES}
use Rattle.aq_rules.specs.Office.Load.{posted}
use Rattle.aq_keeper.specs.Standing.{Standing, standing_of}
use Rattle.aq_office.proofs.Taking.{if_ok, on_err}
use Rattle.aq_serve.specs.Answered.{to_load}
use Rattle.aq_office.proofs.ServiceLemmas.Replied.{too_many_answered, too_many_lost}
use Rattle.aq_office.specs.Service.Replies.{AnswersBy, LosesBy}
use Rattle.aq_office.proofs.service.office_service.OfficeService.answer_load.Goals as goal

pub returns-in-Ok-clause-answered : goal.returns-in-Ok-clause-answered
returns-in-Ok-clause-answered g c =
    let before : Standing = standing_of c.args.self.now (g.K.Keeper.seen c.args.keeper.now) in
    let after : Standing = standing_of c.answer_body.new.self (g.K.Keeper.seen c.answer_body.new.keeper) in
    subst (λ (b : List ℕ). IfOk c.answer_body.result (λ reply. AnswersBy (λ fails. to_load c.args.number c.args.self.now fails (posted c.args.self.now c.args.number (sha256 b) b)) c.args.close reply.items before after))
    c.in-Ok.ensures.body c.answer_body.ensures.answered

pub returns-in-Ok-clause-lost : goal.returns-in-Ok-clause-lost
returns-in-Ok-clause-lost g c =
    let before : Standing = standing_of c.args.self.now (g.K.Keeper.seen c.args.keeper.now) in
    let after : Standing = standing_of c.answer_body.new.self (g.K.Keeper.seen c.answer_body.new.keeper) in
    subst (λ (b : List ℕ). OnErr c.answer_body.result (LosesBy (λ fails. to_load c.args.number c.args.self.now fails (posted c.args.self.now c.args.number (sha256 b) b)) before after))
    c.in-Ok.ensures.body c.answer_body.ensures.lost

pub returns-in-Err-clause-answered : goal.returns-in-Err-clause-answered
returns-in-Err-clause-answered g c =
    let many = subst (λ n. MOST_LINES < n) c.in-Err.ensures.too_many.0 c.in-Err.ensures.too_many.1 in
    if_ok c.error_reply.result
    (λ bytes reply. too_many_answered c.args.number (sha256 c.args.body.now) c.args.body.now (standing_of c.args.self.now (g.K.Keeper.seen c.args.keeper.now)) many c.args.close bytes.items reply)
    c.error_reply.ensures

pub returns-in-Err-clause-lost : goal.returns-in-Err-clause-lost
returns-in-Err-clause-lost g c =
    let many = subst (λ n. MOST_LINES < n) c.in-Err.ensures.too_many.0 c.in-Err.ensures.too_many.1 in
    on_err _ c.error_reply.result
    (too_many_lost c.args.number (sha256 c.args.body.now) c.args.body.now (standing_of c.args.self.now (g.K.Keeper.seen c.args.keeper.now)) many)
