use Rattle.std.proofs.Common.{subst}
use Rattle.sha2.specs.Sha256.{sha256}
use Rattle.aq_rules.specs.Office.Load.{posted}
use Rattle.aq_rules.specs.Office.Office.{Office}
use Rattle.aq_keeper.specs.Standing.{Standing, standing_of}
use Rattle.aq_office.specs.Posting.{LosesLoad}
use Rattle.aq_office.proofs.Taking.{if_ok, on_err}
use Rattle.aq_office.proofs.ServiceLemmas.Replied.{load_answered, post_lost, posted_over, reply_lost}
use Rattle.aq_office.proofs.service.office_service.OfficeService.answer_body.Goals as goal

pub returns-in_err-posted-clause-lost : goal.returns-in_err-posted-clause-lost
returns-in_err-posted-clause-lost g c =
    let P = λ (o : Office). LosesLoad c.args.number (sha256 c.args.body.now) c.args.body.now
    (standing_of o (g.K.Keeper.seen c.args.keeper.now))
    (standing_of o (g.K.Keeper.seen c.post_uncounted.new.keeper)) in
    on_err _ c.from_residual.result
    (post_lost c.args.number (sha256 c.args.body.now) c.args.body.now c.args.self.now c.post_uncounted.new.book
    (g.K.Keeper.seen c.args.keeper.now).tables (g.K.Keeper.seen c.post_uncounted.new.keeper).tables (g.K.Keeper.seen c.args.keeper.now).faults (g.K.Keeper.seen c.post_uncounted.new.keeper).faults
    (subst P c.self.view_is c.in_err-posted.ensures.lost))

pub returns-clause-answered : goal.returns-clause-answered
returns-clause-answered g c =
    let after : Standing = standing_of c.post_uncounted.new.book (g.K.Keeper.seen c.post_uncounted.new.keeper) in
    let is = posted_over _ _ c.self.view_is c.args.number (sha256 c.args.body.now) c.args.body.now
    (g.K.Keeper.seen c.args.keeper.now).tables (g.K.Keeper.seen c.args.keeper.now).faults after c.in_ok-posted.posted c.in_ok-posted.ensures.posted in
    if_ok c.load_reply.result
    (λ bytes reply. load_answered c.args.number (standing_of c.args.self.now (g.K.Keeper.seen c.args.keeper.now))
    (posted c.args.self.now c.args.number (sha256 c.args.body.now) c.args.body.now) c.args.close bytes.items after c.in_ok-posted.posted is (reply after.office))
    c.load_reply.ensures

pub returns-clause-lost : goal.returns-clause-lost
returns-clause-lost g c =
    let after : Standing = standing_of c.post_uncounted.new.book (g.K.Keeper.seen c.post_uncounted.new.keeper) in
    let is = posted_over _ _ c.self.view_is c.args.number (sha256 c.args.body.now) c.args.body.now
    (g.K.Keeper.seen c.args.keeper.now).tables (g.K.Keeper.seen c.args.keeper.now).faults after c.in_ok-posted.posted c.in_ok-posted.ensures.posted in
    on_err _ c.load_reply.result
    (reply_lost c.args.number (standing_of c.args.self.now (g.K.Keeper.seen c.args.keeper.now))
    (posted c.args.self.now c.args.number (sha256 c.args.body.now) c.args.body.now) after c.in_ok-posted.posted is)
