use Rattle.std.proofs.Common.{◌≤◌, ◌+◌, List, ℕ, ap, refl, subst, ◌∙◌}
use Rattle.sha2.specs.Sha256.{sha256}
use Rattle.std.specs.Prelude.{OnErr}
use Rattle.aq_keeper.specs.Standing.{Standing, standing_of}
use Rattle.aq_rules.specs.Kept.Reach.{cost}
use Rattle.aq_rules.specs.Office.Load.{load}
use Rattle.aq_office.proofs.PostedLoads.{is_standing, is_taken, not_new}
use Rattle.aq_office.proofs.Taking.{if_ok}
use Rattle.aq_office.specs.Posting.{LosesLoad}
use Rattle.aq_office.proofs.posting.post.Goals as goal

pub returns-in-New-clause-posted : goal.returns-in-New-clause-posted
returns-in-New-clause-posted g c =
    if_ok c.post_new.result
    (λ answer is. is_taken c.args.book.now c.args.number c.digest-digest.result (sha256 c.args.body.now) c.args.body.now (c.digest-digest.ensures ∙ ap sha256 c.text.ensures.text)
    (standing_of c.args.book.now (g.K.Keeper.seen c.args.keeper.now)) (standing_of c.post_new.new.book (g.K.Keeper.seen c.post_new.new.keeper)) answer c.text.ensures.lines c.in-New.ensures is)
    c.post_new.ensures.taken

pub returns-in-New-clause-lost : goal.returns-in-New-clause-lost
returns-in-New-clause-lost g c =
    subst (λ (d : List ℕ). OnErr c.post_new.result (LosesLoad c.args.number d c.args.body.now (standing_of c.args.book.now (g.K.Keeper.seen c.args.keeper.now)) (standing_of c.args.book.now (g.K.Keeper.seen c.post_new.new.keeper))))
    (c.digest-digest.ensures ∙ ap sha256 c.text.ensures.text) c.post_new.ensures.lost

pub returns-in-New-clause-steps : goal.returns-in-New-clause-steps
returns-in-New-clause-steps g c =
    subst (λ (d : List ℕ). c.post_new.new.steps ≤ c.args.steps.now + cost c.args.book.now (load c.args.book.now c.args.number d c.args.body.now))
    (c.digest-digest.ensures ∙ ap sha256 c.text.ensures.text) c.post_new.ensures.steps

pub returns-in-Repeat-clause-posted : goal.returns-in-Repeat-clause-posted
returns-in-Repeat-clause-posted g c =
    let before : Standing = standing_of c.args.book.now (g.K.Keeper.seen c.args.keeper.now) in
    if_ok c.standing_answer.result
    (λ answer is. is_standing c.args.book.now c.args.number c.digest-digest.result (sha256 c.args.body.now) c.args.body.now (c.digest-digest.ensures ∙ ap sha256 c.text.ensures.text)
    before before answer c.text.ensures.lines (not_new c.check.result _ c.in-Repeat.is c.check.ensures) is refl)
    c.standing_answer.ensures.answer
