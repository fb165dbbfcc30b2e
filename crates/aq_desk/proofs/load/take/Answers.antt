use Rattle.aq_desk.proofs.Opening.{unopened_rises}
use Rattle.aq_desk.proofs.Posting.{lost_over, posted_over, posted_rises, text_unprinted, unopened_load}
use Rattle.aq_desk.proofs.load.take.Goals as goal

pub returns-in_err-book-clause-told : goal.returns-in_err-book-clause-told
returns-in_err-book-clause-told g c =
    unopened_load c.args.number c.args.body.now _ _ _ _ c.in_err-book.field-0.0 c.from_residual.result c.from_residual.ensures.1 c.in_err-book.ensures.stopped

pub returns-in_err-book-clause-keeper_failed : goal.returns-in_err-book-clause-keeper_failed
returns-in_err-book-clause-keeper_failed g c =
    unopened_rises _ _ _ _ c.in_err-book.field-0.0 c.from_residual.result c.from_residual.ensures.1 c.in_err-book.ensures.stopped

pub returns-in_err-posted-clause-told : goal.returns-in_err-posted-clause-told
returns-in_err-posted-clause-told g c =
    lost_over c.args.number c.args.body.now c.in_ok-book.book c.in_ok-book.book _ _ _ _ _ c.in_ok-book.ensures.opened
    c.from_residual-in_err-posted.result c.from_residual-in_err-posted.ensures.1 c.in_err-posted.ensures.lost

pub returns-clause-told : goal.returns-clause-told
returns-clause-told g c =
    posted_over c.args.number c.args.body.now c.in_ok-book.book c.post_uncounted.new.book _ _ _ _ _ c.in_ok-book.ensures.opened
    c.in_ok-posted.posted c.text_of_posted.result c.in_ok-posted.ensures.posted c.text_of_posted.ensures

pub returns-clause-unprinted : goal.returns-clause-unprinted
returns-clause-unprinted g c =
    text_unprinted c.in_ok-posted.posted c.args.number c.text_of_posted.result c.text_of_posted.ensures

pub returns-clause-keeper_failed : goal.returns-clause-keeper_failed
returns-clause-keeper_failed g c =
    posted_rises c.args.number c.args.body.now c.in_ok-book.book c.post_uncounted.new.book _ _ _ _
    c.in_ok-posted.posted c.text_of_posted.result _ c.in_ok-book.ensures.steady c.in_ok-posted.ensures.posted c.text_of_posted.ensures
