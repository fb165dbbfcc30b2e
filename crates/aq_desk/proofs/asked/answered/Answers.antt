use Rattle.aq_desk.proofs.Asking.{answered_over, answered_status, answered_unprinted, unopened_ask}
use Rattle.aq_desk.proofs.Opening.{unopened_rises}
use Rattle.aq_desk.proofs.Unread.{stays_at_from}
use Rattle.aq_desk.specs.Asked.{asked_printout}
use Rattle.aq_desk.proofs.asked.answered.Goals as goal

pub returns-in_err-book-clause-told : goal.returns-in_err-book-clause-told
returns-in_err-book-clause-told g c =
    unopened_ask (asked_printout c.args.asked.now) c.from_residual.result _ _ _ _ c.in_err-book.field-0.0 c.from_residual.ensures.1 c.in_err-book.ensures.stopped

pub returns-in_err-book-clause-keeper_failed : goal.returns-in_err-book-clause-keeper_failed
returns-in_err-book-clause-keeper_failed g c =
    unopened_rises _ _ _ _ c.in_err-book.field-0.0 c.from_residual.result c.from_residual.ensures.1 c.in_err-book.ensures.stopped

pub returns-clause-told : goal.returns-clause-told
returns-clause-told g c =
    answered_over (asked_printout c.args.asked.now) c.in_ok-book.book c.text_of_asked.result _ _ c.in_ok-book.ensures.opened c.text_of_asked.ensures.text c.text_of_asked.ensures.refused

pub returns-clause-unprinted : goal.returns-clause-unprinted
returns-clause-unprinted g c = answered_unprinted _ c.text_of_asked.result c.text_of_asked.ensures.refused

pub returns-clause-keeper_failed : goal.returns-clause-keeper_failed
returns-clause-keeper_failed g c = stays_at_from 5 _ _ _ (answered_status _ c.text_of_asked.result c.text_of_asked.ensures.refused) c.in_ok-book.ensures.steady
