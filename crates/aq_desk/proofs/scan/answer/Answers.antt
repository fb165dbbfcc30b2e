use Rattle.aq_desk.proofs.Outcomes.{answers}
use Rattle.aq_desk.proofs.Unread.{out_of_memory}
use Rattle.aq_desk.proofs.scan.answer.Goals as goal

pub returns-clause-told : goal.returns-clause-told
returns-clause-told g c =
    answers c.args.site c.args.day c.args.body.now _ _ _ _ _ _ c.new-book.ensures c.in_ok-staged.ensures.reply c.in_ok-staged.ensures.office c.print_staged.ensures.told

pub returns-in_err-staged-clause-told : goal.returns-in_err-staged-clause-told
returns-in_err-staged-clause-told g c = out_of_memory _ c.from_residual.result _ c.from_residual.ensures.1
