use Rattle.aq_desk.proofs.Printing.{printed_door, printed_keeper, printed_over, printed_read, printed_silent, stopped_door, stopped_keeper, stopped_output, stopped_over, stopped_read}
use Rattle.aq_desk.specs.Ask.{ask_outcome}
use Rattle.aq_desk.specs.Asked.{asked_printout}
use Rattle.aq_desk.proofs.asked.print_asked.Goals as goal

pub returns-in_err-text-clause-told : goal.returns-in_err-text-clause-told
returns-in_err-text-clause-told g c =
    stopped_over c.in_err-text.field-0.0 c.from_residual.result c.from_residual.ensures.1 c.in_err-text.ensures.unprinted (ask_outcome (asked_printout c.args.asked.now)) _ _ _ c.in_err-text.ensures.told

pub returns-in_err-text-clause-no_input : goal.returns-in_err-text-clause-no_input
returns-in_err-text-clause-no_input g c = stopped_read c.in_err-text.field-0.0 c.from_residual.result c.from_residual.ensures.1 c.in_err-text.ensures.unprinted

pub returns-in_err-text-clause-output_failed : goal.returns-in_err-text-clause-output_failed
returns-in_err-text-clause-output_failed g c = stopped_output c.in_err-text.field-0.0 c.from_residual.result c.from_residual.ensures.1 c.in_err-text.ensures.unprinted _

pub returns-in_err-text-clause-keeper_failed : goal.returns-in_err-text-clause-keeper_failed
returns-in_err-text-clause-keeper_failed g c = stopped_keeper c.in_err-text.field-0.0 c.from_residual.result c.from_residual.ensures.1 c.in_err-text.ensures.unprinted _ _ c.in_err-text.ensures.keeper_failed

pub returns-clause-told : goal.returns-clause-told
returns-clause-told g c =
    printed_over c.print_text.result c.print_text.ensures.cut (ask_outcome (asked_printout c.args.asked.now)) c.in_ok-text.text c.as_slice.result.now _ _ _ _ c.as_slice.ensures c.in_ok-text.ensures.told c.print_text.ensures.told

pub returns-clause-no_input : goal.returns-clause-no_input
returns-clause-no_input g c = printed_read c.print_text.result c.print_text.ensures.cut

pub returns-clause-keeper_failed : goal.returns-clause-keeper_failed
returns-clause-keeper_failed g c = printed_keeper c.print_text.result c.print_text.ensures.cut _ _ c.in_ok-text.ensures.keeper_failed

pub returns-clause-silent : goal.returns-clause-silent
returns-clause-silent g c = λ nothing. absurd (printed_silent c.print_text.result c.print_text.ensures.cut nothing)

pub returns-in_err-text-clause-no_door : goal.returns-in_err-text-clause-no_door
returns-in_err-text-clause-no_door g c = stopped_door c.in_err-text.field-0.0 c.from_residual.result c.from_residual.ensures.1 c.in_err-text.ensures.unprinted

pub returns-clause-no_door : goal.returns-clause-no_door
returns-clause-no_door g c = printed_door c.print_text.result c.print_text.ensures.cut
