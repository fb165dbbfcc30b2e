use Rattle.std.proofs.Common.{sym, ◌∙◌, ap}
use Rattle.aq_staging.specs.Refusals.{office_in}
use Rattle.aq_staging.proofs.LoadLaws.{after-refused}
use Rattle.aq_staging.proofs.load.take_line.Goals as goal

pub returns-in_ok-push-in-Err-Broken-clause-office : goal.returns-in_ok-push-in-Err-Broken-clause-office
returns-in_ok-push-in-Err-Broken-clause-office c =
    ap office_in (rw c.in-Err-Broken.field-0-is at c.in-Err-Broken.ensures.unchanged)
    ∙ sym (after-refused (office_in c.args.staging.now) c.args.text.now c.in-Err-Broken.rule (rw c.in-Err-Broken.field-0-is at c.in-Err-Broken.ensures.refused))
