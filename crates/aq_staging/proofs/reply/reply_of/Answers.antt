use Rattle.std.proofs.Common.{ap, ◌∙◌}
use Rattle.aq_rules.specs.Office.Load.{rest_of}
use Rattle.aq_staging.proofs.LoadLaws.{listed_part, rest_part, same_reply}
use Rattle.aq_staging.proofs.reply.reply_of.Goals as goal

pub returns : goal.returns
returns c =
    same_reply c.args.number c.args.lines c.args.taken c.args.refused.now c.in_ok-listed_of.field-0 c.in_ok-rest_of.field-0
    (c.in_ok-listed_of.ensures ∙ listed_part c.args.refused.now c.min-cut.result c.min-cut.ensures)
    (c.in_ok-rest_of.ensures ∙ ap rest_of (rest_part c.args.refused.now c.min-cut.result c.min-cut.ensures))
