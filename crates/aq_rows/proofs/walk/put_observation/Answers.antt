use Rattle.std.proofs.Common.{◌∙◌}
use Rattle.aq_rules.specs.Office.Office.{observation_rank}
use Rattle.aq_rows.proofs.PutLast.{not-there}
use Rattle.aq_rows.proofs.RisingEnds.{with_row-last}
use Rattle.aq_rows.proofs.walk.put_observation.Goals as goal

pub returns-in-Ok-clause-ok : goal.returns-in-Ok-clause-ok
returns-in-Ok-clause-ok c =
    c.in-Ok.ensures.ok ∙ with_row-last observation_rank (c.args.key.now, c.args.content.now) c.args.shelf.now c.requires.rising

pub returns-in-Err-AlreadyThere-clause-refused : goal.returns-in-Err-AlreadyThere-clause-refused
returns-in-Err-AlreadyThere-clause-refused c = λ _.
    not-there c.in-Err-AlreadyThere.field-0 c.args.key.now c.args.content.now c.args.shelf.now c.in-Err-AlreadyThere.field-0-is c.in-Err-AlreadyThere.ensures.refused c.requires.rising
