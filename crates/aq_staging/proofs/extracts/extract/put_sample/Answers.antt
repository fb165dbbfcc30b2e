use Rattle.std.proofs.Common.{cond, sym}
use Rattle.aq_base.specs.declared.rule.Rule.TheVariants.{AlreadyThere}
use Rattle.aq_rules.specs.Extracts.Changes.{Refused, Says, says}
use Rattle.aq_rules.specs.Office.Office.{content_of, observation_rank, with_row}
use Rattle.aq_staging.proofs.ExtractsLemmas.Judged.{none-mapped, some-mapped}
use Rattle.aq_staging.proofs.extracts.extract.put_sample.Goals as goal

pub returns-in-Ok-clause-ok : goal.returns-in-Ok-clause-ok
returns-in-Ok-clause-ok c = λ i.
    cond (none-mapped content_of (says c.args.rows.now c.args.key.now) c.in-Ok.ensures.absent i) (Refused c.args.number AlreadyThere) (Says (sym c.in-Ok.ensures.ok i))

pub returns-in-Err-AlreadyThere-clause-refused : goal.returns-in-Err-AlreadyThere-clause-refused
returns-in-Err-AlreadyThere-clause-refused c = λ i.
    cond (some-mapped content_of (says c.args.rows.now c.args.key.now) (rw c.in-Err-AlreadyThere.field-0-is at c.in-Err-AlreadyThere.ensures.refused) i) (Refused c.args.number AlreadyThere)
    (Says (with_row observation_rank (c.args.key.now, c.args.content.now) c.args.rows.now))
