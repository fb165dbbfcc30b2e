use Rattle.aq_staging.proofs.ChangeLemmas.{removed}
use Rattle.aq_staging.proofs.changes.take_row.Goals as goal

pub returns-clause-rest : goal.returns-clause-rest
returns-clause-rest c =
    removed c.args.key.now c.args.shelf.now c.remove.new.self c.remove.result c.remove.ensures.ok c.remove.ensures.not_there c.remove.ensures.unchanged
