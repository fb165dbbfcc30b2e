use Rattle.sqlite.specs.Values.{bound}
use Rattle.sqlite.specs.Held.{state}
use Rattle.aq_tables.proofs.Steps.{inside_keeps}
use Rattle.std.proofs.lemmas.Result.{err_from_is_err_and}
use Rattle.aq_tables.proofs.Causes.{ran_inside}
use Rattle.aq_tables.proofs.binding.run.Goals as goal

pub returns-clause-done : goal.returns-clause-done
returns-clause-done g c clean begun = (c.in_ok-execute.field-0, c.in_ok-execute.ensures.runs clean begun)

pub returns-clause-kept : goal.returns-clause-kept
returns-clause-kept g c clean begun = inside_keeps 0 _ _ _ _ _ (c.execute.ensures.runs clean begun)

pub returns-in_err-execute-clause-kept : goal.returns-in_err-execute-clause-kept
returns-in_err-execute-clause-kept g c clean begun = inside_keeps 0 _ _ _ _ _ (c.execute.ensures.runs clean begun)

pub returns-in_err-execute-clause-why : goal.returns-in_err-execute-clause-why
returns-in_err-execute-clause-why g c clean begun =
    let p = err_from_is_err_and c.from_residual.result c.from_residual.ensures.1 in
    rw (p.1, p.2) (ran_inside c.args.text.now (bound c.args.values.now) (state g.S.Store c.args.tx.now.conn.now) (state g.S.Store c.execute.new.self.conn.now) c.in_err-execute.field-0.0 (c.in_err-execute.ensures.runs clean begun))
