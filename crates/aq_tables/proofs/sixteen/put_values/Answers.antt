use Rattle.std.proofs.Common.{refl, rules}
use Rattle.sqlite.specs.Held.{state}
use Rattle.aq_tables.proofs.ThirdPut.{flattened, sixteen_put}
use Rattle.aq_tables.proofs.SixteenRefused.{clash_caused, clash_still}
use Rattle.aq_tables.proofs.sixteen.put_values.Goals as goal

pub returns-in-Ok-clause-done : goal.returns-in-Ok-clause-done
returns-in-Ok-clause-done g c rows are have clean begun =
    sixteen_put _ _ c.args.values.now rows _ have (search rules) are (rw c.as_flattened.ensures.value at (c.in-Ok.ensures.runs clean begun))

pub returns-in-Err-clause-done : goal.returns-in-Err-clause-done
returns-in-Err-clause-done g c rows are have clean begun =
    rw c.unless_clash.ensures (clash_still _ _ (state g.S.Store c.args.tx.now.conn.now) (state g.S.Store c.execute.new.self.conn.now) c.in-Err.error _ begun (c.in-Err.ensures.runs clean begun))

pub returns-in-Err-clause-why : goal.returns-in-Err-clause-why
returns-in-Err-clause-why g c rows are clean begun =
    rw c.unless_clash.ensures (clash_caused _ _ rows (state g.S.Store c.args.tx.now.conn.now) (state g.S.Store c.execute.new.self.conn.now) c.in-Err.error refl (flattened c.args.values.now rows are) (rw c.as_flattened.ensures.value at (c.in-Err.ensures.runs clean begun)))
