use Rattle.std.proofs.Common.{inr, refl}
use Rattle.aq_rules.specs.Kept.RowChanges.{ObsRowKey}
use Rattle.aq_tables.proofs.RowTurns.{dropped, dropped_none}
use Rattle.aq_tables.proofs.batch.drop_first.Goals as goal

pub returns-then-first-clause-done : goal.returns-then-first-clause-done
returns-then-first-clause-done g c site pollutant poc hour are clean begun =
    dropped c.args.first (ObsRowKey site pollutant poc hour) c.run.result _ _ (inr c.if-first.true) (rw are at (c.run.ensures.done clean begun))

pub returns-else-first-clause-done : goal.returns-else-first-clause-done
returns-else-first-clause-done g c site pollutant poc hour are clean begun =
    rw c.if-first.false (dropped_none (ObsRowKey site pollutant poc hour) c.run-else-first.result _ _ refl (c.run-else-first.ensures.done clean begun))

pub returns-then-first-clause-why : goal.returns-then-first-clause-why
returns-then-first-clause-why g c site pollutant poc hour are clean begun = rw c.if-first.true (rw are at (c.run.ensures.why clean begun))

pub returns-else-first-clause-why : goal.returns-else-first-clause-why
returns-else-first-clause-why g c site pollutant poc hour are clean begun = rw c.if-first.false (c.run-else-first.ensures.why clean begun)
