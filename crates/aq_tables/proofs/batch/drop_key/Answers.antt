use Rattle.std.proofs.Common.{inl, refl}
use Rattle.aq_rules.specs.Kept.RowChanges.{OfficeRowKey, LoadRowKey, SecondRowKey}
use Rattle.aq_tables.proofs.RowTurns.{dropped}
use Rattle.aq_tables.proofs.batch.drop_key.Goals as goal

pub returns-in-Office-clause-done : goal.returns-in-Office-clause-done
returns-in-Office-clause-done g c clean begun = rw (← c.key.view_is, c.in-Office.is) (dropped c.args.first (OfficeRowKey c.in-Office.kind c.in-Office.key) c.run.result _ _ (inl refl) (rw (c.key_values.ensures, c.as_slice.ensures) at (c.run.ensures.done clean begun)))

pub returns-in-Observation-clause-done : goal.returns-in-Observation-clause-done
returns-in-Observation-clause-done g c clean begun = rw (← c.key.view_is, c.in-Observation.is) (c.drop_first.ensures.done c.in-Observation.site c.in-Observation.pollutant c.in-Observation.poc c.in-Observation.hour c.place_values.ensures clean begun)

pub returns-in-Load-clause-done : goal.returns-in-Load-clause-done
returns-in-Load-clause-done g c clean begun = rw (← c.key.view_is, c.in-Load.is) (dropped c.args.first (LoadRowKey c.in-Load.number) c.run-in-Load.result _ _ (inl refl) (rw c.key_values-in-Load.ensures at (c.run-in-Load.ensures.done clean begun)))

pub returns-in-Second-clause-done : goal.returns-in-Second-clause-done
returns-in-Second-clause-done g c clean begun = rw (← c.key.view_is, c.in-Second.is) (dropped c.args.first (SecondRowKey c.in-Second.site c.in-Second.pollutant c.in-Second.poc c.in-Second.hour) c.run-in-Second.result _ _ (inl refl) (rw c.key_values-in-Second.ensures at (c.run-in-Second.ensures.done clean begun)))

pub returns-in-Office-clause-why : goal.returns-in-Office-clause-why
returns-in-Office-clause-why g c clean begun = rw (← c.key.view_is, c.in-Office.is) (rw (c.key_values.ensures, c.as_slice.ensures) at (c.run.ensures.why clean begun))

pub returns-in-Observation-clause-why : goal.returns-in-Observation-clause-why
returns-in-Observation-clause-why g c clean begun = rw (← c.key.view_is, c.in-Observation.is) (c.drop_first.ensures.why c.in-Observation.site c.in-Observation.pollutant c.in-Observation.poc c.in-Observation.hour c.place_values.ensures clean begun)

pub returns-in-Load-clause-why : goal.returns-in-Load-clause-why
returns-in-Load-clause-why g c clean begun = rw (← c.key.view_is, c.in-Load.is) (rw c.key_values-in-Load.ensures at (c.run-in-Load.ensures.why clean begun))

pub returns-in-Second-clause-why : goal.returns-in-Second-clause-why
returns-in-Second-clause-why g c clean begun = rw (← c.key.view_is, c.in-Second.is) (rw c.key_values-in-Second.ensures at (c.run-in-Second.ensures.why clean begun))
