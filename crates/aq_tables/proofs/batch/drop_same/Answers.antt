use Rattle.std.proofs.Common.{inl, refl}
use Rattle.aq_rules.specs.Kept.RowChanges.{OfficeRowKey, LoadRowKey, SecondRowKey}
use Rattle.aq_tables.proofs.RowTurns.{dropped}
use Rattle.aq_tables.proofs.batch.drop_same.Goals as goal

pub returns-in-Office-clause-done : goal.returns-in-Office-clause-done
returns-in-Office-clause-done g c clean begun = rw (← c.row.view_is, c.in-Office.is, ← c.row-in-Office.view_is) (dropped c.args.first (OfficeRowKey c.row-in-Office.inside.kind c.row-in-Office.inside.key) c.run.result _ _ (inl refl) (rw (c.key_values.ensures, c.as_slice.ensures) at (c.run.ensures.done clean begun)))

pub returns-in-Observation-clause-done : goal.returns-in-Observation-clause-done
returns-in-Observation-clause-done g c clean begun =
    let inside = c.row-in-Observation.inside in
    rw (← c.row.view_is, c.in-Observation.is, ← c.row-in-Observation.view_is) (c.drop_first.ensures.done inside.site inside.pollutant inside.poc inside.hour c.place_values.ensures clean begun)

pub returns-in-Load-clause-done : goal.returns-in-Load-clause-done
returns-in-Load-clause-done g c clean begun = rw (← c.row.view_is, c.in-Load.is, ← c.row-in-Load.view_is) (dropped c.args.first (LoadRowKey c.row-in-Load.inside.number) c.run-in-Load.result _ _ (inl refl) (rw c.key_values-in-Load.ensures at (c.run-in-Load.ensures.done clean begun)))

pub returns-in-Second-clause-done : goal.returns-in-Second-clause-done
returns-in-Second-clause-done g c clean begun = rw (← c.row.view_is, c.in-Second.is, ← c.row-in-Second.view_is) (dropped c.args.first (SecondRowKey c.row-in-Second.inside.site c.row-in-Second.inside.pollutant c.row-in-Second.inside.poc c.row-in-Second.inside.hour) c.run-in-Second.result _ _ (inl refl) (rw c.key_values-in-Second.ensures at (c.run-in-Second.ensures.done clean begun)))

pub returns-in-Office-clause-why : goal.returns-in-Office-clause-why
returns-in-Office-clause-why g c clean begun = rw (← c.row.view_is, c.in-Office.is, ← c.row-in-Office.view_is) (rw (c.key_values.ensures, c.as_slice.ensures) at (c.run.ensures.why clean begun))

pub returns-in-Observation-clause-why : goal.returns-in-Observation-clause-why
returns-in-Observation-clause-why g c clean begun =
    let inside = c.row-in-Observation.inside in
    rw (← c.row.view_is, c.in-Observation.is, ← c.row-in-Observation.view_is) (c.drop_first.ensures.why inside.site inside.pollutant inside.poc inside.hour c.place_values.ensures clean begun)

pub returns-in-Load-clause-why : goal.returns-in-Load-clause-why
returns-in-Load-clause-why g c clean begun = rw (← c.row.view_is, c.in-Load.is, ← c.row-in-Load.view_is) (rw c.key_values-in-Load.ensures at (c.run-in-Load.ensures.why clean begun))

pub returns-in-Second-clause-why : goal.returns-in-Second-clause-why
returns-in-Second-clause-why g c clean begun = rw (← c.row.view_is, c.in-Second.is, ← c.row-in-Second.view_is) (rw c.key_values-in-Second.ensures at (c.run-in-Second.ensures.why clean begun))
