use Rattle.std.proofs.Common.{subst, ◌∙◌, inr}
use Rattle.aq_book.specs.Migrating.{Migrates}
use Rattle.aq_desk.proofs.Opening.{committed, not_migrated, not_remembered, office_opened, old_opened, only_old, undamaged, undamaged_old, undamaged_stops}
use Rattle.aq_desk.proofs.office.migrate_rows.Goals as goal

pub returns-in_err-migration-clause-stopped : goal.returns-in_err-migration-clause-stopped
returns-in_err-migration-clause-stopped g c =
    not_migrated c.from_residual.result _ _ c.args.rows.now c.in_err-migration.field-0.0 c.from_residual.ensures.1 c.in_err-migration.ensures.damaged c.requires

pub returns-in_default-clause-opened : goal.returns-in_default-clause-opened
returns-in_default-clause-opened g c =
    office_opened c.rows_are_those_of_their_office.ensures.rows c.rows_are_those_of_their_office.ensures.valid _ c.args.rows.now c.in_ok-open.field-0 c.migrated_rows_are_an_offices.ensures.once
    c.requires c.in_ok-open.ensures.office

pub returns-in_err-open-clause-stopped : goal.returns-in_err-open-clause-stopped
returns-in_err-open-clause-stopped g c =
    let is = subst (Migrates c.args.rows.now) c.in_default.is c.in_ok-migration.ensures.migrated in
    undamaged_stops c.from_residual-in_err-open.result _ _ _ _ c.args.rows.now c.in_err-open.field-0.0 c.from_residual-in_err-open.ensures.1 c.in_err-open.ensures.damaged
    (λ place at. undamaged c.args.rows.now place c.first_damaged_row_is_named.ensures.none is at) (not_remembered _ _)

pub returns-in_err-commit-clause-untouched : goal.returns-in_err-commit-clause-untouched
returns-in_err-commit-clause-untouched g c =
    let is = subst (Migrates c.args.rows.now) c.in-Some.is c.in_ok-migration.ensures.migrated in
    only_old c.args.rows.now is.old

pub returns-in_err-open-2-clause-stopped : goal.returns-in_err-open-2-clause-stopped
returns-in_err-open-2-clause-stopped g c =
    let rows = c.args.rows.now in
    let is = subst (Migrates rows) c.in-Some.is c.in_ok-migration.ensures.migrated in
    undamaged_stops c.from_residual-in_err-open-2.result _ _ _ _ c.rows.result.now c.in_err-open-2.field-0.0 c.from_residual-in_err-open-2.ensures.1 c.in_err-open-2.ensures.damaged
    (λ place at. undamaged_old rows c.rows.result.now place c.first_damaged_row_is_named.ensures.none c.migrated_rows_are_an_offices.ensures.office is.old (c.rows.ensures ∙ is.rows_are) at)
    (inr (committed _ _ rows c.batch.result.now is.old (c.batch.ensures ∙ is.batch_is) (c.the_batch_of_a_migration_gives_the_migrated_rows.ensures.rows rows is.old) c.requires c.in_ok-commit.ensures.done), c.in_ok-commit.ensures.cause)

pub returns-in_err-open-2-clause-untouched : goal.returns-in_err-open-2-clause-untouched
returns-in_err-open-2-clause-untouched g c =
    let is = subst (Migrates c.args.rows.now) c.in-Some.is c.in_ok-migration.ensures.migrated in
    only_old c.args.rows.now is.old

pub returns-clause-opened : goal.returns-clause-opened
returns-clause-opened g c =
    let rows = c.args.rows.now in
    let is = subst (Migrates rows) c.in-Some.is c.in_ok-migration.ensures.migrated in
    old_opened c.rows_are_those_of_their_office.ensures.rows c.rows_are_those_of_their_office.ensures.valid _ _ rows c.rows.result.now c.in_ok-open-2.field-0 is.old (c.rows.ensures ∙ is.rows_are) c.requires
    (committed _ _ rows c.batch.result.now is.old (c.batch.ensures ∙ is.batch_is) (c.the_batch_of_a_migration_gives_the_migrated_rows.ensures.rows rows is.old) c.requires c.in_ok-commit.ensures.done)
    c.in_ok-open-2.ensures.office

pub returns-clause-untouched : goal.returns-clause-untouched
returns-clause-untouched g c =
    let is = subst (Migrates c.args.rows.now) c.in-Some.is c.in_ok-migration.ensures.migrated in
    only_old c.args.rows.now is.old
