use Rattle.std.proofs.Common.{ap, sym, ◌∙◌}
use Rattle.aq_rules.specs.Kept.Rows.{are_office_rows}
use Rattle.aq_book.proofs.MigrationLemmas.{not_migrated-neither, old-found, other_tables-neither}
use Rattle.aq_book.proofs.migration.find.Goals as goal

pub returns-then-not-has_old_tables : goal.returns-then-not-has_old_tables
returns-then-not-has_old_tables c =
    other_tables-neither c.args.rows.now (sym c.in_ok-are_office_rows.ensures ∙ c.if-branch.false) (sym c.has_old_tables.ensures ∙ c.if-not-has_old_tables.true)

pub returns-then-branch-2 : goal.returns-then-branch-2
returns-then-branch-2 c =
    let opened = ap are_office_rows (c.as_slice.ensures ∙ c.in_ok-office.ensures) in (
      old-found c.args.rows.now (sym c.has_old_tables.ensures ∙ c.if-not-has_old_tables.false) (sym opened ∙ sym c.in_ok-are_office_rows-2.ensures ∙ c.if-branch-2.true),
      c.in_ok-office.ensures,
    )

pub returns-else-branch-2 : goal.returns-else-branch-2
returns-else-branch-2 c =
    let opened = ap are_office_rows (c.as_slice.ensures ∙ c.in_ok-office.ensures) in
    not_migrated-neither c.args.rows.now (sym c.in_ok-are_office_rows.ensures ∙ c.if-branch.false) (sym opened ∙ sym c.in_ok-are_office_rows-2.ensures ∙ c.if-branch-2.false)
