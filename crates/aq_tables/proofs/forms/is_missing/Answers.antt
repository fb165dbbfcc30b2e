use Rattle.std.proofs.Common.{◌≡◌, ◌≤◌, Some, slice_get, length, filter, ◌==◌, refl, ap, sym, subst, ◌∙◌, rules}
use Rattle.std.proofs.lemmas.Option.{slice_get-get_or}
use Rattle.sqlite.specs.Table.{Table}
use Rattle.sqlite_schema.specs.Names.{table_named}
use Rattle.aq_tables.specs.Forms.{form_in}
use Rattle.aq_tables.proofs.Fitting.{stands_alone, misformed_here, misformed_past}
use Rattle.aq_tables.proofs.forms.is_missing.Goals as goal

pub returns-in_default-get-clause-refused : goal.returns-in_default-get-clause-refused
returns-in_default-get-clause-refused c =
    let named : table_named c.args.schema.now c.args.form.now.name.now ≡ Some c.in-Some.at = search rules in
    let past = rw c.in_default-get.is at c.get.ensures.lookup in
    (refl, misformed_past c.args.schema.now (form_in c.args.form.now) c.in-Some.at named (subst (λ l. length l ≤ c.in-Some.at) c.as_slice-tables.ensures past.3))

pub returns-then-is_ours-clause-missing : goal.returns-then-is_ours-clause-missing
returns-then-is_ours-clause-missing c =
    let table = c.in-Some-get.table.now in
    let tables = c.args.schema.now.tables in
    let got = rw c.in-Some-get.is at c.get.ensures.lookup in
    let there : slice_get tables c.in-Some.at ≡ Some table = subst (λ l. slice_get l c.in-Some.at ≡ Some table) c.as_slice-tables.ensures (slice_get-get_or _ _ table got.3.0 ∙ ap Some (sym got.1)) in
    let named : table_named c.args.schema.now c.args.form.now.name.now ≡ Some c.in-Some.at = search rules in
    let ours = c.is_ours.ensures.0 c.if-is_ours.true in
    let one : length (filter (λ (t : Table). t.tree == table.tree) tables) ≡ 1 = subst (λ l. length (filter (λ (t : Table). t.tree == table.tree) l) ≡ 1) c.as_slice-tables.ensures ours.1 in
    stands_alone c.args.schema.now (form_in c.args.form.now) c.in-Some.at table named there ours.0 one ours.2

pub returns-else-is_ours-clause-refused : goal.returns-else-is_ours-clause-refused
returns-else-is_ours-clause-refused c =
    let table = c.in-Some-get.table.now in
    let tables = c.args.schema.now.tables in
    let got = rw c.in-Some-get.is at c.get.ensures.lookup in
    let there : slice_get tables c.in-Some.at ≡ Some table = subst (λ l. slice_get l c.in-Some.at ≡ Some table) c.as_slice-tables.ensures (slice_get-get_or _ _ table got.3.0 ∙ ap Some (sym got.1)) in
    let named : table_named c.args.schema.now c.args.form.now.name.now ≡ Some c.in-Some.at = search rules in (
      refl,
      misformed_here c.args.schema.now (form_in c.args.form.now) c.in-Some.at named table there (λ formed one low.
          let alone = subst (λ l. length (filter (λ (u : Table). u.tree == table.tree) l) ≡ 1) (sym c.as_slice-tables.ensures) one in
          let is = c.is_ours.ensures.1 (formed, alone, low) in
          let is_not = c.if-is_ours.false in
          cc),
    )
