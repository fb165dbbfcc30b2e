use Rattle.std.proofs.Common.{◌∙◌, ◌++◌, ap, sym, List}
use Rattle.aq_rules.specs.Kept.Rows.{Row}
use Rattle.aq_rules.specs.Kept.RowChanges.{with_row_changes}
use Rattle.aq_keeper.proofs.TableByTable.{by_table, rows-are, still-table}
use Rattle.aq_keeper.proofs.tables_apart.TablesApart.change.Goals as goal

pub invariant_of-self-2 : goal.invariant_of-self-2
invariant_of-self-2 c =
    let batch = c.args.batch.now in
    let were = c.self.invariant in (
      still-table 0 batch _ _ were.0 (rows-are 0 batch _ _ _ _ c.later_for.ensures.rows c.in_ok-records.ensures c.make_all.ensures.made) c.make_all.ensures.rise,
      still-table 1 batch _ _ were.1 (rows-are 1 batch _ _ _ _ c.later_for-2.ensures.rows c.in_ok-observations.ensures c.make_all-2.ensures.made) c.make_all-2.ensures.rise,
      still-table 2 batch _ _ were.2 (rows-are 2 batch _ _ _ _ c.later_for-3.ensures.rows c.in_ok-loads.ensures c.make_all-3.ensures.made) c.make_all-3.ensures.rise,
      still-table 3 batch _ _ were.3 (rows-are 3 batch _ _ _ _ c.later_for-4.ensures.rows c.in_ok-seconds.ensures c.make_all-4.ensures.made) c.make_all-4.ensures.rise,
    )

pub returns-clause-done : goal.returns-clause-done
returns-clause-done c =
    let batch = c.args.batch.now in
    let were = c.self.invariant in
    let records = rows-are 0 batch _ _ _ _ c.later_for.ensures.rows c.in_ok-records.ensures c.make_all.ensures.made in
    let observations = rows-are 1 batch _ _ _ _ c.later_for-2.ensures.rows c.in_ok-observations.ensures c.make_all-2.ensures.made in
    let loads = rows-are 2 batch _ _ _ _ c.later_for-3.ensures.rows c.in_ok-loads.ensures c.make_all-3.ensures.made in
    let seconds = rows-are 3 batch _ _ _ _ c.later_for-4.ensures.rows c.in_ok-seconds.ensures c.make_all-4.ensures.made in
    (λ i. records i ++ observations i ++ loads i ++ seconds i)
    ∙ sym (by_table _ _ _ _ batch were.0.0 were.1.0 were.2.0 were.3.0)
    ∙ ap (λ (rows : List Row). with_row_changes rows batch) c.self.view_is
