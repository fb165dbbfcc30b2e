use Rattle.std.proofs.Common.{◌≤◌, ◌∙◌, length, rules}
use Rattle.aq_rules.specs.Shown.WellFormed.{is_cell}
use Rattle.aq_sheets.specs.JsonView.{data_of}
use Rattle.aq_sheets.proofs.Sending.{all-more, list-ends, list-more}
use Rattle.aq_sheets.proofs.json_text.write_row.Goals as goal

pub write_cell-requires : goal.write_cell-requires
write_cell-requires c =
    (all-more is_cell c.args.cells.now c.loop-cell.cell-index _ (search rules) c.cell-item.is c.loop-cell.invariant.left).0

pub loop-cell-preserved : goal.loop-cell-preserved
loop-cell-preserved c = record {
  before = c.in_ok-write_cell.ensures.before ∙ c.loop-cell.invariant.before;
  tokens =
      list-more data_of c.args.cells.now c.loop-cell.cell-index _ _ _ _ (search rules) c.cell-item.is c.loop-cell.invariant.tokens
      c.in_ok-write_cell.ensures.tokens;
  left = (all-more is_cell c.args.cells.now c.loop-cell.cell-index _ (search rules) c.cell-item.is c.loop-cell.invariant.left).1;
}

pub returns-clause-tokens : goal.returns-clause-tokens
returns-clause-tokens c =
    let past : length c.args.cells.now ≤ c.loop-cell.cell-index = search rules in
    list-ends data_of c.args.cells.now c.loop-cell.cell-index _ _ _ past c.loop-cell.invariant.tokens c.in_ok-end_array.ensures.ok
