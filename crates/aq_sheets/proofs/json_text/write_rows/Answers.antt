use Rattle.std.proofs.Common.{◌≤◌, ◌∙◌, ◌++◌, length, ap, rules}
use Rattle.std.specs.List.{list_all}
use Rattle.aq_rules.specs.Shown.WellFormed.{is_cell}
use Rattle.aq_sheets.specs.JsonView.{row_of, tokens_of}
use Rattle.aq_sheets.proofs.Sending.{all-more, list-ends, list-more}
use Rattle.aq_sheets.proofs.json_text.write_rows.Goals as goal

pub write_row-requires : goal.write_row-requires
write_row-requires c =
    ap (list_all is_cell) c.as_slice.ensures
    ∙ (all-more (list_all is_cell) c.args.rows.now c.loop-row.row-index _ (search rules) c.row-item.is c.loop-row.invariant.left).0

pub loop-row-preserved : goal.loop-row-preserved
loop-row-preserved c = record {
  before = c.in_ok-write_row.ensures.before ∙ c.loop-row.invariant.before;
  tokens =
      list-more row_of c.args.rows.now c.loop-row.row-index _ _ _ _ (search rules) c.row-item.is c.loop-row.invariant.tokens
      (c.in_ok-write_row.ensures.tokens ∙ ap (λ cells. c.loop-row.out.tokens ++ tokens_of (row_of cells)) c.as_slice.ensures);
  left = (all-more (list_all is_cell) c.args.rows.now c.loop-row.row-index _ (search rules) c.row-item.is c.loop-row.invariant.left).1;
}

pub returns-clause-tokens : goal.returns-clause-tokens
returns-clause-tokens c =
    let past : length c.args.rows.now ≤ c.loop-row.row-index = search rules in
    list-ends row_of c.args.rows.now c.loop-row.row-index _ _ _ past c.loop-row.invariant.tokens c.in_ok-end_array.ensures.ok
