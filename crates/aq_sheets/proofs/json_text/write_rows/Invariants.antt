use Rattle.std.proofs.Common.{◌≡◌, true, [], ◌∷◌, ◌++◌, drop}
use Rattle.std.specs.List.{list_all}
use Rattle.json.specs.Token.{Token}
use Rattle.aq_sheets.specs.JsonView.{row_of}
use Rattle.aq_rules.specs.Shown.WellFormed.{is_cell}
use Rattle.aq_sheets.proofs.Sending.{list_tokens}
use Rattle.aq_sheets.proofs.json_text.write_rows.Given as goal

abbrev pub invariant-loop-row : goal.invariant-loop-row
invariant-loop-row l = record {
  before : l.out.before ≡ l.fn.out.before;
  tokens : l.out.tokens ++ list_tokens row_of (drop l.row-index l.rows) ≡ (l.fn.out.tokens ++ Token.begin_array ∷ []) ++ list_tokens row_of l.rows;
  left : list_all (λ row. list_all is_cell row) (drop l.row-index l.rows) ≡ true;
}
