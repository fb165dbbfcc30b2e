use Rattle.std.proofs.Common.{◌≡◌, true, [], ◌∷◌, ◌++◌, drop}
use Rattle.std.specs.List.{list_all}
use Rattle.json.specs.Token.{Token}
use Rattle.aq_sheets.specs.JsonView.{data_of}
use Rattle.aq_rules.specs.Shown.WellFormed.{is_cell}
use Rattle.aq_sheets.proofs.Sending.{list_tokens}
use Rattle.aq_sheets.proofs.json_text.write_row.Given as goal

abbrev pub invariant-loop-cell : goal.invariant-loop-cell
invariant-loop-cell l = record {
  before : l.out.before ≡ l.fn.out.before;
  tokens : l.out.tokens ++ list_tokens data_of (drop l.cell-index l.cells) ≡ (l.fn.out.tokens ++ Token.begin_array ∷ []) ++ list_tokens data_of l.cells;
  left : list_all is_cell (drop l.cell-index l.cells) ≡ true;
}
