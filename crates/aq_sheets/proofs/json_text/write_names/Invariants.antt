use Rattle.std.proofs.Common.{◌≡◌, true, [], ◌∷◌, ◌++◌, drop}
use Rattle.std.specs.List.{list_all}
use Rattle.json.specs.Token.{Token}
use Rattle.serde_json.specs.Data.{string}
use Rattle.aq_rules.specs.Shown.WellFormed.{is_word}
use Rattle.aq_sheets.proofs.Sending.{list_tokens}
use Rattle.aq_sheets.proofs.json_text.write_names.Given as goal

abbrev pub invariant-loop-name : goal.invariant-loop-name
invariant-loop-name l = record {
  before : l.out.before ≡ l.fn.out.before;
  tokens : l.out.tokens ++ list_tokens string (drop l.name-index l.names) ≡ (l.fn.out.tokens ++ Token.begin_array ∷ []) ++ list_tokens string l.names;
  left : list_all is_word (drop l.name-index l.names) ≡ true;
}
