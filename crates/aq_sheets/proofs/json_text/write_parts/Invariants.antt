use Rattle.std.proofs.Common.{◌≡◌, true, [], ◌∷◌, ◌++◌}
use Rattle.json.specs.Token.{Token}
use Rattle.aq_sheets.specs.PartView.{are_parts}
use Rattle.aq_sheets.proofs.Sending.{parts_tokens}
use Rattle.aq_sheets.proofs.json_text.write_parts.Given as goal

abbrev pub invariant-loop-name : goal.invariant-loop-name
invariant-loop-name l = record {
  before : l.out.before ≡ l.fn.out.before;
  tokens : l.out.tokens ++ parts_tokens l.name-iterator ≡ (l.fn.out.tokens ++ Token.begin_object ∷ []) ++ parts_tokens l.fn.parts.entries;
  left : are_parts l.name-iterator ≡ true;
}
