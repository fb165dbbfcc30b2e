use Rattle.std.proofs.Common.{◌≤◌, ◌∙◌, ◌++◌, length, ap, rules}
use Rattle.aq_rules.specs.Shown.WellFormed.{is_word}
use Rattle.serde_json.specs.Data.{string}
use Rattle.aq_sheets.specs.JsonView.{tokens_of}
use Rattle.aq_sheets.proofs.Sending.{all-more, list-ends, list-more}
use Rattle.aq_sheets.proofs.json_text.write_names.Goals as goal

pub write_text-requires : goal.write_text-requires
write_text-requires c =
    ap is_word c.as_slice.ensures ∙ (all-more is_word c.args.names.now c.loop-name.name-index _ (search rules) c.name-item.is c.loop-name.invariant.left).0

pub loop-name-preserved : goal.loop-name-preserved
loop-name-preserved c = record {
  before = c.in_ok-write_text.ensures.before ∙ c.loop-name.invariant.before;
  tokens =
      list-more string c.args.names.now c.loop-name.name-index _ _ _ _ (search rules) c.name-item.is c.loop-name.invariant.tokens
      (c.in_ok-write_text.ensures.tokens ∙ ap (λ text. c.loop-name.out.tokens ++ tokens_of (string text)) c.as_slice.ensures);
  left = (all-more is_word c.args.names.now c.loop-name.name-index _ (search rules) c.name-item.is c.loop-name.invariant.left).1;
}

pub returns-clause-tokens : goal.returns-clause-tokens
returns-clause-tokens c =
    let past : length c.args.names.now ≤ c.loop-name.name-index = search rules in
    list-ends string c.args.names.now c.loop-name.name-index _ _ _ past c.loop-name.invariant.tokens c.in_ok-end_array.ensures.ok
