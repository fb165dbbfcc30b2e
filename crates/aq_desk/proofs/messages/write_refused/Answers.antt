use Rattle.std.proofs.Common.{◌++◌, codes}
use Rattle.std.specs.Prelude.{decimal}
use Rattle.aq_base.specs.Rule.{rule_name, rule_number}
use Rattle.aq_desk.proofs.Telling.{refused_message, writes_cut, writes_same, writes_then}
use Rattle.aq_desk.proofs.messages.write_refused.Goals as goal

pub returns-in_err-write_counted : goal.returns-in_err-write_counted
returns-in_err-write_counted g c =
    let first = (codes "airdv: 17 line " ++ decimal c.args.line) ++ codes " rule " in
    let last = ((decimal (rule_number c.args.rule) ++ codes " ") ++ rule_name c.args.rule) ++ codes "\n" in
    writes_same (first ++ last) _ _ _ c.from_residual.result (refused_message c.args.line c.args.rule)
    (writes_cut first last _ _ c.in_err-write_counted.field-0.0 _ c.from_residual.ensures.0 c.in_err-write_counted.ensures)

pub returns : goal.returns
returns g c =
    let first = (codes "airdv: 17 line " ++ decimal c.args.line) ++ codes " rule " in
    let last = ((decimal (rule_number c.args.rule) ++ codes " ") ++ rule_name c.args.rule) ++ codes "\n" in
    writes_same (first ++ last) _ _ _ c.write_rule.result (refused_message c.args.line c.args.rule)
    (writes_then first last _ _ _ c.in_ok-write_counted.field-0 _ c.in_ok-write_counted.ensures c.write_rule.ensures)
