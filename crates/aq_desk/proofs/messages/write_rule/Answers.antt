use Rattle.std.proofs.Common.{◌++◌, ◌∙◌, ap, codes, refl}
use Rattle.std.specs.Prelude.{Ok, Err, decimal}
use Rattle.aq_base.specs.Rule.{rule_name, rule_number}
use Rattle.aq_desk.proofs.Telling.{writes_cut, writes_same, writes_then}
use Rattle.aq_desk.proofs.messages.write_rule.Goals as goal

pub returns-in_err-write_counted : goal.returns-in_err-write_counted
returns-in_err-write_counted g c =
    let number = decimal (rule_number c.args.rule) ++ codes " " in
    let name = rule_name c.args.rule in
    writes_cut (number ++ name) (codes "\n") _ _ _ c.from_residual.result c.from_residual.ensures.0
    (writes_cut number name _ _ c.in_err-write_counted.field-0.0 (Err c.in_err-write_counted.field-0.0) refl
    (writes_same _ number _ _ (Err c.in_err-write_counted.field-0.0) (ap (λ n. decimal n ++ codes " ") c.number.ensures) c.in_err-write_counted.ensures))

pub returns-in_err-write_all : goal.returns-in_err-write_all
returns-in_err-write_all g c =
    let number = decimal (rule_number c.args.rule) ++ codes " " in
    let name = rule_name c.args.rule in
    writes_cut (number ++ name) (codes "\n") _ _ c.in_err-write_all.field-0.0 _ c.from_residual-in_err-write_all.ensures.0
    (writes_then number name _ _ _ c.in_ok-write_counted.field-0 _
    (writes_same _ number _ _ (Ok c.in_ok-write_counted.field-0) (ap (λ n. decimal n ++ codes " ") c.number.ensures) c.in_ok-write_counted.ensures)
    (writes_same _ name _ _ (Err c.in_err-write_all.field-0.0) (c.as_bytes.ensures.value ∙ c.name.ensures) c.in_err-write_all.ensures))

pub returns : goal.returns
returns g c =
    let number = decimal (rule_number c.args.rule) ++ codes " " in
    let name = rule_name c.args.rule in
    writes_then (number ++ name) (codes "\n") _ _ _ c.in_ok-write_all.field-0 _
    (writes_then number name _ _ _ c.in_ok-write_counted.field-0 _
    (writes_same _ number _ _ (Ok c.in_ok-write_counted.field-0) (ap (λ n. decimal n ++ codes " ") c.number.ensures) c.in_ok-write_counted.ensures)
    (writes_same _ name _ _ (Ok c.in_ok-write_all.field-0) (c.as_bytes.ensures.value ∙ c.name.ensures) c.in_ok-write_all.ensures))
    c.write_all-2.ensures
