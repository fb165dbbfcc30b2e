use Rattle.std.proofs.Common.{◌≡◌, ◌+◌, ◌-◌, ◌∙◌, Option, length, take, drop, sym, ap, arith}
use Rattle.aq_base.specs.declared.code.Code.{Code}
use Rattle.aq_base.specs.Quals.{with_code}
use Rattle.aq_rules.specs.Lines.Spellings.{◌>>=◌, qualifiers_in, qualifiers_onto}
use Rattle.aq_rules.specs.Lines.RdForm.{qualifier_fields}
use Rattle.aq_rd.proofs.QualifierSteps.{step-none, step-some, length-with_code}
use Rattle.aq_rd.proofs.spellings.qualifiers.Goals as goal
use Rattle.aq_rd.proofs.spellings.qualifiers.Goals.{then-not-is_empty+in_ok-qualifier_in, else-not-is_empty}

pub loop-number-init : goal.loop-number-init
unfolding qualifiers_in
loop-number-init c = record {
  few = omega (arith, ap length c.new-quals.ensures);
  same = ap (λ codes. qualifiers_onto codes (qualifier_fields c.args.texts.now)) (sym c.new-quals.ensures);
}

pub returns-in_err-qualifier_in : goal.returns-in_err-qualifier_in
returns-in_err-qualifier_in c =
    let n = c.loop-number.number in
    let rest = take (27 - (n + 1)) (drop (n + 1 - 1) c.args.texts.now) in
    let left = λ (part : Option Code). part >>= λ code. qualifiers_onto (with_code c.loop-number.quals code) rest in
    c.from_residual.ensures
    ∙ sym (c.loop-number.invariant.same
    ∙ step-some c.loop-number.quals n c.args.texts.now c.field-text.result.now c.is_empty.result (omega arith) (omega arith) c.field-text.ensures c.is_empty.ensures (cc)
    ∙ sym (ap left c.in_err-qualifier_in.ensures))

pub loop-number-preserved : goal.loop-number-preserved
loop-number-preserved c =
    let n = c.loop-number.number in
    let rest = take (27 - (n + 1)) (drop (n + 1 - 1) c.args.texts.now) in
    let left = λ (part : Option Code). part >>= λ code. qualifiers_onto (with_code c.loop-number.quals code) rest in
    elim c.if-not-is_empty.branch [
      | then-not-is_empty+in_ok-qualifier_in w ↦
          let code = w.in_ok-qualifier_in.field-0 in
          let same : c.if-not-is_empty.quals ≡ with_code c.loop-number.quals code = cc in
          record {
            few = omega (arith, ap length same, length-with_code c.loop-number.quals code, c.loop-number.invariant.few);
            same =
                c.loop-number.invariant.same
                ∙ step-some c.loop-number.quals n c.args.texts.now c.field-text.result.now c.is_empty.result (omega arith) (omega arith) c.field-text.ensures c.is_empty.ensures (cc)
                ∙ sym (ap left w.in_ok-qualifier_in.ensures) ∙ ap (λ codes. qualifiers_onto codes rest) (sym same);
          }
      | else-not-is_empty w ↦
          let same : c.if-not-is_empty.quals ≡ c.loop-number.quals = cc in
          record {
            few = omega (arith, ap length same, c.loop-number.invariant.few);
            same =
                c.loop-number.invariant.same
                ∙ step-none c.loop-number.quals n c.args.texts.now c.field-text.result.now c.is_empty.result (omega arith) (omega arith) c.field-text.ensures c.is_empty.ensures (cc)
                ∙ ap (λ codes. qualifiers_onto codes rest) (sym same);
          }
    ]
