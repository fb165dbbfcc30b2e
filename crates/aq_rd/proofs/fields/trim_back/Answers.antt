use Rattle.std.proofs.Common.{◌∙◌, arith}
use Rattle.aq_rd.proofs.FieldSteps.{back-step, back-stop, back-none}
use Rattle.aq_rd.proofs.fields.trim_back.Goals as goal
use Rattle.aq_rd.proofs.fields.trim_back.Goals.{then-loop-end-test+else-text-end-eq32, else-loop-end-test}

pub loop-end-preserved : goal.loop-end-preserved
loop-end-preserved c = record {
  within = omega arith;
  same = back-step c.args.text.now c.loop-end.end c.loop-end-test.true c.loop-end.invariant.within c.if-text-end-eq32.true ∙ c.loop-end.invariant.same;
}

pub returns : goal.returns
returns c =
    elim c.loop-end-test.branch [
      | then-loop-end-test+else-text-end-eq32 w ↦
          back-stop c.args.text.now c.loop-end.end w.loop-end-test.true c.loop-end.invariant.within w.if-text-end-eq32.false ∙ c.loop-end.invariant.same
      | else-loop-end-test w ↦ back-none c.args.text.now c.loop-end.end (omega arith) ∙ c.loop-end.invariant.same
    ]
