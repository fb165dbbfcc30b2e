use Rattle.std.proofs.Common.{arith, refl, ◌∙◌}
use Rattle.std.proofs.lemmas.Grind.{common_steps}
use Rattle.aq_desk.proofs.Fronts.{piece_more, rest_is}
use Rattle.aq_desk.proofs.writing.write_all.Goals as goal

pub loop-count-preserved : goal.loop-count-preserved
loop-count-preserved g c = record {
  within = grind (arith, common_steps, c.in_ok-count.ensures.taken.within);
  written = piece_more _ _ _ c.args.text.now _ c.loop-count.count c.in_ok-count.field-0 c.loop-count.invariant.written (rest_is c.args.text.now c.loop-count.count _ refl) c.in_ok-count.ensures.taken.written;
  steady = c.in_ok-count.ensures.cause ∙ c.loop-count.invariant.steady;
}
