use Rattle.std.proofs.Common.{arith, refl, ◌∙◌}
use Rattle.std.proofs.lemmas.Grind.{common_steps}
use Rattle.aq_serve.proofs.Wires.{door_join, rest_is, sent_more}
use Rattle.aq_serve.proofs.sending.write_all.Goals as goal

pub loop-count-preserved : goal.loop-count-preserved
loop-count-preserved g c = record {
  within = grind (arith, common_steps, c.in_ok-count.ensures.moved.within);
  wire = sent_more _ _ _ c.args.text.now _ c.loop-count.count c.in_ok-count.field-0 (rest_is c.args.text.now c.loop-count.count _ refl) c.loop-count.invariant.wire c.in_ok-count.ensures.moved.moved;
  door = door_join _ _ _ c.loop-count.invariant.door c.in_ok-count.ensures.door;
  reads = c.in_ok-count.ensures.reads ∙ c.loop-count.invariant.reads;
  writes = c.in_ok-count.ensures.cause ∙ c.loop-count.invariant.writes;
}
