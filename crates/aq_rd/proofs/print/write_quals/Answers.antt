use Rattle.aq_rd.proofs.Printed.{bar-step, one-more}
use Rattle.aq_rd.proofs.print.write_quals.Goals as goal

pub loop-code-preserved : goal.loop-code-preserved
loop-code-preserved c =
    bar-step c.args.out.now.items c.loop-code.out.items c.push.new.self.items c.write_code.new.out.items _ _ _ c.loop-code.invariant c.in_ok-push.ensures.items c.in_ok-write_code.ensures.written
    (one-more c.args.quals.now c.loop-code.code-index _ c.loop-code-test.true)
