use Rattle.std.proofs.Common.{◌≡◌, ◌+◌, ◌∷◌, drop, arith}
use Rattle.std.proofs.lemmas.Grind.{common_steps}
use Rattle.aq_listed.specs.EventSpans.{is_begun}
use Rattle.aq_listed.proofs.Walks.{filtered-more}
use Rattle.aq_listed.proofs.event_spans.begun_of.Goals as goal

pub loop-mark-preserved : goal.loop-mark-preserved
loop-mark-preserved c =
    let next : drop c.loop-mark.mark-index c.args.marks.now ≡ c.mark-item.result ∷ drop (c.loop-mark.mark-index + 1) c.args.marks.now = grind (arith, common_steps) in
    filtered-more (is_begun c.args.starts.now c.args.ends.now) c.loop-mark.begun.items c.add_begun.new.begun.items _ _ _ c.mark-item.result
    c.in_ok-add_begun.ensures next c.loop-mark.invariant
