use Rattle.std.proofs.Common.{◌≡◌, ◌+◌, ◌∷◌, drop, arith}
use Rattle.std.proofs.lemmas.Grind.{common_steps}
use Rattle.aq_listed.specs.EventWords.{listed_by}
use Rattle.aq_listed.proofs.Walks.{mapped-more}
use Rattle.aq_listed.proofs.event_list.rows_of.Goals as goal

pub loop-event-preserved : goal.loop-event-preserved
loop-event-preserved c =
    let next : drop c.loop-event.event-index c.args.standing.now ≡ c.event-item.result ∷ drop (c.loop-event.event-index + 1) c.args.standing.now = grind (arith, common_steps) in
    mapped-more (listed_by c.args.registry.now c.args.marks.now) c.loop-event.rows c.push.new.self _ _ _ c.event-item.result c.listed_event.result
    c.in_ok-push.ensures.ok c.listed_event.ensures next c.loop-event.invariant
