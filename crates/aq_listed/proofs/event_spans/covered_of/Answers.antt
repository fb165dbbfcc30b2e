use Rattle.aq_listed.proofs.Begun.{begun-covered}
use Rattle.aq_listed.proofs.event_spans.covered_of.Goals as goal

pub returns : goal.returns
returns c =
    begun-covered c.args.standing.now c.in_ok-first_hours.first_hours.items c.in_ok-last_hours.last_hours.items c.in_order-starts.result.items c.in_order-ends.result.items
    c.as_slice.result.now c.as_slice-2.result.now c.args.marks.now c.in_ok-covered.covered.items
    c.in_ok-first_hours.ensures c.in_ok-last_hours.ensures c.in_order-starts.ensures.same c.in_order-ends.ensures.same c.as_slice.ensures.value c.as_slice-2.ensures.value c.in_ok-covered.ensures
