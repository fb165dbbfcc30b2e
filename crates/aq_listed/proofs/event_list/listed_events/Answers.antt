use Rattle.std.proofs.Common.{◌∙◌, ap, map}
use Rattle.aq_listed.specs.EventWords.{listed_by}
use Rattle.aq_listed.proofs.EventRows.{rows-are}
use Rattle.aq_listed.proofs.event_list.listed_events.Goals as goal

pub returns : goal.returns
returns g c =
    c.in_ok-rows.ensures
    ∙ ap (map (listed_by c.args.registry.now c.in_ok-marks.marks)) (c.as_slice.ensures ∙ c.in_ok-standing.ensures)
    ∙ rows-are c.args.registry.now c.args.shelf.now c.in_ok-marks.marks c.args.site c.in_ok-marks.ensures c.next_poc.ensures.valid.records_fit
