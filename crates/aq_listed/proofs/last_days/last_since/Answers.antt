use Rattle.aq_listed.proofs.LateDays.{later-since}
use Rattle.aq_listed.proofs.MonitorRows.{few_of_span}
use Rattle.aq_listed.proofs.last_days.last_since.Goals as goal

pub observed-requires : goal.observed-requires
observed-requires g c = few_of_span c.args.shelf.now c.args.id.now _ _ c.span.result c.span.ensures.shelf c.span.ensures.observations

pub returns : goal.returns
returns g c =
    later-since c.args.shelf.now c.args.id.now c.span.ensures.shelf c.args.day.now c.observed.result.last c.first_hour-first.result c.number-number.result c.span.result
    c.number-number.ensures.range c.number-number.ensures.value c.first_hour-first.ensures c.span.ensures.observations c.observed.ensures.last
