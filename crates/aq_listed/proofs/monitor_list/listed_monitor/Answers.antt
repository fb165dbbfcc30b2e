use Rattle.std.proofs.Common.{refl}
use Rattle.aq_listed.proofs.MonitorRows.{few_of_span, row_of_span}
use Rattle.aq_listed.proofs.monitor_list.listed_monitor.Goals as goal

pub observed-standing-requires : goal.observed-standing-requires
observed-standing-requires g c = few_of_span c.args.shelf.now c.args.id.now _ _ c.span.result c.span.ensures.shelf c.span.ensures.observations

pub returns : goal.returns
returns g c =
    λ records. row_of_span c.args.shelf.now c.args.id.now _ _ c.span.result c.span.ensures.shelf c.span.ensures.observations records
    (record { id = c.args.id.now; duration = c.args.registered.0; eligible = c.args.registered.1 })
    c.observed-standing.result.count c.observed-standing.result.first c.observed-standing.result.last
    refl c.new.ensures refl c.observed-standing.ensures.count c.observed-standing.ensures.first c.observed-standing.ensures.last
