use Rattle.std.proofs.Common.{◌∙◌, ap}
use Rattle.std.specs.Prelude.{filter}
use Rattle.aq_registry.specs.Places.{lies_between}
use Rattle.aq_registry.proofs.EntryLemmas.{places-rise, values-between}
use Rattle.aq_registry.proofs.records.Records.between.Goals as goal

pub returns-clause-records : goal.returns-clause-records
returns-clause-records c =
    values-between c.args.start c.args.end c.self.inside.by_place.entries c.range.result c.self.invariant.placed (c.range.ensures.between tt)
    ∙ ap (filter (lies_between c.args.start c.args.end)) c.self.view_is

pub returns-clause-rising : goal.returns-clause-rising
returns-clause-rising c = places-rise c.self.inside.by_place.entries c.args.self.now c.self.invariant c.self.view_is
