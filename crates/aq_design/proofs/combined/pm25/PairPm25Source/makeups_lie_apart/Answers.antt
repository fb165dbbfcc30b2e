use Rattle.aq_design.specs.Combined.Pairs.{pair_in}
use Rattle.aq_design.proofs.CombinedLemmas.Quarters.{credits-apart}
use Rattle.aq_design.proofs.combined.pm25.PairPm25Source.makeups_lie_apart.Goals as goal

pub returns : goal.returns
returns c =
    let pair = c.args.self.now in
    credits-apart pair.registry.now pair.shelf.now (pair_in pair) c.next_poc.ensures.valid c.args._quarter (c.a_quarter_holds_the_days_of_its_span.ensures c.args._quarter)
