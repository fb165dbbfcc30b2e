use Rattle.std.proofs.Common.{◌∙◌}
use Rattle.aq_design.specs.Combined.Pairs.{pair_in}
use Rattle.aq_design.proofs.CombinedLemmas.Quarters.{year-of-pair}
use Rattle.aq_design.proofs.combined.pm25.pm25_year.Goals as goal

pub returns : goal.returns
returns g c =
    let pair = c.args.pair.now in
    c.year_of.ensures ∙ year-of-pair pair.registry.now pair.shelf.now (pair_in pair) c.next_poc.ensures.valid c.args.year c.a_quarter_holds_the_days_of_its_span.ensures
