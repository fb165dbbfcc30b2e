use Rattle.std.proofs.Common.{◌+◌, ◌*◌, None, get_or, ◌∙◌, arith}
use Rattle.std.specs.Prelude.{nat_lt}
use Rattle.aq_series.specs.OfficeView.{office_of}
use Rattle.aq_design.specs.Combined.Pairs.{chosen, pair_in}
use Rattle.aq_design.proofs.CombinedLemmas.Spans.{are-ozone, early-hours, hours-are}
use Rattle.aq_design.proofs.combined.pair.PairOzoneSource.hours.Goals as goal

pub returns-then-end-from-clause-hours : goal.returns-then-end-from-clause-hours
returns-then-end-from-clause-hours g c =
    let pair = c.args.self.now in
    early-hours (office_of pair.registry.now pair.shelf.now) (pair_in pair) c.args.day c.site_hours-site.result c.site_hours-site.ensures.hours
    (omega (arith, c.if-end-from.true, c.number-number.ensures.value, c.number-from.ensures.value))

pub returns-clause-hours : goal.returns-clause-hours
returns-clause-hours g c =
    let pair = c.args.self.now in
    let day = c.from.ensures ∙ c.number-number.ensures.value in
    let from = c.from-2.ensures ∙ c.number-from.ensures.value in
    hours-are (office_of pair.registry.now pair.shelf.now) (pair_in pair) c.args.day c.site_hours-site.result c.site_hours-joined.result c.of_either.result c.site_hours-site.ensures.hours c.site_hours-joined.ensures.hours c.of_either.ensures.many
    (λ k within. c.of_either.ensures.cells k within ∙ (λ i. chosen (nat_lt (24 * day i + k) (24 * from i)) (get_or c.site_hours-site.result k None) (get_or c.site_hours-joined.result k None)))

pub returns-clause-range : goal.returns-clause-range
returns-clause-range g c =
    are-ozone c.site_hours-site.result c.site_hours-joined.result c.of_either.result 192 (24 * c.from.result) (24 * c.from-2.result) c.of_either.ensures.many c.of_either.ensures.cells c.site_hours-site.ensures.range c.site_hours-joined.ensures.range
