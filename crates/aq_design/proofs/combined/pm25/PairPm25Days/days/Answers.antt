use Rattle.std.proofs.Common.{◌+◌, None, get_or, ◌∙◌, arith}
use Rattle.std.specs.Prelude.{nat_lt}
use Rattle.aq_rules.specs.Ozone.SiteHour.{Cell}
use Rattle.aq_series.specs.DayCells.{IsParticle}
use Rattle.aq_series.specs.OfficeView.{office_of}
use Rattle.aq_design.specs.Combined.Pairs.{chosen, pair_in}
use Rattle.aq_design.proofs.CombinedLemmas.Spans.{all-chosen, days-are, early-days}
use Rattle.aq_design.proofs.combined.pm25.PairPm25Days.days.Goals as goal

pub returns-then-end-from-clause-days : goal.returns-then-end-from-clause-days
returns-then-end-from-clause-days g c k within =
    let pair = c.args.self.now in
    early-days (office_of pair.registry.now pair.shelf.now) (pair_in pair) c.args.first c.args.count c.site_days-site.result c.site_days-site.ensures.days
    (omega (arith, c.if-end-from.true, c.from.ensures, c.number-number.ensures.value, c.number-from.ensures.value)) k within

pub returns-clause-days : goal.returns-clause-days
returns-clause-days g c k within =
    let pair = c.args.self.now in
    let first = c.from-2.ensures ∙ c.number-number.ensures.value in
    let from = c.from-3.ensures ∙ c.number-from.ensures.value in
    days-are (office_of pair.registry.now pair.shelf.now) (pair_in pair) c.args.first c.args.count c.site_days-site.result c.site_days-site.ensures.days c.site_days-joined.result c.of_either.result c.requires.few c.site_days-joined.ensures.days
    (λ k below. c.of_either.ensures.cells k below ∙ (λ i. chosen (nat_lt (first i + k) (from i)) (get_or c.site_days-site.result k None) (get_or c.site_days-joined.result k None))) k within

pub returns-clause-range : goal.returns-clause-range
returns-clause-range g c =
    all-chosen c.site_days-site.result c.site_days-joined.result c.of_either.result 92 c.from-2.result c.from-3.result c.of_either.ensures.many c.of_either.ensures.cells (λ (cell : Cell). IsParticle cell.value) c.site_days-site.ensures.range c.site_days-joined.ensures.range
