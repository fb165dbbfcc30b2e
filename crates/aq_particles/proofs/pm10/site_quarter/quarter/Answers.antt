use Rattle.std.proofs.Common.{◌≡◌, ◌+◌, List, sym, subst, ◌∙◌, arith}
use Rattle.aq_rules.specs.Kept.Summaries.{KeepsPm10Quarter}
use Rattle.aq_series.specs.OfficeView.{office_of}
use Rattle.aq_particles.specs.declared.pm10.site_quarter.DayOfQuarter.{DayOfQuarter}
use Rattle.aq_particles.specs.Pm10.QuarterDays.{IsTallyOf}
use Rattle.aq_particles.proofs.Pm10Lemmas.QuarterLemmas.{days, days-more, ends-quarter, few, quarter_is}
use Rattle.aq_particles.proofs.pm10.site_quarter.quarter.Goals as goal

pub with-so_far-requires-clause-scheduled : goal.with-so_far-requires-clause-scheduled
with-so_far-requires-clause-scheduled g c =
    let least = few (office_of c.args.registry.now c.args.shelf.now) c.args.site c.quarter_span-first.result.0 c.loop-count.count c.loop-count.so_far c.loop-count.invariant.tally in
    omega (arith, least.scheduled, c.loop-count-test.true, c.quarter_span-first.ensures.days_range)

pub with-so_far-requires-clause-captured : goal.with-so_far-requires-clause-captured
with-so_far-requires-clause-captured g c =
    let least = few (office_of c.args.registry.now c.args.shelf.now) c.args.site c.quarter_span-first.result.0 c.loop-count.count c.loop-count.so_far c.loop-count.invariant.tally in
    omega (arith, least.captured, c.loop-count-test.true, c.quarter_span-first.ensures.days_range)

pub with-so_far-requires-clause-exceedances : goal.with-so_far-requires-clause-exceedances
with-so_far-requires-clause-exceedances g c =
    let least = few (office_of c.args.registry.now c.args.shelf.now) c.args.site c.quarter_span-first.result.0 c.loop-count.count c.loop-count.so_far c.loop-count.invariant.tally in
    omega (arith, least.exceedances, c.loop-count-test.true, c.quarter_span-first.ensures.days_range)

pub loop-count-preserved : goal.loop-count-preserved
loop-count-preserved g c =
    let office = office_of c.args.registry.now c.args.shelf.now in
    let first = c.quarter_span-first.result.0 in
    let at : first + c.loop-count.count ≡ c.new-day.result = omega (arith, c.new-day.ensures, c.number-in-loop-count.ensures.value, c.from.ensures) in
    let day = c.day_of_quarter.ensures c.args.shelf.now c.site_day-cell.ensures.value in
    let number : c.day_of_quarter.result.number ≡ c.new-day.result = λ i. (day i).number in
    record {
      tally =
          subst (λ (days : List DayOfQuarter). IsTallyOf first days c.with-so_far.result)
          (days-more office c.args.site first c.loop-count.count c.new-day.result c.day_of_quarter.result at day)
          (c.with-so_far.ensures.of first (days office c.args.site first c.loop-count.count) c.loop-count.invariant.tally);
      facts = c.with-so_far.ensures.facts;
      samples = omega (arith, c.with-so_far.ensures.samples, c.loop-count.invariant.samples);
      begun = omega (arith, c.with-so_far.ensures.first, number, at);
    }

pub new-requires : goal.new-requires
new-requires g c =
    let office = office_of c.args.registry.now c.args.shelf.now in
    subst KeepsPm10Quarter
    (sym (quarter_is office c.args.site c.args.quarter c.quarter_span-first.result.0 c.quarter_span-first.result.1 c.loop-count.so_far c.totals-strata.result
    (ends-quarter office c.args.site c.args.quarter c.quarter_span-first.result.0 c.loop-count.count c.quarter_span-first.result.1 c.loop-count.so_far c.totals-strata.result
    c.quarter_span-first.ensures.first c.quarter_span-first.ensures.days (omega (arith, c.loop-count-test.false, c.loop-count.auto.count-end)) c.loop-count.invariant.tally c.totals-strata.ensures.of)))
    (c.pm10_quarters_keep_their_facts.ensures.quarter office c.args.site c.args.quarter)

pub returns : goal.returns
returns g c =
    let office = office_of c.args.registry.now c.args.shelf.now in
    c.new.ensures
    ∙ quarter_is office c.args.site c.args.quarter c.quarter_span-first.result.0 c.quarter_span-first.result.1 c.loop-count.so_far c.totals-strata.result
    (ends-quarter office c.args.site c.args.quarter c.quarter_span-first.result.0 c.loop-count.count c.quarter_span-first.result.1 c.loop-count.so_far c.totals-strata.result
    c.quarter_span-first.ensures.first c.quarter_span-first.ensures.days (omega (arith, c.loop-count-test.false, c.loop-count.auto.count-end)) c.loop-count.invariant.tally c.totals-strata.ensures.of)
