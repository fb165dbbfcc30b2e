use Rattle.std.proofs.Common.{◌≡◌, ◌∙◌, ◌+◌, ◌-◌, ◌<◌, ◌≤◌, ℕ, Bool, length, ap, sym, arith}
use Rattle.std.specs.Prelude.{count_by, filter}
use Rattle.std.specs.List.{range_with_len}
use Rattle.std.proofs.lemmas.List.Sums.{length-filter}
use Rattle.aq_base.specs.Calendar.{quarter_first, days_in_quarter}
use Rattle.aq_rules.specs.Office.Schedule.{is_scheduled}
use Rattle.aq_rules.specs.Particles.QuarterCounts.{days_of_quarter}
use Rattle.aq_particle_cells.proofs.DaysLemmas.ScheduleSpans.{begun-schedule, counted-by, none-counted}
use Rattle.aq_particle_cells.proofs.days.schedule.scheduled_days.Goals as goal

quarter-counted : (test : ℕ → Bool) (first days quarter : ℕ) → first ≡ quarter_first quarter → days ≡ days_in_quarter quarter → count_by test (range_with_len first days) ≡ length (filter test (days_of_quarter quarter))
unfolding days_of_quarter
quarter-counted test first days quarter begins many = (λ i. count_by test (range_with_len (begins i) (many i))) ∙ sym (length-filter test (days_of_quarter quarter))

pub asked_days-count-requires-clause-order : goal.asked_days-count-requires-clause-order
asked_days-count-requires-clause-order c =
    let begun = begun-schedule c.args.site c.args.pollutant c.args.registry.now c.new.result c.in-Some.schedule (sym c.schedule_on.ensures ∙ c.in-Some.is) in
    omega (arith, begun, c.loop-end-test.true, c.new.ensures, c.from-in-loop-end.ensures, c.number.ensures.value, c.max-start.ensures)

pub loop-end-smaller : goal.loop-end-smaller
loop-end-smaller c =
    let begun = begun-schedule c.args.site c.args.pollutant c.args.registry.now c.new.result c.in-Some.schedule (sym c.schedule_on.ensures ∙ c.in-Some.is) in
    omega (arith, begun, c.loop-end-test.true, c.new.ensures, c.from-in-loop-end.ensures, c.number.ensures.value, c.max-start.ensures)

pub loop-end-preserved : goal.loop-end-preserved
loop-end-preserved c =
    let records = c.args.registry.now in
    let s = c.in-Some.schedule in
    let first = c.number-first.result in
    let start = c.max-start.result in
    let is = sym c.schedule_on.ensures ∙ c.in-Some.is in
    let begun = begun-schedule c.args.site c.args.pollutant records c.new.result s is in
    let some : first < c.loop-end.end = c.loop-end-test.true in
    let last : c.new.result + 1 ≡ c.loop-end.end = omega (arith, some, c.new.ensures) in
    let low : first ≤ start = omega (arith, c.max-start.ensures) in
    let started : s.from ≤ start = omega (arith, c.from-in-loop-end.ensures, c.number.ensures.value, c.max-start.ensures) in
    let high : start ≤ c.loop-end.end = omega (arith, begun, some, last, c.from-in-loop-end.ensures, c.number.ensures.value, c.max-start.ensures) in
    let parts = counted-by records c.args.site c.args.pollutant first c.loop-end.end c.new.result some last s start is low started high in
    record {
      low = low;
      high = omega (arith, high, c.loop-end.invariant.high);
      few = omega (arith, low, high, c.loop-end.invariant.few, c.asked_days-count.ensures.few);
      counted = omega (arith, parts, c.asked_days-count.ensures.asked, c.loop-end.invariant.counted);
    }

pub returns-in_default : goal.returns-in_default
returns-in_default c =
    let test : ℕ → Bool = is_scheduled c.args.registry.now c.args.site c.args.pollutant in
    let last : c.new.result + 1 ≡ c.loop-end.end = omega (arith, c.loop-end-test.true, c.new.ensures) in
    let nothing = none-counted c.args.registry.now c.args.site c.args.pollutant c.number-first.result c.loop-end.end c.new.result c.loop-end-test.true last (sym c.in_default.ensures) in
    let all : c.loop-end.count ≡ count_by test (range_with_len c.number-first.result c.quarter_span-from.result.1) = omega (arith, nothing, c.loop-end.invariant.counted) in
    all ∙ quarter-counted test c.number-first.result c.quarter_span-from.result.1 c.args.quarter (c.number-first.ensures.value ∙ c.quarter_span-from.ensures.first) c.quarter_span-from.ensures.days

pub returns : goal.returns
returns c =
    let test : ℕ → Bool = is_scheduled c.args.registry.now c.args.site c.args.pollutant in
    let done : c.loop-end.end - c.number-first.result ≡ 0 = omega (arith, c.loop-end-test.false) in
    let nothing : count_by test (range_with_len c.number-first.result (c.loop-end.end - c.number-first.result)) ≡ 0 = ap (λ n. count_by test (range_with_len c.number-first.result n)) done in
    let all : c.loop-end.count ≡ count_by test (range_with_len c.number-first.result c.quarter_span-from.result.1) = omega (arith, nothing, c.loop-end.invariant.counted) in
    all ∙ quarter-counted test c.number-first.result c.quarter_span-from.result.1 c.args.quarter (c.number-first.ensures.value ∙ c.quarter_span-from.ensures.first) c.quarter_span-from.ensures.days
