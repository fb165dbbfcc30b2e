use Rattle.std.proofs.Common.{◌≡◌, ◌+◌, ◌<◌, List, map, subst, ◌∙◌, arith}
use Rattle.std.specs.List.{range_with_len}
use Rattle.aq_rules.specs.Particles.QuarterCounts.{days_of_quarter}
use Rattle.aq_particles.specs.Pm25.QuarterDays.{day_in, IsTallyOf}
use Rattle.aq_particles.specs.declared.pm25.quarter_days.DayOfQuarter.{DayOfQuarter}
use Rattle.aq_particles.proofs.Pm25Lemmas.DayTallies.{days-more, few}
use Rattle.aq_particles.proofs.Pm25Lemmas.Facts.{quarter-is}
use Rattle.aq_particles.proofs.pm25.quarters.tally_of.Goals as goal

pub loop-count-init : goal.loop-count-init
loop-count-init g c = record { tally = c.new-so_far.ensures.tally; sum = c.new-so_far.ensures.sum }

pub with-so_far-requires-clause-room : goal.with-so_far-requires-clause-room
with-so_far-requires-clause-room g c =
    let least = few _ _ c.quarter_span-first.result.0 c.loop-count.count c.loop-count.so_far c.loop-count.invariant.tally in
    let room : c.loop-count.count < 92 = omega (arith, c.loop-count-test.true, c.quarter_span-first.ensures.days_range.1) in
    record {
      scheduled = omega (arith, least.scheduled, room);
      creditable = omega (arith, least.creditable, room);
      counted = omega (arith, least.counted, room);
      values = omega (arith, least.values, room);
    }

pub with-so_far-requires-clause-sum : goal.with-so_far-requires-clause-sum
with-so_far-requires-clause-sum g c = c.loop-count.invariant.sum

pub loop-count-preserved : goal.loop-count-preserved
loop-count-preserved g c =
    let day = day_in (g.S.Pm25Schedule.site_days c.args.source.now) (g.S.Pm25Source.makeup_for c.args.source.now) in
    let first = c.quarter_span-first.result.0 in
    let at : first + c.loop-count.count ≡ c.new-day.result = omega (arith, c.new-day.ensures, c.number.ensures.value, c.from.ensures) in
    record {
      tally =
          subst (λ (days : List DayOfQuarter). IsTallyOf c.args.top days c.with-so_far.result)
          (days-more day first c.loop-count.count c.new-day.result c.day_of_quarter.result at c.day_of_quarter.ensures.day)
          (c.with-so_far.ensures.tally c.args.top (map day (range_with_len first c.loop-count.count)) c.loop-count.invariant.tally);
      sum = c.with-so_far.ensures.sum;
    }

pub returns : goal.returns
unfolding days_of_quarter
returns g c =
    let site_days = g.S.Pm25Schedule.site_days c.args.source.now in
    let makeup_for = g.S.Pm25Source.makeup_for c.args.source.now in
    let all : c.loop-count.count ≡ c.quarter_span-first.result.1 = omega (arith, c.loop-count-test.false, c.loop-count.auto.count-end) in
    let tally =
    subst (λ (days : List DayOfQuarter). IsTallyOf c.args.top days c.loop-count.so_far)
    (λ i. map (day_in site_days makeup_for) (range_with_len (c.quarter_span-first.ensures.first i) ((all ∙ c.quarter_span-first.ensures.days) i)))
    c.loop-count.invariant.tally
    in
    quarter-is site_days makeup_for c.args.quarter c.args.top c.loop-count.so_far tally c.makeups_lie_apart.ensures
