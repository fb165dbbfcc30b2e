use Rattle.std.proofs.Common.{◌≡◌, ℕ, ◌+◌, ◌≤◌, List, map, ap, sym, subst, ◌∙◌, arith}
use Rattle.std.specs.Prelude.{ℤ, Option}
use Rattle.std.specs.List.{range_with_len}
use Rattle.std.proofs.Math.Nat.{mul-le-mul_left}
use Rattle.aq_rules.specs.Kept.Summaries.{KeepsOzoneYear}
use Rattle.aq_rules.specs.Office.Season.{Season}
use Rattle.aq_rules.specs.Ozone.EightHour.{window_by}
use Rattle.aq_rules.specs.Ozone.OzoneDay.{windows_by}
use Rattle.aq_ozone.specs.declared.ozone_year.DayOfYear.{DayOfYear}
use Rattle.aq_ozone.specs.DaySpans.{days_read, WalksAt}
use Rattle.aq_ozone.specs.YearDays.{day_in, IsTallyOf}
use Rattle.aq_ozone.proofs.YearLemmas.{days_more, few, year_is, year_keeps}
use Rattle.aq_ozone.proofs.ozone_year.year_of.Goals as goal

pub with-so_far-requires-clause-season_days : goal.with-so_far-requires-clause-season_days
with-so_far-requires-clause-season_days g c =
    let least = few _ c.year_span-first.result.0 c.loop-count.count c.loop-count.so_far c.loop-count.invariant.tally in
    omega (arith, least.season_days, c.loop-count-test.true, c.year_span-first.ensures.days_range.1)

pub with-so_far-requires-clause-season_valid : goal.with-so_far-requires-clause-season_valid
with-so_far-requires-clause-season_valid g c =
    let least = few _ c.year_span-first.result.0 c.loop-count.count c.loop-count.so_far c.loop-count.invariant.tally in
    omega (arith, least.season_valid, c.loop-count-test.true, c.year_span-first.ensures.days_range.1)

pub with-so_far-requires-clause-ranked : goal.with-so_far-requires-clause-ranked
with-so_far-requires-clause-ranked g c =
    let least = few _ c.year_span-first.result.0 c.loop-count.count c.loop-count.so_far c.loop-count.invariant.tally in
    omega (arith, least.ranked, c.loop-count-test.true, c.year_span-first.ensures.days_range.1)

pub loop-count-preserved : goal.loop-count-preserved
loop-count-preserved g c =
    let cell_at = g.S.OzoneSource.cell_at c.args.source.now in
    let season : Season = record { first = c.season-season.result.0; last = c.season-season.result.1 } in
    let day = day_in cell_at (g.S.OzoneSource.approves c.args.source.now) season in
    let at : c.year_span-first.result.0 + c.loop-count.count ≡ c.new-day.result = omega (arith, c.new-day.ensures, c.number.ensures.value) in
    let here = c.loop-count.invariant.at.day_is ∙ at in
    let after : c.loop-count.walk.day + 1 ≡ c.year_span-first.result.0 + (c.loop-count.count + 1) = omega (arith, here, at) in
    let windows = c.next_of-windows.ensures.windows ∙ ap (windows_by (window_by cell_at)) here in
    record {
      tally =
          subst (λ (days : List DayOfYear). IsTallyOf days c.with-so_far.result)
          (days_more day c.year_span-first.result.0 c.loop-count.count c.new-day.result c.day_of_year.result at (c.day_of_year.ensures.day windows))
          (c.with-so_far.ensures (map day (range_with_len c.year_span-first.result.0 c.loop-count.count)) c.loop-count.invariant.tally);
      at = subst (λ (n : ℕ). WalksAt cell_at n c.next_of-windows.new.self) after c.next_of-windows.ensures.at;
      steps = omega (arith, c.loop-count.invariant.steps, c.next_of-windows.ensures.steps);
    }

pub new-requires : goal.new-requires
new-requires g c =
    let all : c.loop-count.count ≡ c.year_span-first.result.1 = omega (arith, c.loop-count-test.false, c.loop-count.auto.count-end) in
    let season : Season = record { first = c.season-season.result.0; last = c.season-season.result.1 } in
    let most : c.loop-count.count ≤ 366 = omega (arith, all, c.year_span-first.ensures.days_range.1) in
    subst (λ (fourth : Option ℤ). KeepsOzoneYear (record { season_days = c.loop-count.so_far.season_days; season_valid = c.loop-count.so_far.season_valid; ranked = c.loop-count.so_far.ranked; fourth = fourth })) (sym c.fourth.ensures)
    (year_keeps (g.S.OzoneSource.cell_at c.args.source.now) (g.S.OzoneSource.approves c.args.source.now) (g.S.OzoneSource.season_of c.args.source.now c.args.year) c.args.year c.year_span-first.result.0 c.loop-count.count season c.loop-count.so_far
    (record {
      first_day = c.year_span-first.ensures.first;
      all_days = all ∙ c.year_span-first.ensures.days;
      season_is = λ i. record { first = (c.season-season.ensures.season i).0; last = (c.season-season.ensures.season i).1 };
      tally_is = c.loop-count.invariant.tally;
    }) most c.season-season.ensures.some)

pub returns-clause-year : goal.returns-clause-year
returns-clause-year g c =
    let all : c.loop-count.count ≡ c.year_span-first.result.1 = omega (arith, c.loop-count-test.false, c.loop-count.auto.count-end) in
    let season : Season = record { first = c.season-season.result.0; last = c.season-season.result.1 } in
    c.new.ensures
    ∙ (λ i. record { season_days = c.loop-count.so_far.season_days; season_valid = c.loop-count.so_far.season_valid; ranked = c.loop-count.so_far.ranked; fourth = c.fourth.ensures i })
    ∙ year_is (g.S.OzoneSource.cell_at c.args.source.now) (g.S.OzoneSource.approves c.args.source.now) (g.S.OzoneSource.season_of c.args.source.now c.args.year) c.args.year c.year_span-first.result.0 c.loop-count.count season c.loop-count.so_far
    (record {
      first_day = c.year_span-first.ensures.first;
      all_days = all ∙ c.year_span-first.ensures.days;
      season_is = λ i. record { first = (c.season-season.ensures.season i).0; last = (c.season-season.ensures.season i).1 };
      tally_is = c.loop-count.invariant.tally;
    })

pub returns-clause-steps : goal.returns-clause-steps
returns-clause-steps g c =
    let sites = g.S.OzoneSource.sites in
    let reached = c.loop-count.invariant.at.reaches.low in
    let read : days_read c.loop-count.walk ≤ c.year_span-first.result.0 + c.loop-count.count + 8 = omega (arith, reached) in
    let most : c.loop-count.count ≤ 366 = omega (arith, c.loop-count-test.false, c.loop-count.auto.count-end, c.year_span-first.ensures.days_range.1) in
    let bound : days_read c.loop-count.walk ≤ c.year_span-first.result.0 + 374 = omega (arith, read, most) in
    omega (arith, c.loop-count.invariant.steps, mul-le-mul_left sites bound)
