use Rattle.std.proofs.Common.{◌≡◌, ◌+◌, ◌*◌, List, subst, arith}
use Rattle.std.specs.List.{range_with_len}
use Rattle.aq_rules.specs.Ozone.SiteHour.{Cell}
use Rattle.aq_series.specs.DayCells.{cell_at, cells_in, hours_of, IsTallyOf}
use Rattle.aq_series.proofs.DayLists.{given_more}
use Rattle.aq_series.proofs.days.hours_of.Goals as goal

pub loop-count-preserved : goal.loop-count-preserved
loop-count-preserved g c =
    let first = 24 * c.from-first.result in
    let monitor = cell_at c.args.registry.now c.args.shelf.now c.args.monitor.now in
    record {
      tally =
          subst (λ (cells : List Cell). IsTallyOf cells c.with-tally.result)
          (given_more monitor first c.loop-count.count (first + c.loop-count.count) c.cell_at.result (omega arith) c.cell_at.ensures.value)
          (c.with-tally.ensures.tally (cells_in c.args.registry.now c.args.shelf.now c.args.monitor.now (range_with_len first c.loop-count.count)) c.loop-count.invariant.tally);
      few = omega (arith, c.with-tally.ensures.count, c.loop-count.invariant.few);
      values = c.with-tally.ensures.values;
      steps = omega (arith, c.cell_at.ensures.steps, c.loop-count.invariant.steps);
    }

pub returns-clause-tally : goal.returns-clause-tally
unfolding hours_of
returns-clause-tally g c =
    let all : c.loop-count.count ≡ 24 = omega (arith, c.loop-count-test.false, c.loop-count.auto.count-end) in
    let first : 24 * c.from-first.result ≡ 24 * c.args.day + 0 = omega (arith, c.from-first.ensures, c.number.ensures.value) in
    subst (λ (cells : List Cell). IsTallyOf cells c.loop-count.tally)
    (λ i. cells_in c.args.registry.now c.args.shelf.now c.args.monitor.now (range_with_len (first i) (all i)))
    c.loop-count.invariant.tally
