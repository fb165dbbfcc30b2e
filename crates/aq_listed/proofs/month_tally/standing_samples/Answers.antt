use Rattle.std.proofs.Common.{◌≡◌, ◌*◌, ◌∙◌, arith}
use Rattle.aq_shelf.specs.Standing.{observations_in}
use Rattle.aq_series.proofs.DaySteps.{few_within, span-within}
use Rattle.aq_series.proofs.Spans.{span-rises}
use Rattle.aq_listed.specs.DueSamples.{is_beside, is_due_with, is_null, is_valued, stands}
use Rattle.aq_listed.proofs.CountedOnce.{count_start}
use Rattle.aq_listed.proofs.month_tally.standing_samples.Goals as goal

pub loop-hour-init : goal.loop-hour-init
loop-hour-init g c =
    let records = c.args.registry.now in
    let monitor = c.args.monitor.now in
    let rows = c.args.shelf.now in
    let from = 24 * c.args.first in
    let hours = 24 * c.args.days in
    let start : c.hour_of.result ≡ from = omega (arith, c.hour_of.ensures) in
    let long : 24 * c.from-hours.result ≡ hours = omega (arith, c.from-hours.ensures) in
    let items : c.into_iter-hour-iterator.result ≡ observations_in monitor from hours rows =
    c.into_iter-hour-iterator.ensures.into_iter_gives
    ∙ c.span-hour-items.ensures.observations
    ∙ (λ i. observations_in monitor (start i) (long i) rows)
    in
    let few = few_within from hours (observations_in monitor from hours rows) (span-rises monitor from hours rows c.span-hour-items.ensures.shelf.rising) (span-within monitor from hours rows) in
    record {
      standing = count_start (is_due_with records monitor c.args.duration stands) c.into_iter-hour-iterator.result (observations_in monitor from hours rows) items;
      valued = count_start (is_due_with records monitor c.args.duration is_valued) c.into_iter-hour-iterator.result (observations_in monitor from hours rows) items;
      null = count_start (is_due_with records monitor c.args.duration is_null) c.into_iter-hour-iterator.result (observations_in monitor from hours rows) items;
      extra = count_start (is_beside records monitor c.args.duration) c.into_iter-hour-iterator.result (observations_in monitor from hours rows) items;
      few = omega (arith, few, c.requires.few);
    }
