use Rattle.std.proofs.Common.{◌+◌, ap, sym, ◌∙◌}
use Rattle.aq_particles.proofs.Pm25Lemmas.DayTallies.{rest-after}
use Rattle.aq_particles.proofs.pm25.quarter_days.is_scheduled_between.Goals as goal

pub loop-day-preserved : goal.loop-day-preserved
loop-day-preserved g c =
    let scheduled = (g.D.Pm25Schedule.site_days c.args.source.now).schedules in
    record {
      rest =
          rest-after scheduled c.loop-day.day (c.number-end.result + 1) c.loop-day-test.true (ap scheduled (sym c.new.ensures) ∙ sym c.is_scheduled.ensures ∙ c.if-is_scheduled.false)
          ∙ c.loop-day.invariant.rest;
    }
