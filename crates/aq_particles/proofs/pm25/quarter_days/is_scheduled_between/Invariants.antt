use Rattle.std.proofs.Common.{◌≡◌, ◌-◌}
use Rattle.std.specs.List.{list_any, range_with_len}
use Rattle.aq_particles.proofs.pm25.quarter_days.is_scheduled_between.Given as goal

abbrev pub invariant-loop-day : goal.invariant-loop-day
invariant-loop-day g l = record {
  rest : list_any (g.D.Pm25Schedule.site_days l.source).schedules (range_with_len l.day (l.end - l.day)) ≡ list_any (g.D.Pm25Schedule.site_days l.source).schedules (range_with_len l.first (l.end - l.first));
}
