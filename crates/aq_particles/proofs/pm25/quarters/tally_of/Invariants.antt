use Rattle.std.proofs.Common.{map}
use Rattle.std.specs.List.{range_with_len}
use Rattle.aq_particles.specs.Pm25.QuarterDays.{day_in, IsTallyOf}
use Rattle.aq_particles.specs.Pm25.QuarterValues.{IsSumInRange}
use Rattle.aq_particles.proofs.pm25.quarters.tally_of.Given as goal

abbrev pub invariant-loop-count : goal.invariant-loop-count
invariant-loop-count g l = record {
  tally : IsTallyOf l.fn.top (map (day_in (g.S.Pm25Schedule.site_days l.source) (g.S.Pm25Source.makeup_for l.source)) (range_with_len l.first l.count)) l.so_far;
  sum : IsSumInRange l.so_far.values;
}
