use Rattle.std.proofs.Common.{◌≡◌, map}
use Rattle.std.specs.List.{range_with_len}
use Rattle.aq_rules.specs.Particles.ParticleDay.{net_day}
use Rattle.aq_reports.proofs.daily.highest.net_values.Given as goal

abbrev pub invariant-loop-place : goal.invariant-loop-place
invariant-loop-place g l = l.values ≡ map (net_day (g.S.Years.office l.source) l.site l.pollutant) (range_with_len l.first l.place)
