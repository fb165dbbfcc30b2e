use Rattle.std.proofs.Common.{◌≡◌, ◌≤◌}
use Rattle.std.specs.Prelude.{filter_map}
use Rattle.std.specs.List.{range_with_len}
use Rattle.aq_agg.specs.StratumSums.{stratum_with}
use Rattle.aq_particle_cells.specs.Pm10.Pm10Cells.{net_at}
use Rattle.aq_particle_cells.proofs.pm10.strata.counts_of.Given as goal

abbrev pub invariant-loop-i : goal.invariant-loop-i
invariant-loop-i l = record {
  counts : l.counts ≡ stratum_with (filter_map (net_at l.days.days.entries l.site) (range_with_len l.first l.i));
  few : l.counts.1 ≤ l.i;
  less : l.counts.0 ≤ l.counts.1;
}
