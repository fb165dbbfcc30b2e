use Rattle.std.proofs.Common.{◌+◌, ◌≤◌}
use Rattle.aq_series.specs.OfficeView.{office_of}
use Rattle.aq_particles.specs.Pm10.QuarterDays.{IsTallyOf}
use Rattle.aq_particles.specs.Pm10.StrataSoFar.{IsStrata, samples_in}
use Rattle.aq_particles.proofs.Pm10Lemmas.QuarterLemmas.{days}
use Rattle.aq_particles.proofs.pm10.site_quarter.quarter.Given as goal

abbrev pub invariant-loop-count : goal.invariant-loop-count
invariant-loop-count g l = record {
  tally : IsTallyOf l.first (days (office_of l.registry l.shelf) l.site l.first l.count) l.so_far;
  facts : IsStrata l.so_far.strata;
  samples : samples_in l.so_far.strata ≤ l.count;
  begun : l.so_far.strata.first ≤ l.first + l.count;
}
