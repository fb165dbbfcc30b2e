use Rattle.std.proofs.Common.{◌+◌, ◌*◌, ◌≤◌, map}
use Rattle.std.specs.List.{range_with_len}
use Rattle.aq_ozone.specs.DaySpans.{days_read, WalksAt}
use Rattle.aq_ozone.specs.YearDays.{day_in, IsTallyOf}
use Rattle.aq_ozone.proofs.ozone_year.year_of.Given as goal

abbrev pub invariant-loop-count : goal.invariant-loop-count
invariant-loop-count g l = record {
  tally : IsTallyOf (map (day_in (g.S.OzoneSource.cell_at l.source) (g.S.OzoneSource.approves l.source) (record { first = l.season.0; last = l.season.1 })) (range_with_len l.first l.count)) l.so_far;
  at : WalksAt (g.S.OzoneSource.cell_at l.source) (l.first + l.count) l.walk;
  steps : l.steps + 193 * g.S.OzoneSource.sites * (l.first + 8) ≤ l.fn.steps + 1544 * g.S.OzoneSource.sites + 193 * g.S.OzoneSource.sites * days_read l.walk;
}
