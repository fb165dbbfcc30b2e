use Rattle.std.proofs.Common.{◌≡◌, ◌+◌, ◌-◌, ◌≤◌}
use Rattle.std.specs.Prelude.{count_by}
use Rattle.std.specs.List.{range_with_len}
use Rattle.aq_rules.specs.Office.Schedule.{is_scheduled}
use Rattle.aq_particle_cells.proofs.days.schedule.scheduled_days.Given as goal

abbrev pub invariant-loop-end : goal.invariant-loop-end
invariant-loop-end l = record {
  low : l.first ≤ l.end;
  high : l.end ≤ l.first + l.days;
  few : l.count + (l.end - l.first) ≤ l.days;
  counted : l.count + count_by (is_scheduled l.registry l.site l.pollutant) (range_with_len l.first (l.end - l.first)) ≡ count_by (is_scheduled l.registry l.site l.pollutant) (range_with_len l.first l.days);
}

abbrev pub decreases-loop-end : goal.decreases-loop-end
decreases-loop-end l = l.end - l.first
