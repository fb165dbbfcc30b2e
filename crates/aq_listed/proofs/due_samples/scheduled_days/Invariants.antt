use Rattle.std.proofs.Common.{◌≡◌, ◌≤◌}
use Rattle.std.specs.Prelude.{count_by}
use Rattle.std.specs.List.{range_with_len}
use Rattle.aq_rules.specs.Office.Schedule.{is_scheduled}
use Rattle.aq_listed.proofs.due_samples.scheduled_days.Given as goal

abbrev pub invariant-loop-place : goal.invariant-loop-place
invariant-loop-place l = record {
  counted : l.count ≡ count_by (is_scheduled l.registry l.monitor.site l.monitor.pollutant) (range_with_len l.fn.first l.place);
  few : l.count ≤ l.place;
}
