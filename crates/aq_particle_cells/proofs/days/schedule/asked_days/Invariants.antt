use Rattle.std.proofs.Common.{◌≡◌, ◌-◌, ◌≤◌}
use Rattle.std.specs.Prelude.{count_by}
use Rattle.std.specs.List.{range_with_len}
use Rattle.aq_rules.specs.Office.Schedule.{asks_for}
use Rattle.aq_particle_cells.proofs.days.schedule.asked_days.Given as goal

abbrev pub invariant-loop-number : goal.invariant-loop-number
invariant-loop-number l = record {
  few : l.count ≤ l.number - l.first;
  counted : l.count ≡ count_by (λ day. asks_for day l.schedule) (range_with_len l.first (l.number - l.first));
}
