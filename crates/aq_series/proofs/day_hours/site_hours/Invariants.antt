use Rattle.std.proofs.Common.{◌≡◌, ℕ, ◌+◌, ◌*◌, ◌/◌, ◌<◌, ◌≤◌, length, get_or}
use Rattle.aq_series.specs.DayStates.{primary_in}
use Rattle.aq_series.specs.Samples.{pocs_above}
use Rattle.aq_series.specs.declared.day_hours.HourState.{HourState}
use Rattle.aq_series.proofs.DayStages.{Stands}
use Rattle.aq_series.proofs.day_hours.site_hours.Given as goal

abbrev pub invariant-loop-poc : goal.invariant-loop-poc
invariant-loop-poc g l = record {
  many : length l.hours ≡ 192;
  stands : (k : ℕ) (d : HourState) → k < 192 → Stands l.registry l.shelf l.site (primary_in l.registry l.site (l.day + k / 24)) (24 * l.day + k) l.after (get_or l.hours k d);
  steps : l.steps + 193 * length (pocs_above l.registry l.site l.after) ≤ l.initial.steps + 193 * length (pocs_above l.registry l.site 0);
}

abbrev pub decreases-loop-poc : goal.decreases-loop-poc
decreases-loop-poc g l = length (pocs_above l.registry l.site l.after)
