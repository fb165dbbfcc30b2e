use Rattle.std.proofs.Common.{◌≡◌, ◌+◌, ◌*◌, ◌≤◌, length}
use Rattle.std.specs.Prelude.{count_by}
use Rattle.aq_shelf.specs.Standing.{observations_in}
use Rattle.aq_listed.specs.DueSamples.{is_beside, is_due_with, is_null, is_valued, stands}
use Rattle.aq_listed.proofs.month_tally.standing_samples.Given as goal

abbrev pub invariant-loop-hour : goal.invariant-loop-hour
invariant-loop-hour g l = record {
  standing : l.tally.standing + count_by (is_due_with l.registry l.monitor l.duration stands) l.hour-iterator ≡ count_by (is_due_with l.registry l.monitor l.duration stands) (observations_in l.monitor (24 * l.fn.first) (24 * l.fn.days) l.shelf);
  valued : l.tally.valued + count_by (is_due_with l.registry l.monitor l.duration is_valued) l.hour-iterator ≡ count_by (is_due_with l.registry l.monitor l.duration is_valued) (observations_in l.monitor (24 * l.fn.first) (24 * l.fn.days) l.shelf);
  null : l.tally.null + count_by (is_due_with l.registry l.monitor l.duration is_null) l.hour-iterator ≡ count_by (is_due_with l.registry l.monitor l.duration is_null) (observations_in l.monitor (24 * l.fn.first) (24 * l.fn.days) l.shelf);
  extra : l.tally.extra + count_by (is_beside l.registry l.monitor l.duration) l.hour-iterator ≡ count_by (is_beside l.registry l.monitor l.duration) (observations_in l.monitor (24 * l.fn.first) (24 * l.fn.days) l.shelf);
  few : length (observations_in l.monitor (24 * l.fn.first) (24 * l.fn.days) l.shelf) ≤ 744;
}
