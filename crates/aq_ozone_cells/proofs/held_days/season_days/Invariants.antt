use Rattle.std.proofs.Common.{◌≡◌, ◌≤◌}
use Rattle.std.specs.Prelude.{count_by}
use Rattle.std.specs.List.{range_with_len}
use Rattle.aq_rules.specs.Office.Season.{is_in_season}
use Rattle.aq_ozone_cells.proofs.held_days.season_days.Given as goal

abbrev pub invariant-loop-i : goal.invariant-loop-i
invariant-loop-i l = record {
  few : l.count ≤ l.i;
  counted : l.count ≡ count_by (is_in_season (record { first = l.season.0; last = l.season.1 })) (range_with_len l.first l.i);
}
