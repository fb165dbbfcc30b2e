use Rattle.std.proofs.Common.{◌≡◌, fold, ◌+◌, ◌≤◌, drop, length}
use Rattle.aq_rules.specs.Lists as lists
use Rattle.aq_rules.specs.Ozone.OzoneDay.{full_averages, net_averages}
use Rattle.aq_ozone.proofs.ozone_day.day_of_windows.Given as goal

abbrev pub invariant-loop-row : goal.invariant-loop-row
invariant-loop-row l = record {
  few : l.averages ≤ l.row-index;
  count : l.averages + length (full_averages (drop l.row-index l.windows)) ≡ length (full_averages l.windows);
  greatest : fold lists.greater l.greatest (full_averages (drop l.row-index l.windows)) ≡ lists.greatest (full_averages l.windows);
  maximum : fold lists.greater l.maximum (net_averages (drop l.row-index l.windows)) ≡ lists.greatest (net_averages l.windows);
}
