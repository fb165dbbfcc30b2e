use Rattle.std.proofs.Common.{◌≡◌, ◌+◌, ◌*◌, ◌≤◌, fold, drop, length}
use Rattle.std.specs.Prelude.{◌+ℤ◌, unsigned_abs}
use Rattle.aq_rules.specs.Lists.{total}
use Rattle.aq_rules.specs.Ozone.EightHour.{full_values, net_values}
use Rattle.aq_series.specs.Samples.{AreOzone}
use Rattle.aq_ozone.specs.DayHours.{cells_in}
use Rattle.aq_ozone.proofs.windows.window.Given as goal

abbrev pub invariant-loop-hour : goal.invariant-loop-hour
invariant-loop-hour l = record {
  few : l.full.hours ≤ l.hour-index;
  net_few : l.net.hours ≤ l.full.hours;
  ozone : AreOzone (drop l.hour-index l.hours);
  full_range : unsigned_abs l.full.sum ≤ 9999 * l.full.hours;
  net_range : unsigned_abs l.net.sum ≤ 9999 * l.net.hours;
  full_hours : l.full.hours + length (full_values (cells_in (drop l.hour-index l.hours))) ≡ length (full_values (cells_in l.hours));
  full_sum : fold (λ sum value. sum +ℤ value) l.full.sum (full_values (cells_in (drop l.hour-index l.hours))) ≡ total (full_values (cells_in l.hours));
  net_hours : l.net.hours + length (net_values (cells_in (drop l.hour-index l.hours))) ≡ length (net_values (cells_in l.hours));
  net_sum : fold (λ sum value. sum +ℤ value) l.net.sum (net_values (cells_in (drop l.hour-index l.hours))) ≡ total (net_values (cells_in l.hours));
}
