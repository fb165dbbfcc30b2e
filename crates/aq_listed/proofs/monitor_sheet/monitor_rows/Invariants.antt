use Rattle.std.proofs.Common.{◌≡◌, ◌++◌, drop, map}
use Rattle.aq_rules.specs.Listed.Monitors.{monitor_cells}
use Rattle.aq_listed.proofs.monitor_sheet.monitor_rows.Given as goal

abbrev pub invariant-loop-monitor : goal.invariant-loop-monitor
invariant-loop-monitor l = l.rows ++ map monitor_cells (drop l.monitor-index l.monitors) ≡ map monitor_cells l.monitors
