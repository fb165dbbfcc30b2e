use Rattle.std.proofs.Common.{◌≡◌, ◌++◌}
use Rattle.aq_series.specs.OfficeView.{office_of}
use Rattle.aq_listed.proofs.MonthRows.{rows_before}
use Rattle.aq_listed.proofs.monitor_months.add_months.Given as goal

abbrev pub invariant-loop-month : goal.invariant-loop-month
invariant-loop-month g l = l.rows ≡ l.initial.rows ++ rows_before (office_of l.registry l.shelf) l.year l.monitor l.duration l.month
