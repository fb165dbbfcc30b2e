use Rattle.std.proofs.Common.{◌≡◌, ◌+◌, ◌*◌, ◌≤◌}
use Rattle.aq_base.specs.Calendar.{year_first}
use Rattle.aq_series.specs.OfficeView.{office_of}
use Rattle.aq_ozone.specs.DaySpans.{days_read, IsAt}
use Rattle.aq_book.proofs.OzoneLemmas.{first_days}
use Rattle.aq_book.proofs.ozone.days_of_year.Given as goal

abbrev pub invariant-loop-i : goal.invariant-loop-i
invariant-loop-i g l = record {
  days : l.days ≡ first_days (office_of l.registry l.shelf) l.site (year_first l.year) l._i;
  at : IsAt (office_of l.registry l.shelf) l.site (year_first l.year + l._i) l.walk;
  steps : l.steps + 193 * (year_first l.year + 8) ≤ l.fn.steps + 1544 + 193 * days_read l.walk;
}
