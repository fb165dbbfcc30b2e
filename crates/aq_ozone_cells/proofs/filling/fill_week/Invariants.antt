use Rattle.std.proofs.Common.{◌≡◌, ◌&&◌, ℕ, ◌+◌, ◌*◌, ◌<◌, ◌≤◌, false}
use Rattle.aq_base.specs.Site.{Site}
use Rattle.aq_rules.specs.Office.Monitors.{is_same_site}
use Rattle.aq_series.specs.OfficeView.{office_of}
use Rattle.aq_ozone_cells.specs.FilledDays.{IsDayOf, IsSameDay}
use Rattle.aq_ozone_cells.specs.OzoneCells.{is_among}
use Rattle.aq_ozone_cells.proofs.filling.fill_week.Given as goal

abbrev pub invariant-loop-i : goal.invariant-loop-i
invariant-loop-i g l = record {
  filled : (day : ℕ) → l.first ≤ day → day < l.first + l.i → IsDayOf (office_of l.registry l.shelf) l.cells l.site day;
  others : (other : Site) (day : ℕ) → (is_same_site l.site other && is_among l.first l.i day) ≡ false → IsSameDay l.fn.cells l.cells other day;
  steps : l.steps ≤ l.fn.steps + 1544 + 4 * l.i;
}
