use Rattle.std.proofs.Common.{◌≡◌, ℕ, ◌+◌, ◌<◌, ◌≤◌, length, get_or}
use Rattle.aq_base.specs.declared.monitor.Pollutant.TheVariants.{Pm25}
use Rattle.aq_series.specs.DayCells.{pocs_after}
use Rattle.aq_series.specs.DaySums.{IsNew}
use Rattle.aq_series.specs.OfficeView.{office_of}
use Rattle.aq_series.specs.declared.site_spans.DayState.{DayState}
use Rattle.aq_series.proofs.SiteSpans.{Stands}
use Rattle.aq_series.proofs.site_spans.site_days.Given as goal

abbrev pub invariant-loop-poc : goal.invariant-loop-poc
invariant-loop-poc g l = record {
  many : length l.states ≡ 92;
  stands : (k : ℕ) (d : DayState) → k < l.count → Stands (office_of l.registry l.shelf) l.site (l.first + k) l.after (get_or l.states k d);
  others : (k : ℕ) (d : DayState) → l.count ≤ k → k < 92 → IsNew (get_or l.states k d);
}

abbrev pub decreases-loop-poc : goal.decreases-loop-poc
decreases-loop-poc g l = length (pocs_after l.registry l.site Pm25 l.after)
