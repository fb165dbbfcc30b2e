use Rattle.std.proofs.Common.{◌≡◌, ◌+◌, ◌-◌, ◌≤◌, ◌++◌, map}
use Rattle.std.specs.List.{range_with_len}
use Rattle.aq_base.specs.declared.monitor.Pollutant.TheVariants.{Pm10}
use Rattle.aq_rules.specs.Office.Schedule.{is_scheduled}
use Rattle.aq_rules.specs.Particles.Strata.{first_days_among}
use Rattle.aq_reports.specs.Daily.DayRows.{pm10_row_among}
use Rattle.aq_reports.proofs.DailyLemmas.StrataPlaces.{StandsAt}
use Rattle.aq_reports.proofs.daily.pm10_sheet.add_days.Given as goal

abbrev pub invariant-loop-place : goal.invariant-loop-place
invariant-loop-place g l = record {
  few : l.begun.strata ≤ l.place;
  strata : StandsAt (is_scheduled (g.S.Years.office l.source).records l.site Pm10) (first_days_among (is_scheduled (g.S.Years.office l.source).records l.site Pm10) (range_with_len l.fn.first l.fn.days)) (l.fn.first + l.place) (l.fn.days - l.place) l.begun;
  so_far : l.rows ≡ l.fn.rows ++ map (pm10_row_among (g.S.Years.office l.source) l.site (range_with_len l.fn.first l.fn.days)) (range_with_len l.fn.first l.place);
}
