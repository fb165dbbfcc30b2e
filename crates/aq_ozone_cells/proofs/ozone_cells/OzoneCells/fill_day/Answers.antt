use Rattle.std.proofs.Common.{◌&&◌, ◌/◌, ◌%◌, None, get_or, sym, subst}
use Rattle.std.specs.Prelude.{◌==◌, Option, IfSome}
use Rattle.aq_rules.specs.Office.Monitors.{is_same_site}
use Rattle.aq_rules.specs.Ozone.SiteHour.{Cell}
use Rattle.aq_series.specs.Samples.{IsOzone}
use Rattle.aq_ozone.proofs.DayLemmas.{ozone_at}
use Rattle.aq_ozone_cells.specs.FilledDays.{day_average}
use Rattle.aq_ozone_cells.specs.KeptDays.{average_at, hour_at}
use Rattle.aq_ozone_cells.specs.declared.kept_days.KeptAverage.{KeptAverage}
use Rattle.aq_ozone_cells.proofs.CellFacts.{either-average, either-cell, years-same}
use Rattle.aq_ozone_cells.proofs.FilledLemmas.{average-ozone}
use Rattle.aq_ozone_cells.proofs.ozone_cells.OzoneCells.fill_day.Goals as goal

pub invariant_of-self-2 : goal.invariant_of-self-2
invariant_of-self-2 c = record {
  hours = λ site hour.
      subst (λ (o : Option Cell). IfSome o (λ (cell : Cell). IsOzone cell.value)) (sym (c.in_ok-fill_day.ensures.hours site hour))
      (either-cell (is_same_site c.args.site site && (c.args.day == hour / 24)) (get_or c.args.hours.now (hour % 24) None) (hour_at c.self.inside.days.days.entries site hour)
      (ozone_at c.args.hours.now (hour % 24) c.requires.range) (c.self.invariant.hours site hour));
  averages = λ site start.
      subst (λ (a : KeptAverage). IfSome a.net IsOzone) (sym (c.in_ok-fill_day.ensures.averages site start))
      (either-average (is_same_site c.args.site site && (c.args.day == start / 24)) (day_average c.args.hours.now start) (average_at c.self.inside.days.days.entries site start)
      (average-ozone c.args.hours.now start c.requires.range) (c.self.invariant.averages site start));
  years = years-same c.self.inside.days.days.entries c.fill_day.new.days.days.entries c.self.inside.tallies c.in_ok-fill_day.ensures.held c.self.invariant.years;
}
