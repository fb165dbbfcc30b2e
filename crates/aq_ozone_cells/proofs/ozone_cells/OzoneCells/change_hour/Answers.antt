use Rattle.std.proofs.Common.{◌&&◌, sym, subst}
use Rattle.std.specs.Prelude.{◌==◌, Option, IfSome}
use Rattle.aq_rules.specs.Office.Monitors.{is_same_site}
use Rattle.aq_rules.specs.Ozone.SiteHour.{Cell}
use Rattle.aq_series.specs.Samples.{IsOzone}
use Rattle.aq_ozone_cells.specs.KeptDays.{hour_at}
use Rattle.aq_ozone_cells.specs.declared.kept_days.KeptAverage.{KeptAverage}
use Rattle.aq_ozone_cells.proofs.CellFacts.{either-cell, years-same}
use Rattle.aq_ozone_cells.proofs.ozone_cells.OzoneCells.change_hour.Goals as goal

pub invariant_of-self-2 : goal.invariant_of-self-2
invariant_of-self-2 g c = record {
  hours = λ site hour.
      subst (λ (o : Option Cell). IfSome o (λ (cell : Cell). IsOzone cell.value)) (sym (c.in_ok-put_hour.ensures.hours site hour))
      (either-cell (is_same_site c.args.site site && (c.args.hour == hour)) c.args.new (hour_at c.self.inside.days.days.entries site hour) c.requires.range (c.self.invariant.hours site hour));
  averages = λ site start.
      subst (λ (a : KeptAverage). IfSome a.net IsOzone) (sym (c.in_ok-put_hour.ensures.averages site start)) (c.self.invariant.averages site start);
  years = years-same c.self.inside.days.days.entries c.put_hour.new.self.days.entries c.self.inside.tallies c.in_ok-put_hour.ensures.held c.self.invariant.years;
}
