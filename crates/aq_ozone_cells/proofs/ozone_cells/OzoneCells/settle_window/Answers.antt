use Rattle.std.proofs.Common.{◌≡◌, ◌∙◌, ◌&&◌, cond, rules, sym, subst}
use Rattle.std.specs.Prelude.{◌==◌, Option, IfSome}
use Rattle.aq_rules.specs.Office.Monitors.{is_same_site}
use Rattle.aq_rules.specs.Ozone.SiteHour.{Cell}
use Rattle.aq_series.specs.Samples.{IsOzone}
use Rattle.aq_ozone_cells.specs.KeptDays.{average_at, is_kept_start}
use Rattle.aq_ozone_cells.specs.OzoneCells.{average_of_hours, Cells}
use Rattle.aq_ozone_cells.specs.declared.kept_days.KeptAverage.{KeptAverage}
use Rattle.aq_ozone_cells.proofs.CellFacts.{either-average, years-same}
use Rattle.aq_ozone_cells.proofs.SiteNumbers.{same-there}
use Rattle.aq_ozone_cells.proofs.ozone_cells.OzoneCells.settle_window.Goals as goal

pub invariant_of-self-2 : goal.invariant_of-self-2
invariant_of-self-2 g c = record {
  hours = λ site hour.
      subst (λ (o : Option Cell). IfSome o (λ (cell : Cell). IsOzone cell.value)) (sym (c.in_ok-put_average.ensures.hours site hour)) (c.self.invariant.hours site hour);
  averages = λ site start.
      subst (λ (a : KeptAverage). IfSome a.net IsOzone) (sym (c.in_ok-put_average.ensures.averages site start))
      (either-average (is_same_site c.args.site site && (c.args.start == start)) c.average_of_hours-average.result (average_at c.self.inside.days.days.entries site start)
      c.average_of_hours-average.ensures.net (c.self.invariant.averages site start));
  years = years-same c.self.inside.days.days.entries c.put_average.new.self.days.entries c.self.inside.tallies c.in_ok-put_average.ensures.held c.self.invariant.years;
}

pub returns-then-eq-clause-averages : goal.returns-then-eq-clause-averages
returns-then-eq-clause-averages g c other number =
    let site = c.args.site in
    let start = c.args.start in
    let same : c.average.result ≡ c.average_of_hours-average.result = search rules in
    subst (λ (cells : Cells). average_at cells other number ≡ cond (is_same_site site other && (start == number) && is_kept_start start) (average_of_hours cells site start) (average_at cells other number)) c.self.view_is
    (same-there (average_at c.self.inside.days.days.entries) site other start number (is_kept_start start) (average_of_hours c.self.inside.days.days.entries site start)
    (sym c.average.ensures ∙ same ∙ c.average_of_hours-average.ensures.average))
