use Rattle.std.proofs.Common.{sym, subst}
use Rattle.aq_rules.specs.Office.Office.{IsOffice}
use Rattle.aq_book.specs.View.{standing}
use Rattle.aq_cells.proofs.ReachedLemmas.{none-kept, none-kept-pm10, none-kept-pm25}
use Rattle.aq_book.proofs.book.Book.new.Goals as goal

pub invariant_of-result : goal.invariant_of-result
invariant_of-result c = record {
  office = subst IsOffice (λ i. standing (sym c.new.ensures i) (sym c.new-2.ensures i) (sym c.new-3.ensures i)) c.an_office_of_nothing_is_valid.ensures;
  ozone_kept = none-kept c.new.result c.new-2.result c.new.ensures c.new-2.ensures c.new-4.result c.new-4.ensures.hours c.new-4.ensures.averages c.new-4.ensures.days;
  pm25_kept = none-kept-pm25 c.new.result c.new-2.result c.new-2.ensures c.new-5.result c.new-5.ensures.cells c.new-5.ensures.samples;
  pm10_kept = none-kept-pm10 c.new.result c.new-2.result c.new-2.ensures c.new-6.result c.new-6.ensures.cells c.new-6.ensures.samples c.new-6.ensures.strata;
}
