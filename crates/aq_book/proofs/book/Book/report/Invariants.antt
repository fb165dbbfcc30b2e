use Rattle.std.proofs.Common.{◌≡◌, ◌≤◌, ◌++◌, length, map}
use Rattle.aq_rules.specs.Shown.OtherSheets.{sites_with}
use Rattle.aq_rules.specs.Standards.{pollutant_of}
use Rattle.aq_book.specs.Questions.{valued, valued_in}
use Rattle.aq_book.proofs.RisingSites.{with_monitor}
use Rattle.aq_series.proofs.SiteWalk.{sites_above}
use Rattle.aq_book.proofs.book.Book.report.Given as goal

abbrev pub invariant-loop-site : goal.invariant-loop-site
invariant-loop-site g l = record {
  values :
      map valued_in l.values ++ map (valued l.standard l.self l.year) (with_monitor l.self (pollutant_of l.standard) (sites_above l.self.records l.after))
      ≡ map (valued l.standard l.self l.year) (sites_with l.self (pollutant_of l.standard));
  steps : l.steps ≤ l.fn.steps;
}

abbrev pub decreases-loop-site : goal.decreases-loop-site
decreases-loop-site g l = length (sites_above l.self.records l.after)
