use Rattle.std.proofs.Common.{◌≡◌, ◌++◌, drop, map}
use Rattle.aq_rules.specs.Shown.OtherSheets.{report_answer}
use Rattle.aq_office.proofs.reports.each_report.Given as goal

abbrev pub invariant-loop-standard : goal.invariant-loop-standard
invariant-loop-standard g l =
    l.sheets ++ map (λ s. report_answer s l.book l.year) (drop l.standard-index l.standards) ≡ map (λ s. report_answer s l.book l.year) l.standards
