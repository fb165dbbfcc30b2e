use Rattle.std.proofs.Common.{◌≡◌, ◌++◌, drop, flat_map}
use Rattle.aq_rules.specs.Shown.OtherSheets.{report_answer}
use Rattle.aq_rules.specs.Shown.Sheet.{text_of}
use Rattle.aq_simulation.proofs.reports.add_each.Given as goal

abbrev pub invariant-loop-standard : goal.invariant-loop-standard
invariant-loop-standard l =
    l.text.items ++ flat_map (λ s. text_of (report_answer s l.book l.year)) (drop l.standard-index l.standards) ≡ l.fn.text.items ++ flat_map (λ s. text_of (report_answer s l.book l.year)) l.standards
