use Rattle.std.proofs.Common.{◌≡◌, ◌++◌}
use Rattle.aq_rules.specs.Listed.ObservationLines.{lines_answer}
use Rattle.aq_series.specs.OfficeView.{office_of}
use Rattle.aq_listed.proofs.LinesLeft.{left}
use Rattle.aq_listed.proofs.observation_lines.lines.Given as goal

abbrev pub invariant-loop-key : goal.invariant-loop-key
invariant-loop-key g l =
    l.text.items ++ left (office_of l.registry l.shelf) l.site l.pollutant l.year l.key-iterator
    ≡ lines_answer (office_of l.registry l.shelf) l.site l.pollutant l.year
