use Rattle.std.proofs.Common.{◌≡◌, ◌++◌, length}
use Rattle.aq_series.specs.DayCells.{pocs_after}
use Rattle.aq_book.proofs.ShownLemmas.{shown_above}
use Rattle.aq_book.proofs.export.of_monitors.Given as goal

abbrev pub invariant-loop-poc : goal.invariant-loop-poc
invariant-loop-poc g l = l.rows ++ shown_above l.registry l.site l.pollutant l.year l.after l.shelf ≡ shown_above l.registry l.site l.pollutant l.year 0 l.shelf

abbrev pub decreases-loop-poc : goal.decreases-loop-poc
decreases-loop-poc g l = length (pocs_after l.registry l.site l.pollutant l.after)
