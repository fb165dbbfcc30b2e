use Rattle.std.proofs.Common.{◌≡◌}
use Rattle.aq_rules.specs.Lines.Spellings.{qualifier_in}
use Rattle.aq_rows.specs.Ranges.{gathered}
use Rattle.aq_rows.specs.Observed.{are_quals, quals_in}
use Rattle.aq_rows.proofs.observations.quals_in.Given as goal

abbrev pub invariant-loop-word : goal.invariant-loop-word
invariant-loop-word l = gathered qualifier_in are_quals l.quals l.word-iterator ≡ quals_in l.text
