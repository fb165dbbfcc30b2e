use Rattle.std.proofs.Common.{◌≡◌, drop}
use Rattle.aq_pages.specs.Numbers.{has_number}
use Rattle.aq_pages.proofs.numbers.has_number.Given as goal

abbrev pub invariant-loop-line : goal.invariant-loop-line
invariant-loop-line l = has_number l.place (drop l.line-index l.lines) ≡ has_number l.place l.lines
