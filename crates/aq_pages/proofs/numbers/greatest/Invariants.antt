use Rattle.std.proofs.Common.{◌≡◌, ◌≤◌, drop}
use Rattle.aq_pages.specs.Numbers.{greatest}
use Rattle.aq_pages.proofs.numbers.greatest.Given as goal

abbrev pub invariant-loop-line : goal.invariant-loop-line
invariant-loop-line l = record {
  same : greatest l.place l.top (drop l.line-index l.lines) ≡ greatest l.place l.first l.lines;
  grown : l.first ≤ l.top;
  within : l.top ≤ 999999999;
}
