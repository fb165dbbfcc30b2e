use Rattle.std.proofs.Common.{◌≡◌, ◌++◌, drop, length}
use Rattle.aq_base.specs.Decimal.{last_digits}
use Rattle.aq_cal.proofs.text.last_digits.Given as goal

abbrev pub invariant-loop-place : goal.invariant-loop-place
invariant-loop-place g l = record {
  long : length l.digits ≡ g.row.N;
  written : last_digits g.row.N l.fn.number ≡ last_digits l.place l.rest ++ drop l.place l.digits;
}
