use Rattle.std.proofs.Common.{◌≡◌, ◌≤◌, drop, false}
use Rattle.aq_num.proofs.Scan.{scan}
use Rattle.aq_num.proofs.decimal.read_magnitude.Given as goal

abbrev pub invariant-loop-byte : goal.invariant-loop-byte
invariant-loop-byte l = record {
  small : l.magnitude ≤ 1000000000;
  few : l.missing ≤ l.places;
  rest : scan l.magnitude l.missing l.is_behind l.has_digit (drop l.byte-index l.digits) ≡ scan 0 l.places false false l.digits;
}
