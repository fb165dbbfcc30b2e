use Rattle.std.proofs.Common.{◌≡◌, true, take}
use Rattle.aq_base.specs.Decimal.{are_digits}
use Rattle.aq_http.proofs.length.is_number.Given as goal

abbrev pub invariant-loop-byte : goal.invariant-loop-byte
invariant-loop-byte l = are_digits (take l.byte-index l.text) ≡ true
