use Rattle.std.proofs.Common.{◌≡◌, ◌<◌, ◌^◌, true, take}
use Rattle.std.specs.Str.Parse.{digits_value}
use Rattle.aq_base.specs.Decimal.{are_digits}
use Rattle.aq_rd.proofs.digits.any_number.Given as goal

abbrev pub invariant-loop-digit : goal.invariant-loop-digit
invariant-loop-digit l = record {
  value : l.number ≡ digits_value 10 (take l.digit-index l.text);
  small : l.number < 2 ^ 64;
  digits : are_digits (take l.digit-index l.text) ≡ true;
}
