use Rattle.std.proofs.Common.{ℕ, ◌-◌, ◌%◌, ◌+◌, ◌∙◌, sym, arith}
use Rattle.std.proofs.lemmas.List.{length-set, length-replicate}
use Rattle.aq_cal.proofs.Texts.{digits-none, digits-all, digit-placed}
use Rattle.aq_cal.proofs.text.last_digits.Goals as goal

pub loop-place-init : goal.loop-place-init
loop-place-init g c = record {
  long = length-replicate {A = ℕ} g.row.N 48;
  written = digits-none g.row.N c.args.number;
}

pub loop-place-preserved : goal.loop-place-preserved
loop-place-preserved g c = record {
  long = length-set c.loop-place.digits (c.loop-place.place - 1) (48 + c.loop-place.rest % 10) ∙ c.loop-place.invariant.long;
  written =
      c.loop-place.invariant.written
      ∙ digit-placed c.loop-place.digits c.loop-place.place c.loop-place.rest c.loop-place-test.true (omega (arith, c.loop-place.invariant.long));
}

pub returns : goal.returns
returns g c = sym (c.loop-place.invariant.written ∙ digits-all c.loop-place.digits c.loop-place.place c.loop-place.rest (omega arith))
