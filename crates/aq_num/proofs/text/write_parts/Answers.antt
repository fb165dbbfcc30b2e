use Rattle.std.proofs.Common.{◌≡◌, take, arith}
use Rattle.std.specs.Vec.{vec_len}
use Rattle.std.proofs.Math.Nat.{one-le-pow}
use Rattle.std.proofs.lemmas.Grind.{common_steps}
use Rattle.aq_num.proofs.Digits.{take-through}
use Rattle.aq_num.proofs.text.write_parts.Goals as goal
use Rattle.aq_num.proofs.text.write_parts.Goals.{then-value-lt0+in_ok-push, else-value-lt0}

pub nonzero_div-magnitude : goal.nonzero_div-magnitude
nonzero_div-magnitude c =
    grind (arith, c.pow.ensures, c.from.ensures, one-le-pow c.from.result 10)

pub returns-in_err-write_decimal-clause-front : goal.returns-in_err-write_decimal-clause-front
returns-in_err-write_decimal-clause-front c =
    let signed : take (vec_len c.args.out.now) c.if-value-lt0.out.items ≡ c.args.out.now.items =
    elim c.if-value-lt0.branch [
      | then-value-lt0+in_ok-push w ↦ grind (arith, common_steps)
      | else-value-lt0 w ↦ grind (arith, common_steps)
    ]
    in
    take-through _ _ c.write_decimal.new.out.items _ _ (omega arith) (omega arith) c.in_err-write_decimal.ensures.front signed

pub returns-in_err-write_last_digits-clause-front :
    goal.returns-in_err-write_last_digits-clause-front
returns-in_err-write_last_digits-clause-front c =
    let signed : take (vec_len c.args.out.now) c.if-value-lt0.out.items ≡ c.args.out.now.items =
    elim c.if-value-lt0.branch [
      | then-value-lt0+in_ok-push w ↦ grind (arith, common_steps)
      | else-value-lt0 w ↦ grind (arith, common_steps)
    ]
    in
    let whole : take (vec_len c.args.out.now) c.write_decimal.new.out.items ≡ c.args.out.now.items =
    take-through _ _ c.write_decimal.new.out.items _ _ (omega arith) (omega arith) c.in_ok-write_decimal.ensures.front signed
    in
    let pushed : take (vec_len c.write_decimal.new.out) c.push-then-places-gt0.new.self.items ≡ c.write_decimal.new.out.items = grind (arith, common_steps) in
    let point : take (vec_len c.args.out.now) c.push-then-places-gt0.new.self.items ≡ c.args.out.now.items =
    take-through _ _ c.push-then-places-gt0.new.self.items _ _ (omega arith) (omega arith) pushed whole
    in
    take-through _ _ c.write_last_digits.new.out.items _ _ (omega arith) (omega arith) c.in_err-write_last_digits.ensures.front point
