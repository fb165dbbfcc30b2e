use Rattle.std.proofs.Common.{◌+◌, length, refl, arith}
use Rattle.std.proofs.lemmas.Grind.{common_steps}
use Rattle.std.proofs.lemmas.List.{take_rest}
use Rattle.std.proofs.lemmas.List.Sums.{position_or_len_is}
use Rattle.aq_rows.specs.Texts.{is_byte}
use Rattle.aq_rows.proofs.texts.cut_at.Goals as goal

pub returns-then-text-place : goal.returns-then-text-place
returns-then-text-place c =
    let text = c.args.text.now in
    let at = position_or_len_is (is_byte c.args.byte) text c.loop-place.place 0 (omega arith) c.loop-place.invariant (λ within. grind (arith, common_steps)) in
    rw at (omega arith, refl, take_rest text (c.loop-place.place + 1))

pub returns : goal.returns
returns c =
    let text = c.args.text.now in
    position_or_len_is (is_byte c.args.byte) text (length text) 0 (omega arith) (λ k h. c.loop-place.invariant k (omega arith)) (λ within. absurd (omega arith))
