use Rattle.std.proofs.Common.{◌≡◌, ◌∷◌, arith}
use Rattle.std.proofs.lemmas.Grind.{common_steps}
use Rattle.aq_rules.proofs.RowTexts.{rest_write}
use Rattle.aq_rows.proofs.Written.{all_words}
use Rattle.aq_rows.proofs.texts.write_rest.Goals as goal

pub returns : goal.returns
returns c =
    let is : c.args.rules.now ≡ c.in-Some.first.now ∷ c.in-Some.rest.now = grind (arith, common_steps) in
    all_words rest_write c.args.rules.now c.in-Some.first.now c.in-Some.rest.now c.loop-counted.counted-index c.args.out.now.items c.write_pair.new.out.items c.loop-counted.out.items is
    (omega arith) (grind (arith, common_steps)) c.loop-counted.invariant
