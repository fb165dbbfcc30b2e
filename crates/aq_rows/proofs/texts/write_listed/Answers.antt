use Rattle.std.proofs.Common.{◌≡◌, ◌∷◌, arith}
use Rattle.std.proofs.lemmas.Grind.{common_steps}
use Rattle.aq_rules.proofs.RowTexts.{listed_write}
use Rattle.aq_rows.proofs.Written.{all_words}
use Rattle.aq_rows.proofs.texts.write_listed.Goals as goal

pub returns : goal.returns
returns c =
    let is : c.args.listed.now ≡ c.in-Some.first.now ∷ c.in-Some.rest.now = grind (arith, common_steps) in
    all_words listed_write c.args.listed.now c.in-Some.first.now c.in-Some.rest.now c.loop-listed.listed-index c.args.out.now.items c.write_pair.new.out.items c.loop-listed.out.items is
    (omega arith) (grind (arith, common_steps)) c.loop-listed.invariant
