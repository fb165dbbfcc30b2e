use Rattle.std.proofs.Common.{◌≡◌, ◌∷◌, arith}
use Rattle.std.proofs.lemmas.Grind.{common_steps}
use Rattle.aq_rules.specs.Lines.Canonical.{code_text}
use Rattle.aq_rows.proofs.Written.{all_words}
use Rattle.aq_rows.proofs.texts.write_codes.Goals as goal

pub returns : goal.returns
returns c =
    let is : c.args.codes.now ≡ c.in-Some.first.now ∷ c.in-Some.rest.now = grind (arith, common_steps) in
    all_words code_text c.args.codes.now c.in-Some.first.now c.in-Some.rest.now c.loop-code.code-index c.args.out.now.items c.write_code.new.out.items c.loop-code.out.items is
    (omega arith) (grind (arith, common_steps)) c.loop-code.invariant
