use Rattle.std.proofs.Common.{◌≡◌, ◌||◌, suc, ◌+◌, ap, sym, ◌∙◌, arith, drop, map, [], length}
use Rattle.aq_words.specs.declared.parts.Part.TheVariants.{Standard}
use Rattle.aq_rules.specs.Questions.Asking.{is_misspelled}
use Rattle.aq_words.specs.Parts.{part_of}
use Rattle.aq_words.specs.Texts.{texts_of}
use Rattle.aq_words.proofs.Misspelled.{from_place, nothing_left}
use Rattle.aq_words.proofs.parts.is_misspelled.Goals as goal

pub returns-then-is_wrong : goal.returns-then-is_wrong
returns-then-is_wrong c =
    let place = c.loop-place.place in
    let parts = c.args.parts.now in
    let texts = c.args.texts.now in
    let here = from_place parts texts place Standard (record { ref_ptr = (0, 0); now = [] }) (omega (arith, c.min-place-end.ensures, c.loop-place-test.true)) (omega (arith, c.min-place-end.ensures, c.loop-place-test.true)) in
    sym (sym c.loop-place.invariant ∙ here
    ∙ ap (λ b. b || is_misspelled (drop (suc place) (map part_of parts)) (drop (suc place) (texts_of texts))) (sym c.is_wrong.ensures ∙ c.if-is_wrong.true))

pub loop-place-preserved : goal.loop-place-preserved
loop-place-preserved c =
    let place = c.loop-place.place in
    let parts = c.args.parts.now in
    let texts = c.args.texts.now in
    let here = from_place parts texts place Standard (record { ref_ptr = (0, 0); now = [] }) (omega (arith, c.min-place-end.ensures, c.loop-place-test.true)) (omega (arith, c.min-place-end.ensures, c.loop-place-test.true)) in
    let next : place + 1 ≡ suc place = omega arith in
    ap (λ n. is_misspelled (drop n (map part_of parts)) (drop n (texts_of texts))) next
    ∙ sym (sym c.loop-place.invariant ∙ here
    ∙ ap (λ b. b || is_misspelled (drop (suc place) (map part_of parts)) (drop (suc place) (texts_of texts))) (sym c.is_wrong.ensures ∙ c.if-is_wrong.false))

pub returns : goal.returns
returns c =
    sym (nothing_left c.args.parts.now c.args.texts.now c.loop-place.place (omega (arith, c.min-place-end.ensures, c.loop-place-test.false))) ∙ c.loop-place.invariant
