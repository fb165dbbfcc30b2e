use Rattle.std.proofs.Common.{◌≡◌, ◌∙◌, sym, take, arith}
use Rattle.std.proofs.lemmas.List.{take_all}
use Rattle.aq_rd.proofs.FieldSteps.{field-at, field-whole}
use Rattle.aq_rd.proofs.fields.first_field.Goals as goal

pub returns-then-byte-eq124 : goal.returns-then-byte-eq124
returns-then-byte-eq124 c =
    c.trim.ensures
    ∙ sym (field-at c.args.text.now c.loop-place.place c.loop-place-test.true c.loop-place.invariant c.if-byte-eq124.true)

pub returns : goal.returns
returns c =
    let whole : take c.loop-place.place c.args.text.now ≡ c.args.text.now = take_all c.loop-place.place c.args.text.now (omega arith) in
    c.trim-2.ensures ∙ sym (field-whole c.args.text.now (rw (sym whole) c.loop-place.invariant))
