use Rattle.std.proofs.Common.{◌≡◌, ◌∙◌, ◌++◌, ◌^◌, ◌<◌, ap, arith, to_z, of_z, to_z-of_z, w64}
use Rattle.std.specs.Prelude.{unsigned_abs}
use Rattle.std.proofs.lemmas.Int.{ints}
use Rattle.aq_base.specs.Decimal.{fixed}
use Rattle.aq_rules.specs.Shown.WellFormed.{is_word}
use Rattle.aq_sheets.proofs.Words.{fixed-word}
use Rattle.aq_sheets.proofs.json_text.write_number.Goals as goal

pub write_text-requires : goal.write_text-requires
write_text-requires c =
    let few : unsigned_abs c.args.value < 2 ^ 64 = omega (arith, ints, c.ranges.value.sfits) in
    let same : to_z w64 (of_z w64 c.args.value) ≡ c.args.value = to_z-of_z c.ranges.value in
    ap is_word (c.as_slice.ensures.value ∙ c.in_ok-write_fixed.ensures.ok
    ∙ (λ i. c.clear.ensures.items i ++ fixed (same i) c.args.places))
    ∙ fixed-word c.args.value c.args.places few
