use Rattle.std.proofs.Common.{◌∙◌, ap, pos, ◌+ℤ◌, ℤ, FitsSigned, rules}
use Rattle.aq_base.specs.Decimal.{half_up}
use Rattle.std.specs.Int.{w32}
use Rattle.std.proofs.lemmas.Int.{to_z-of_z}
use Rattle.aq_verdict.proofs.Numbers.{zero-plus}
use Rattle.aq_verdict.proofs.daily_value.third_of.Goals as goal

pub returns : goal.returns
returns c =
    let a = to_z-of_z w32 c.args.a c.ranges.a in
    let b = to_z-of_z w32 c.args.b c.ranges.b in
    let d = to_z-of_z w32 c.args.c c.ranges.c in
    let fits : FitsSigned w32 c.rounded_three.result = search rules in
    to_z-of_z w32 c.rounded_three.result fits
    ∙ c.rounded_three.ensures ∙ (λ i. half_up (((pos 0 +ℤ a i) +ℤ b i) +ℤ d i) (pos 30))
    ∙ ap (λ (s : ℤ). half_up ((s +ℤ c.args.b) +ℤ c.args.c) (pos 30)) (zero-plus c.args.a)
