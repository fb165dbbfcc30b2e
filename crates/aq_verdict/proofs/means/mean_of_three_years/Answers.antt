use Rattle.std.proofs.Common.{◌≡◌, ◌*◌, ◌∙◌, ap, sym, pos, length, true, rules, FitsSigned}
use Rattle.std.specs.Prelude.{Some}
use Rattle.std.specs.Int.{w32}
use Rattle.std.specs.List.{list_all}
use Rattle.std.proofs.lemmas.Int.{to_z-of_z}
use Rattle.aq_base.specs.Decimal.{half_up}
use Rattle.aq_rules.specs.Particles.Means.{Fraction, has_days}
use Rattle.aq_verdict.proofs.Sums.{same-sum}
use Rattle.aq_verdict.proofs.means.mean_of_three_years.Goals as goal

pub returns : goal.returns
returns c =
    let days : list_all has_days c.args.means.now ≡ true = sym c.have_days.ensures ∙ c.if-not-have_days.false in
    let twelve : length c.args.means.now ≡ 12 = c.told-means in
    let fits : FitsSigned w32 c.mean_of.result = search rules in
    let gives = c.mean_of.ensures ∙ ap (λ (s : Fraction). half_up s.0 (pos (12 * s.1))) (same-sum c.args.means.now) in
    rw (days, twelve) (ap Some (to_z-of_z w32 c.mean_of.result fits ∙ gives))
