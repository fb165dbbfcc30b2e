use Rattle.std.proofs.Common.{◌≡◌, ◌*◌, ◌∙◌, ap, sym, pos, length, true, rules, FitsSigned}
use Rattle.std.specs.Int.{w32}
use Rattle.std.proofs.lemmas.Int.{to_z-of_z}
use Rattle.std.specs.Prelude.{Some}
use Rattle.std.specs.List.{list_all}
use Rattle.aq_base.specs.Decimal.{half_up}
use Rattle.aq_num.specs.Fractions.{sum_of_fractions}
use Rattle.aq_rules.specs.Particles.Means.{Fraction, has_days, sum_of_fractions as sum_of_means}
use Rattle.aq_verdict.proofs.Sums.{same-sum-more, each-more, days-more}
use Rattle.aq_verdict.proofs.means.mean_of_year.Goals as goal

pub mean_of-requires-clause-days : goal.mean_of-requires-clause-days
mean_of-requires-clause-days c =
    ap (list_all has_days) c.padded.ensures ∙ days-more c.args.means.now (sym c.have_days.ensures ∙ c.if-not-have_days.false)

pub mean_of-requires-clause-each : goal.mean_of-requires-clause-each
mean_of-requires-clause-each c = rw c.padded.ensures (each-more c.args.means.now c.requires)

pub returns : goal.returns
returns c =
    let days : list_all has_days c.args.means.now ≡ true = sym c.have_days.ensures ∙ c.if-not-have_days.false in
    let four : length c.args.means.now ≡ 4 = c.told-means in
    let sum : sum_of_fractions c.padded.result ≡ sum_of_means c.args.means.now = ap sum_of_fractions c.padded.ensures ∙ same-sum-more c.args.means.now in
    let gives = c.mean_of.ensures ∙ ap (λ (s : Fraction). half_up s.0 (pos (4 * s.1))) sum in
    let fits : FitsSigned w32 c.mean_of.result = search rules in
    rw (days, four) (ap Some (to_z-of_z w32 c.mean_of.result fits ∙ gives))
