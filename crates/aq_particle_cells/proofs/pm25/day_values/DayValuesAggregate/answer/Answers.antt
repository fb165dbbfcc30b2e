use Rattle.std.proofs.Common.{◌≡◌, ◌∙◌, ℕ, map, ap, sym, subst, FitsSigned, of_z, to_z, w64}
use Rattle.std.specs.Prelude.{ℤ, pos, neg_ℤ, ◌≤ℤ◌, Option, IfSome, length, option_map}
use Rattle.std.proofs.lemmas.Int.{to_z-of_z}
use Rattle.aq_agg.proofs.Sums.{sum-fits}
use Rattle.aq_rules.specs.Lists.{total}
use Rattle.aq_particle_cells.proofs.Pm25Lemmas.Negated.{greatest-low, least-negated}
use Rattle.aq_particle_cells.proofs.pm25.day_values.DayValuesAggregate.answer.Goals as goal

pub returns : goal.returns
returns c bag are =
    let two : c.answer-sum.result ≡ (total bag, length bag) = c.answer-sum.ensures bag are.sums in
    let fits : FitsSigned w64 (total bag) = subst (FitsSigned w64) are.sums.sum_is (sum-fits bag c.args.self.now.sums.sum c.args.self.now.sums.number are.sums) in
    let mirror = c.answer.ensures (map neg_ℤ bag) are.least_are in
    λ i. record {
      sum = (ap (λ (p : ℤ × ℕ). to_z w64 (of_z w64 p.0)) two ∙ to_z-of_z w64 (total bag) fits) i;
      number = ap (λ (p : ℤ × ℕ). p.1) two i;
      least =
          (c.mirrored-least.ensures (subst (λ (o : Option ℤ). IfSome o (λ (v : ℤ). neg_ℤ (pos 2147483647) ≤ℤ v)) (sym mirror) (greatest-low bag are.particles))
          ∙ ap (option_map neg_ℤ) mirror ∙ least-negated bag) i;
      greatest = c.answer-2.ensures bag are.greatest_are i;
    }
