use Rattle.std.proofs.Common.{◌≡◌, ◌∙◌, ◌≤◌, ◌++◌, Bool, true, false, ap, sym, rules, arith, of_z, to_z, w32}
use mir.Val.{bool_byte}
use Rattle.std.specs.Prelude.{ℤ, Option}
use Rattle.std.specs.Option.{option_to_list}
use Rattle.aq_agg.specs.StratumSums.{stratum_with}
use Rattle.aq_rules.specs.Particles.Pm10Estimate.{exceeds}
use Rattle.aq_particle_cells.proofs.Pm10Lemmas.StratumSteps.{sample-more, sample-none}
use Rattle.aq_particle_cells.proofs.pm10.strata.with_sample.Goals as goal

byte_few : (b : Bool) → bool_byte b ≤ 1
byte_few true = omega arith
byte_few false = omega arith

pub returns-in-Some-clause-counts : goal.returns-in-Some-clause-counts
returns-in-Some-clause-counts c values is =
    let round : to_z w32 (of_z w32 c.in-Some.value) ≡ c.in-Some.value = search rules in
    sample-more values c.in-Some.value c.args.counts.0 c.args.counts.1 c.from.result is (c.from.ensures ∙ ap bool_byte (c.exceeds.ensures ∙ ap exceeds round))
    ∙ ap (λ (o : Option ℤ). stratum_with (values ++ option_to_list o)) (sym c.in-Some.is)

pub returns-in-Some-clause-less : goal.returns-in-Some-clause-less
returns-in-Some-clause-less c = omega (arith, c.requires.less, c.from.ensures, byte_few c.exceeds.result)

pub returns-in-None-clause-counts : goal.returns-in-None-clause-counts
returns-in-None-clause-counts c values is =
    is ∙ ap stratum_with (sample-none values) ∙ ap (λ (o : Option ℤ). stratum_with (values ++ option_to_list o)) (sym c.in-None.is)
