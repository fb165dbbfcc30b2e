use Rattle.std.proofs.Common.{subst, take, ap, ◌∙◌, w32}
use Rattle.std.specs.Prelude.{ℤ, Option, IfSome}
use Rattle.std.proofs.lemmas.Int.{to_z-of_z}
use Rattle.aq_rules.specs.Lists.{greater, lesser, ranked_in}
use Rattle.aq_series.specs.DayCells.{IsParticle}
use Rattle.aq_particles.proofs.Pm25Lemmas.Values.{one-given, sum-fits, sum-held, sum-is, value-fits}
use Rattle.aq_particles.proofs.pm25.quarter_values.QuarterValues.with.Goals as goal

pub overflow_add-result-in-Some : goal.overflow_add-result-in-Some
overflow_add-result-in-Some c =
    let range : IsParticle c.in-Some.value = subst (λ (o : Option ℤ). IfSome o (λ (value : ℤ). IsParticle value)) c.in-Some.is c.requires.range in
    sum-fits c.args.self c.in-Some.value c.requires.room c.requires.sum range

pub returns-in-Some-clause-values : goal.returns-in-Some-clause-values
returns-in-Some-clause-values c before values are =
    let v = c.in-Some.value in
    let range : IsParticle v = subst (λ (o : Option ℤ). IfSome o (λ (value : ℤ). IsParticle value)) c.in-Some.is c.requires.range in
    let same = to_z-of_z w32 v (value-fits v range) in
    one-given c.args.self v c.requires.room c.requires.sum range before values c.args.value _ c.lesser.result c.greater.result c.with_value.result c.in-Some.is are
    (sum-is c.args.self v c.requires.room c.requires.sum range)
    (c.lesser.ensures ∙ ap (lesser c.args.self.least) same)
    (c.greater.ensures ∙ ap (greater c.args.self.greatest) same)
    (c.with_value.ensures ∙ ap (λ (z : ℤ). take 8 (ranked_in z c.args.self.top)) same)

pub returns-in-Some-clause-sum : goal.returns-in-Some-clause-sum
returns-in-Some-clause-sum c =
    let v = c.in-Some.value in
    let range : IsParticle v = subst (λ (o : Option ℤ). IfSome o (λ (value : ℤ). IsParticle value)) c.in-Some.is c.requires.range in
    sum-held c.args.self v c.requires.room c.requires.sum range _ _ _ _ (sum-is c.args.self v c.requires.room c.requires.sum range)
