use Rattle.std.proofs.Common.{◌≡◌, ◌∙◌, ◌<◌, ◌≤◌, ◌⊎◌, ℕ, true, false, ap, sym, refl, arith, inl, inr}
use Rattle.std.specs.Prelude.{◌==◌}
use Rattle.std.proofs.lemmas.Bool.Decides.{nat_tests}
use Rattle.aq_base.specs.declared.day.TheConstants.{LAST_DAY}
use Rattle.aq_base.specs.declared.monitor.Pollutant.TheVariants.{Pm10}
use Rattle.aq_rules.specs.Office.Schedule.{is_scheduled}
use Rattle.aq_particle_cells.proofs.Pm10Lemmas.StratumSteps.{days-found, ends-in_profile}
use Rattle.aq_particle_cells.proofs.pm10.strata.stratum_end.Goals as goal

-- the end that the walk came to is the latest one
whole : {n end six closes : ℕ} → end ≡ n → (n ≡ six) ⊎ (n ≡ closes) → (end ≡ six) ⊎ (end ≡ closes)
whole is (inl longest) = inl (is ∙ longest)
whole is (inr last) = inr (is ∙ last)

pub loop-end-init : goal.loop-end-init
loop-end-init c = record {
  some = omega (arith, c.number-end.ensures.value);
  within = omega (arith, c.number-end.ensures.value, c.latest_end-most.ensures.some);
  none = λ d after before. absurd (omega (arith, c.number-end.ensures.value, after, before));
}

pub loop-end-preserved : goal.loop-end-preserved
loop-end-preserved c =
    let asked : ℕ → _ = is_scheduled c.args.registry.now c.args.site Pm10 in
    let off : asked c.loop-end.end ≡ false = ap asked (sym c.new.ensures) ∙ sym c.is_scheduled.ensures ∙ c.if-not-is_scheduled.true in
    record {
      some = omega (arith, c.loop-end.invariant.some);
      within = omega (arith, c.loop-end-test.true);
      none = λ d after before.
          elim (d == c.loop-end.end) as (λ b. (d == c.loop-end.end) ≡ b → asked d ≡ false) [
            | true ↦ λ last. let same : d ≡ c.loop-end.end = grind (arith, nat_tests, last) in ap asked same ∙ off
            | false ↦ λ more. let earlier : d < c.loop-end.end = grind (arith, nat_tests, more, before) in c.loop-end.invariant.none d after earlier
          ] refl;
    }

pub returns-else-not-is_scheduled-clause-days : goal.returns-else-not-is_scheduled-clause-days
returns-else-not-is_scheduled-clause-days c =
    let asked : ℕ → _ = is_scheduled c.args.registry.now c.args.site Pm10 in
    let end = c.loop-end.end in
    let most = c.latest_end-most in
    let inside = c.loop-end.invariant.within in
    let within : c.args.first ≤ LAST_DAY = omega (arith, c.number-end.ensures.value, c.number-end.ensures.range) in
    days-found c.args.registry.now c.args.site c.args.first within (ends-in_profile c.args.first within) c.requires end c.loop-end.invariant.some
    (omega (arith, inside, most.ensures.six)) (omega (arith, inside, most.ensures.within)) c.loop-end.invariant.none
    (inr (ap asked (sym c.new.ensures) ∙ sym c.is_scheduled.ensures ∙ c.if-not-is_scheduled.false))

pub returns-else-not-is_scheduled-clause-some : goal.returns-else-not-is_scheduled-clause-some
returns-else-not-is_scheduled-clause-some c = c.loop-end.invariant.some

pub returns-else-not-is_scheduled-clause-few : goal.returns-else-not-is_scheduled-clause-few
returns-else-not-is_scheduled-clause-few c = omega (arith, c.loop-end.invariant.within, c.latest_end-most.ensures.six)

pub returns-else-not-is_scheduled-clause-profile : goal.returns-else-not-is_scheduled-clause-profile
returns-else-not-is_scheduled-clause-profile c = omega (arith, c.loop-end.invariant.within, c.latest_end-most.ensures.profile)

pub returns-after-loop-end-clause-days : goal.returns-after-loop-end-clause-days
returns-after-loop-end-clause-days c =
    let end = c.loop-end.end in
    let most = c.latest_end-most in
    let inside = c.loop-end.invariant.within in
    let within : c.args.first ≤ LAST_DAY = omega (arith, c.number-end.ensures.value, c.number-end.ensures.range) in
    days-found c.args.registry.now c.args.site c.args.first within (ends-in_profile c.args.first within) c.requires end c.loop-end.invariant.some
    (omega (arith, inside, most.ensures.six)) (omega (arith, inside, most.ensures.within)) c.loop-end.invariant.none
    (inl (whole (omega (arith, inside, c.loop-end-test.false)) most.ensures.either))

pub returns-after-loop-end-clause-some : goal.returns-after-loop-end-clause-some
returns-after-loop-end-clause-some c = c.loop-end.invariant.some

pub returns-after-loop-end-clause-few : goal.returns-after-loop-end-clause-few
returns-after-loop-end-clause-few c = omega (arith, c.loop-end.invariant.within, c.latest_end-most.ensures.six)

pub returns-after-loop-end-clause-profile : goal.returns-after-loop-end-clause-profile
returns-after-loop-end-clause-profile c = omega (arith, c.loop-end.invariant.within, c.latest_end-most.ensures.profile)
