use Rattle.std.proofs.Common.{◌≡◌, ◌∙◌, ◌+◌, ◌-◌, ◌*◌, ◌/◌, ◌<◌, ◌≤◌, ℕ, true, false, ap, sym, refl, arith, inl, inr}
use Rattle.std.specs.Prelude.{◌==◌, Some}
use Rattle.std.proofs.lemmas.Bool.Decides.{nat_tests}
use Rattle.aq_base.specs.Calendar.{quarter_first, quarter_of}
use Rattle.aq_base.specs.declared.day.TheConstants.{LAST_DAY}
use Rattle.aq_base.specs.declared.monitor.Pollutant.TheVariants.{Pm10}
use Rattle.aq_rules.specs.Office.Schedule.{is_scheduled}
use Rattle.aq_dirty.proofs.StratumStarts.{first-found, opens-low}
use Rattle.aq_dirty.proofs.strata.stratum_first.Goals as goal
use Rattle.aq_dirty.proofs.strata.stratum_first.Goals.{then-loop-start-test+else-not-is_scheduled, else-loop-start-test}

pub loop-start-init : goal.loop-start-init
loop-start-init c =
    let day = c.number-start.ensures.value in
    let opens : c.number-opens.result ≡ quarter_first (quarter_of c.args.day)
    = c.number-opens.ensures.value ∙ c.quarter_span-first.ensures.first ∙ ap (λ q. quarter_first q) c.quarter_of.ensures in
    record {
      low = omega (arith, day, opens-low c.args.registry.now c.args.site c.number-opens.result c.args.day opens (omega (arith, day, c.number-start.ensures.range)));
      high = omega (arith, day);
      profile = c.number-start.ensures.range;
      none = λ d after before. absurd (omega (arith, day, after, before));
    }

pub loop-start-preserved : goal.loop-start-preserved
loop-start-preserved c =
    let asked : ℕ → _ = is_scheduled c.args.registry.now c.args.site Pm10 in
    let off : asked c.loop-start.start ≡ false = ap asked (sym c.new.ensures) ∙ sym c.is_scheduled.ensures ∙ c.if-not-is_scheduled.true in
    record {
      low = omega (arith, c.loop-start-test.true);
      high = omega (arith, c.loop-start.invariant.high);
      profile = omega (arith, c.loop-start.invariant.profile);
      none = λ d after before.
          elim (d == c.loop-start.start) as (λ b. (d == c.loop-start.start) ≡ b → asked d ≡ false) [
            | true ↦ λ last. let same : d ≡ c.loop-start.start = grind (arith, nat_tests, last) in ap asked same ∙ off
            | false ↦ λ more. let later : c.loop-start.start < d = grind (arith, nat_tests, more, after) in c.loop-start.invariant.none d later before
          ] refl;
    }

pub returns : goal.returns
returns c =
    let asked : ℕ → _ = is_scheduled c.args.registry.now c.args.site Pm10 in
    let start = c.loop-start.start in
    let opens : c.number-opens.result ≡ quarter_first (quarter_of c.args.day)
    = c.number-opens.ensures.value ∙ c.quarter_span-first.ensures.first ∙ ap (λ q. quarter_first q) c.quarter_of.ensures in
    let within : c.args.day ≤ LAST_DAY = omega (arith, c.number-start.ensures.value, c.number-start.ensures.range) in
    let last : start + (c.args.day - start) / 6 * 6 ≡ c.new-2.result = omega (arith, c.number.ensures.value, c.new-2.ensures) in
    first-found c.args.registry.now c.args.site c.number-opens.result c.args.day start opens within c.loop-start.invariant.low c.loop-start.invariant.high c.loop-start.invariant.none
    (elim c.loop-start-test.branch [
      | then-loop-start-test+else-not-is_scheduled w ↦ inr (ap asked (sym w.new.ensures) ∙ sym w.is_scheduled.ensures ∙ w.if-not-is_scheduled.false)
      | else-loop-start-test w ↦ inl (omega (arith, w.loop-start-test.false))
    ])
    ∙ ap (λ k. Some k) last
