use Rattle.std.proofs.Common.{◌≡◌, ◌∙◌, ap, sym, arith, Some, Bool, true, false, cond, refl, not}
use Rattle.std.specs.Prelude.{◌==◌}
use Rattle.std.specs.Option.{option_eq}
use Rattle.aq_rules.specs.Particles.ParticleDay.{monitor_day}
use Rattle.aq_series.specs.OfficeView.{office_of}
use Rattle.aq_series.specs.DayCells.{mean_of, monitor_at, monitor_steps}
use Rattle.aq_series.proofs.SiteDay.{day-done, day-more, day-past, day-room, fewer, is_primary, primary-none, steps-from}
use Rattle.aq_series.proofs.days.mean_of_others.Goals as goal

opposite : (b c : Bool) → b ≡ not c → b ≡ true → c ≡ false
opposite b true is h = cc
opposite b false is h = refl

same : (b c : Bool) → b ≡ not c → b ≡ false → c ≡ true
same b true is h = refl
same b false is h = cc

pub with-tally-requires-clause-count : goal.with-tally-requires-clause-count
with-tally-requires-clause-count g c =
    day-room (office_of c.args.registry.now c.args.shelf.now) c.args.site.now c.args.pollutant c.args.day c.loop-poc.after c.in-Some.poc c.loop-poc.tally c.next_poc.ensures.valid (sym c.next_poc.ensures.value ∙ c.in-Some.is) c.loop-poc.invariant.walked

pub loop-poc-smaller-then-ne : goal.loop-poc-smaller-then-ne
loop-poc-smaller-then-ne g c =
    let one = fewer c.args.registry.now c.args.site.now c.args.pollutant c.loop-poc.after c.in-Some.poc c.next_poc.ensures.valid (sym c.next_poc.ensures.value ∙ c.in-Some.is) in
    omega (arith, one)

pub loop-poc-preserved-then-ne : goal.loop-poc-preserved-then-ne
loop-poc-preserved-then-ne g c =
    let office = office_of c.args.registry.now c.args.shelf.now in
    let next = sym c.next_poc.ensures.value ∙ c.in-Some.is in
    let walked = c.loop-poc.invariant.walked in
    let day = c.measured_day.ensures.value ∙ ap (λ m. monitor_day office m c.args.day) c.monitor_at.ensures in
    let other = sym (is_primary c.args.primary c.in-Some.poc) ∙ opposite c.ne.result (option_eq (λ m n. m == n) c.args.primary (Some c.in-Some.poc)) c.ne.ensures c.if-ne.true in
    let taken = ap (λ b. cond b 0 (monitor_steps c.args.registry.now (monitor_at c.args.site.now c.args.pollutant c.in-Some.poc))) other in
    let monitor = ap (monitor_steps c.args.registry.now) c.monitor_at.ensures in
    let left = steps-from office c.args.site.now c.args.pollutant c.args.day c.loop-poc.after c.in-Some.poc c.loop-poc.tally c.next_poc.ensures.valid next walked c.args.primary in
    record {
      values = c.with-tally.ensures.values;
      walked =
          day-more office c.args.site.now c.args.pollutant c.args.day c.loop-poc.after c.in-Some.poc c.loop-poc.tally c.next_poc.ensures.valid next walked
          c.measured_day.result c.with-tally.result day (c.with-tally.ensures.tally walked.before walked.tallied) c.with-tally.ensures.count;
      steps = omega (arith, c.loop-poc.invariant.steps, left, taken, monitor, c.measured_day.ensures.steps);
    }

pub loop-poc-smaller : goal.loop-poc-smaller
loop-poc-smaller g c =
    let one = fewer c.args.registry.now c.args.site.now c.args.pollutant c.loop-poc.after c.in-Some.poc c.next_poc.ensures.valid (sym c.next_poc.ensures.value ∙ c.in-Some.is) in
    omega (arith, one)

pub loop-poc-preserved : goal.loop-poc-preserved
loop-poc-preserved g c =
    let office = office_of c.args.registry.now c.args.shelf.now in
    let next = sym c.next_poc.ensures.value ∙ c.in-Some.is in
    let walked = c.loop-poc.invariant.walked in
    let primary = sym (is_primary c.args.primary c.in-Some.poc) ∙ same c.ne.result (option_eq (λ m n. m == n) c.args.primary (Some c.in-Some.poc)) c.ne.ensures c.if-ne.false in
    let none = primary-none office c.args.site.now c.args.pollutant c.args.day c.args.primary c.in-Some.poc primary c.requires.without in
    let left = steps-from office c.args.site.now c.args.pollutant c.args.day c.loop-poc.after c.in-Some.poc c.loop-poc.tally c.next_poc.ensures.valid next walked c.args.primary in
    record {
      values = c.loop-poc.invariant.values;
      walked = day-past office c.args.site.now c.args.pollutant c.args.day c.loop-poc.after c.in-Some.poc c.loop-poc.tally c.next_poc.ensures.valid next walked none;
      steps = omega (arith, c.loop-poc.invariant.steps, left);
    }

pub returns-clause-value : goal.returns-clause-value
returns-clause-value g c =
    let office = office_of c.args.registry.now c.args.shelf.now in
    let walked = c.loop-poc.invariant.walked in
    c.mean.ensures.value walked.before walked.tallied
    ∙ ap mean_of (day-done office c.args.site.now c.args.pollutant c.args.day c.loop-poc.after c.loop-poc.tally walked (sym c.next_poc.ensures.value ∙ c.in_default.is))
