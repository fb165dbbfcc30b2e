use Rattle.std.proofs.Common.{◌≡◌, ◌∙◌, ◌&&◌, ◌||◌, ◌+◌, ◌<◌, ◌≤◌, cond, ap, sym, arith}
use Rattle.std.specs.Prelude.{Some}
use Rattle.aq_base.specs.declared.day.TheConstants.{LAST_DAY}
use Rattle.aq_rules.specs.Particles.Strata.{stratum_by}
use Rattle.aq_dirty.specs.ParticleReach.{begins_stratum, covers_stratum}
use Rattle.aq_dirty.specs.Reach.{span_of}
use Rattle.aq_dirty.specs.Spans.{covers, holds}
use Rattle.aq_dirty.proofs.StratumSpans.{first-held, next-held}
use Rattle.aq_dirty.proofs.StratumStarts.{next-found}
use Rattle.aq_dirty.proofs.strata.add_strata.Goals as goal

pub loop-number-init : goal.loop-number-init
loop-number-init c =
    let at : c.number-number.result ≡ c.args.first = c.number-number.ensures.value in
    let last = c.number-end.ensures in
    record {
      low = omega (arith, at);
      high = omega (arith, at, last.value, c.requires.some);
      last = last.value;
      profile = last.range;
      begun = ap (λ d. stratum_by c.args.registry.now c.args.site d) at ∙ c.stratum_first-start.ensures;
      room = omega (arith, at, last.value, c.add_start.ensures.room, c.requires.room);
      added = λ other n.
          c.add_start.ensures.holds other n
          ∙ first-held c.args.registry.now c.args.site c.args.first c.stratum_first-start.result (holds other n c.args.strata.now.spans) other n c.stratum_first-start.ensures
          ∙ ap (λ d. holds other n c.args.strata.now.spans || covers_stratum c.args.registry.now c.args.site c.args.first d other n) (sym at);
    }

pub loop-number-preserved : goal.loop-number-preserved
loop-number-preserved c =
    let is = c.loop-number.invariant in
    let records = c.args.registry.now in
    let site = c.args.site in
    let d = c.loop-number.number in
    let start = c.loop-number.start in
    let more : d < c.number-end.result = c.loop-number-test.true in
    let within : d + 1 ≤ LAST_DAY = omega (arith, more, is.profile) in
    let day : c.new.result ≡ d + 1 = c.new.ensures in
    record {
      low = omega (arith, is.low);
      high = omega (arith, more);
      last = is.last;
      profile = is.profile;
      begun =
          next-found records site d start within is.begun
          ∙ ap (λ k. Some k) (sym (c.add_next-start.ensures.start ∙ ap (λ k. cond (begins_stratum records site start k) k start) day));
      room = omega (arith, more, is.room, c.add_next-start.ensures.room);
      added = λ other n.
          c.add_next-start.ensures.holds other n
          ∙ ap (λ k. holds other n c.loop-number.strata.spans || (begins_stratum records site start k && covers other n (span_of site k k))) day
          ∙ ap (λ b. b || (begins_stratum records site start (d + 1) && covers other n (span_of site (d + 1) (d + 1)))) (is.added other n)
          ∙ next-held records site c.args.first d start n is.low is.begun within (holds other n c.args.strata.now.spans) other;
    }

pub returns : goal.returns
returns c = λ other n.
    let is = c.loop-number.invariant in
    let at : c.loop-number.number ≡ c.args.last = omega (arith, is.high, is.last, c.loop-number-test.false) in
    is.added other n ∙ ap (λ d. holds other n c.args.strata.now.spans || covers_stratum c.args.registry.now c.args.site c.args.first d other n) at
