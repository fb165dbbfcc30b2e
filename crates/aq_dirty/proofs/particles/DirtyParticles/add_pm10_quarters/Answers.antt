use Rattle.std.proofs.Common.{◌-◌, ◌≤◌, ℕ, arith}
use Rattle.aq_base.specs.Site.{Site}
use Rattle.aq_base.specs.declared.day.TheConstants.{LAST_DAY, QUARTERS}
use Rattle.aq_dirty.specs.ParticleReach.{covers_stratum}
use Rattle.aq_dirty.specs.Reach.{span_of}
use Rattle.aq_dirty.specs.Spans.{covers}
use Rattle.aq_dirty.proofs.Bounds.{covered-low, within-added}
use Rattle.aq_dirty.proofs.DaySteps.{some_days}
use Rattle.aq_dirty.proofs.StratumSpans.{strata-low}
use Rattle.aq_dirty.proofs.particles.DirtyParticles.add_pm10_quarters.Goals as goal

pub days_between-requires : goal.days_between-requires
days_between-requires c =
    let some = some_days c.args.first c.args.last c.requires.some in
    omega (arith, some, c.first_day-first_day.ensures, c.last_day-last_day.ensures.end)

pub add_strata-requires-clause-some : goal.add_strata-requires-clause-some
add_strata-requires-clause-some c =
    let some = some_days c.args.first c.args.last c.requires.some in
    omega (arith, some, c.first_day-first_day.ensures, c.last_day-last_day.ensures.end)

pub invariant_of-self-2 : goal.invariant_of-self-2
invariant_of-self-2 c =
    let was = c.self.invariant in
    let here = c.self.inside in
    let site = c.args.site in
    let end = c.requires.end in
    let quarters = span_of site c.args.first c.args.last in
    let some = some_days c.args.first c.args.last c.requires.some in
    let low : c.first_day-first_day.result ≤ c.last_day-last_day.result = omega (arith, some, c.first_day-first_day.ensures, c.last_day-last_day.ensures.end) in
    record {
      pm25_days = was.pm25_days;
      pm10_days = was.pm10_days;
      strata =
          within-added LAST_DAY here.strata.spans c.reserve_two.new.other.spans c.add_strata.new.strata.spans (λ (s : Site) (n : ℕ). covers_stratum c.args.registry.now site c.first_day-first_day.result c.last_day-last_day.result s n) was.strata c.reserve_two.ensures.other
          (strata-low c.args.registry.now site c.first_day-first_day.result c.last_day-last_day.result low c.last_day-last_day.ensures.range) c.add_strata.ensures;
      pm25_quarters = was.pm25_quarters;
      pm10_quarters =
          within-added (QUARTERS - 1) here.pm10_quarters.spans c.reserve_two.new.one.spans c.add_quarters.new.quarters.spans (λ (s : Site) (n : ℕ). covers s n quarters) was.pm10_quarters c.reserve_two.ensures.one
          (λ s n held. let most = covered-low quarters s n held in omega (arith, most, end)) c.add_quarters.ensures;
      years = was.years;
    }
