use Rattle.std.proofs.Common.{◌-◌, ℕ, arith}
use Rattle.aq_base.specs.Calendar.{quarter_of}
use Rattle.aq_base.specs.Site.{Site}
use Rattle.aq_base.specs.declared.day.TheConstants.{LAST_DAY, QUARTERS}
use Rattle.aq_dirty.specs.ParticleReach.{covers_stratum}
use Rattle.aq_dirty.specs.Reach.{span_of}
use Rattle.aq_dirty.specs.Spans.{covers}
use Rattle.aq_dirty.proofs.Bounds.{covered-low, within-added}
use Rattle.aq_dirty.proofs.DaySteps.{last_quarter}
use Rattle.aq_dirty.proofs.StratumSpans.{strata-low}
use Rattle.aq_dirty.proofs.particles.DirtyParticles.add_pm10_days.Goals as goal

pub invariant_of-self-2 : goal.invariant_of-self-2
invariant_of-self-2 c =
    let was = c.self.invariant in
    let here = c.self.inside in
    let site = c.args.site in
    let first = c.args.first in
    let last = c.args.last in
    let end = c.requires.end in
    let days = span_of site first last in
    let quarters = span_of site (quarter_of first) (quarter_of last) in
    record {
      pm25_days = was.pm25_days;
      pm10_days =
          within-added LAST_DAY here.pm10_days.spans c.reserve_three.new.one.spans c.add_days.new.days.spans (λ (s : Site) (n : ℕ). covers s n days) was.pm10_days c.reserve_three.ensures.one
          (λ s n held. let low = covered-low days s n held in omega (arith, low, end)) c.add_days.ensures.days;
      strata =
          within-added LAST_DAY here.strata.spans c.reserve_three.new.third.spans c.add_strata.new.strata.spans (λ (s : Site) (n : ℕ). covers_stratum c.args.registry.now site first last s n) was.strata c.reserve_three.ensures.third
          (strata-low c.args.registry.now site first last c.requires.some end) c.add_strata.ensures;
      pm25_quarters = was.pm25_quarters;
      pm10_quarters =
          within-added (QUARTERS - 1) here.pm10_quarters.spans c.reserve_three.new.other.spans c.add_days.new.quarters.spans (λ (s : Site) (n : ℕ). covers s n quarters) was.pm10_quarters c.reserve_three.ensures.other
          (λ s n held. let low = covered-low quarters s n held in let high = last_quarter last end in omega (arith, low, high)) c.add_days.ensures.quarters;
      years = was.years;
    }
