use Rattle.std.proofs.Common.{◌-◌, ℕ, arith}
use Rattle.aq_base.specs.Site.{Site}
use Rattle.aq_base.specs.declared.day.TheConstants.{QUARTERS}
use Rattle.aq_dirty.specs.Reach.{span_of}
use Rattle.aq_dirty.specs.Spans.{covers}
use Rattle.aq_dirty.proofs.Bounds.{covered-low, within-added}
use Rattle.aq_dirty.proofs.particles.DirtyParticles.add_pm25_quarters.Goals as goal

pub invariant_of-self-2 : goal.invariant_of-self-2
invariant_of-self-2 c =
    let was = c.self.invariant in
    let end = c.requires.end in
    let quarters = span_of c.args.site c.args.first c.args.last in
    record {
      pm25_days = was.pm25_days;
      pm10_days = was.pm10_days;
      strata = was.strata;
      pm25_quarters =
          within-added (QUARTERS - 1) c.self.inside.pm25_quarters.spans c.reserve.new.self.spans c.add_quarters.new.quarters.spans (λ (s : Site) (n : ℕ). covers s n quarters) was.pm25_quarters c.reserve.ensures.same
          (λ s n held. let low = covered-low quarters s n held in omega (arith, low, end)) c.add_quarters.ensures;
      pm10_quarters = was.pm10_quarters;
      years = was.years;
    }
