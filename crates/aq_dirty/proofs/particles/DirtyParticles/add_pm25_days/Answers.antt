use Rattle.std.proofs.Common.{◌-◌, ℕ, arith}
use Rattle.aq_base.specs.Calendar.{quarter_of, year_of}
use Rattle.aq_base.specs.Site.{Site}
use Rattle.aq_base.specs.declared.day.TheConstants.{LAST_DAY, QUARTERS}
use Rattle.aq_dirty.specs.Reach.{span_of}
use Rattle.aq_dirty.specs.Spans.{covers}
use Rattle.aq_dirty.proofs.Bounds.{covered-low, within-added}
use Rattle.aq_dirty.proofs.DaySteps.{last_quarter, last_year}
use Rattle.aq_dirty.proofs.particles.DirtyParticles.add_pm25_days.Goals as goal

pub invariant_of-self-2 : goal.invariant_of-self-2
invariant_of-self-2 c =
    let was = c.self.invariant in
    let here = c.self.inside in
    let site = c.args.site in
    let end = c.requires.end in
    let days = span_of site c.args.first c.args.last in
    let quarters = span_of site (quarter_of c.args.first) (quarter_of c.args.last) in
    let years = span_of site (year_of c.args.first) (year_of c.args.last) in
    record {
      pm25_days =
          within-added LAST_DAY here.pm25_days.spans c.reserve_three.new.one.spans c.add_days.new.days.spans (λ (s : Site) (n : ℕ). covers s n days) was.pm25_days c.reserve_three.ensures.one
          (λ s n held. let low = covered-low days s n held in omega (arith, low, end)) c.add_days.ensures.days;
      pm10_days = was.pm10_days;
      strata = was.strata;
      pm25_quarters =
          within-added (QUARTERS - 1) here.pm25_quarters.spans c.reserve_three.new.other.spans c.add_days.new.quarters.spans (λ (s : Site) (n : ℕ). covers s n quarters) was.pm25_quarters c.reserve_three.ensures.other
          (λ s n held. let low = covered-low quarters s n held in let high = last_quarter c.args.last end in omega (arith, low, high)) c.add_days.ensures.quarters;
      pm10_quarters = was.pm10_quarters;
      years =
          within-added 65535 here.years.spans c.reserve_three.new.third.spans c.add_years.new.years.spans (λ (s : Site) (n : ℕ). covers s n years) was.years c.reserve_three.ensures.third
          (λ s n held. let low = covered-low years s n held in let high = last_year c.args.last end in omega (arith, low, high)) c.add_years.ensures;
    }
