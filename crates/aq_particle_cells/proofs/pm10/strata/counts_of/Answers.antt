use Rattle.std.proofs.Common.{◌≡◌, ◌∙◌, ◌+◌, ◌++◌, ℕ, ap, refl, arith}
use Rattle.std.specs.Prelude.{ℤ, Option, option_and_then, filter_map}
use Rattle.std.specs.List.{range_with_len}
use Rattle.std.specs.Option.{option_to_list}
use Rattle.aq_agg.specs.StratumSums.{stratum_with}
use Rattle.aq_rules.specs.Ozone.SiteHour.{Cell}
use Rattle.aq_rules.specs.Particles.ParticleDay.{unless_excluded}
use Rattle.aq_particle_cells.specs.Pm10.Pm10Cells.{net_at}
use Rattle.aq_particle_cells.proofs.Pm10Lemmas.StratumSteps.{samples-more}
use Rattle.aq_particle_cells.proofs.pm10.strata.counts_of.Goals as goal

pub loop-i-init : goal.loop-i-init
loop-i-init c = record { counts = refl; few = omega arith; less = omega arith }

pub with_sample-counts-requires-clause-few : goal.with_sample-counts-requires-clause-few
with_sample-counts-requires-clause-few c = omega (arith, c.loop-i.invariant.few, c.loop-i-test.true, c.requires.few)

pub with_sample-counts-requires-clause-less : goal.with_sample-counts-requires-clause-less
with_sample-counts-requires-clause-less c = c.loop-i.invariant.less

pub loop-i-preserved : goal.loop-i-preserved
loop-i-preserved c =
    let net : ℕ → Option ℤ = net_at c.args.days.now.days.entries c.args.site in
    let values = filter_map net (range_with_len c.args.first c.loop-i.i) in
    let at : c.args.first + c.loop-i.i ≡ c.new-day.result = omega (arith, c.new-day.ensures, c.number.ensures.value) in
    let sample : c.net.result ≡ net c.new-day.result = c.net.ensures ∙ ap (λ (o : Option Cell). option_and_then unless_excluded o) c.cell.ensures in
    record {
      counts =
          c.with_sample-counts.ensures.counts values c.loop-i.invariant.counts
          ∙ ap (λ (o : Option ℤ). stratum_with (values ++ option_to_list o)) sample
          ∙ ap stratum_with (samples-more net c.args.first c.loop-i.i c.new-day.result at);
      few = omega (arith, c.loop-i.invariant.few, c.with_sample-counts.ensures.few);
      less = c.with_sample-counts.ensures.less;
    }

pub returns-clause-counts : goal.returns-clause-counts
returns-clause-counts c =
    let all : c.loop-i.i ≡ c.args.count = omega (arith, c.loop-i-test.false, c.loop-i.auto.i-end) in
    c.loop-i.invariant.counts ∙ ap (λ n. stratum_with (filter_map (net_at c.args.days.now.days.entries c.args.site) (range_with_len c.args.first n))) all

pub returns-clause-few : goal.returns-clause-few
returns-clause-few c = omega (arith, c.loop-i.invariant.few, c.loop-i.auto.i-end, c.requires.few)
