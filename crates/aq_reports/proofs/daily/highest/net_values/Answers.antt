use Rattle.std.proofs.Common.{◌≡◌, ◌+◌, ◌∙◌, ℕ, Option, map, ap, arith}
use Rattle.std.specs.Prelude.{ℤ, option_and_then}
use Rattle.std.specs.List.{range_with_len}
use Rattle.aq_rules.specs.Ozone.OzoneYear.{days_of}
use Rattle.aq_rules.specs.Particles.ParticleDay.{net_day, unless_excluded}
use Rattle.aq_reports.proofs.DailyLemmas.Walks.{rows-more}
use Rattle.aq_reports.proofs.daily.highest.net_values.Goals as goal

pub loop-place-preserved : goal.loop-place-preserved
loop-place-preserved g c =
    let net : ℕ → Option ℤ = net_day (g.S.Years.office c.args.source.now) c.args.site c.args.pollutant in
    let first = c.year_span-first.result.0 in
    let at : first + c.loop-place.place ≡ c.new-day.result = omega (arith, c.new-day.ensures, c.number.ensures.value) in
    rows-more net first c.loop-place.place c.loop-place.values c.push.new.self c.new-day.result c.net_of.result at c.loop-place.invariant c.in_ok-push.ensures.ok
    (c.net_of.ensures ∙ ap (option_and_then unless_excluded) c.particle_day-cell.ensures)

pub returns : goal.returns
unfolding days_of
returns g c =
    let net : ℕ → Option ℤ = net_day (g.S.Years.office c.args.source.now) c.args.site c.args.pollutant in
    let all : c.loop-place.place ≡ c.year_span-first.result.1 = omega (arith, c.loop-place-test.false, c.loop-place.auto.place-end) in
    c.loop-place.invariant ∙ (λ i. map net (range_with_len (c.year_span-first.ensures.first i) ((all ∙ c.year_span-first.ensures.days) i)))
