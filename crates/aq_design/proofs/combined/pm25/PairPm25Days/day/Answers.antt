use Rattle.std.proofs.Common.{None, sym, ◌∙◌}
use Rattle.std.specs.Prelude.{nat_lt}
use Rattle.aq_base.specs.declared.monitor.Pollutant.TheVariants.{Pm25}
use Rattle.aq_rules.specs.Combined.Pair.{pair_day}
use Rattle.aq_rules.specs.Particles.ParticleDay.{site_day}
use Rattle.aq_series.specs.OfficeView.{office_of}
use Rattle.aq_design.proofs.CombinedLemmas.Spans.{joined-read, own-early, own-read}
use Rattle.aq_design.proofs.combined.pm25.PairPm25Days.day.Goals as goal

pub returns-then-is_before-clause-value : goal.returns-then-is_before-clause-value
unfolding pair_day
returns-then-is_before-clause-value g c =
    let pair = c.args.self.now in
    let office = office_of pair.registry.now pair.shelf.now in
    c.pm25_on.ensures.value
    ∙ own-early (nat_lt c.args.day pair.from) (site_day office pair.site Pm25 c.args.day) (site_day office pair.joined Pm25 c.args.day) None (sym c.is_before.ensures ∙ c.if-is_before.true)

pub returns-then-is_some-clause-value : goal.returns-then-is_some-clause-value
unfolding pair_day
returns-then-is_some-clause-value g c =
    let pair = c.args.self.now in
    let office = office_of pair.registry.now pair.shelf.now in
    joined-read (nat_lt c.args.day pair.from) (site_day office pair.site Pm25 c.args.day) (site_day office pair.joined Pm25 c.args.day) c.pm25_on-joined.result
    (sym c.is_before.ensures ∙ c.if-is_before.false) c.pm25_on-joined.ensures.value (sym c.is_some.ensures ∙ c.if-is_some.true)

pub returns-clause-value : goal.returns-clause-value
unfolding pair_day
returns-clause-value g c =
    let pair = c.args.self.now in
    let office = office_of pair.registry.now pair.shelf.now in
    c.pm25_on-2.ensures.value
    ∙ own-read (nat_lt c.args.day pair.from) (site_day office pair.site Pm25 c.args.day) (site_day office pair.joined Pm25 c.args.day) c.pm25_on-joined.result
    (sym c.is_before.ensures ∙ c.if-is_before.false) c.pm25_on-joined.ensures.value (sym c.is_some.ensures ∙ c.if-is_some.false)
