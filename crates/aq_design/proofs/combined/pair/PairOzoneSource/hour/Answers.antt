use Rattle.std.proofs.Common.{◌/◌, None, ap, sym, ◌∙◌}
use Rattle.std.specs.Prelude.{nat_lt}
use Rattle.aq_rules.specs.Combined.Pair.{pair_hour}
use Rattle.aq_rules.specs.Ozone.SiteHour.{site_hour}
use Rattle.aq_series.specs.OfficeView.{office_of}
use Rattle.aq_design.proofs.CombinedLemmas.Spans.{joined-read, own-early, own-read}
use Rattle.aq_design.proofs.combined.pair.PairOzoneSource.hour.Goals as goal

pub returns-then-is_before-clause-value : goal.returns-then-is_before-clause-value
unfolding pair_hour
returns-then-is_before-clause-value g c =
    let pair = c.args.self.now in
    let office = office_of pair.registry.now pair.shelf.now in
    let day = c.new-day.ensures ∙ ap (λ n. n / 24) c.number.ensures.value in
    c.site_hour.ensures.value
    ∙ own-early (nat_lt (c.args.hour / 24) pair.from) (site_hour office pair.site c.args.hour) (site_hour office pair.joined c.args.hour) None
    (ap (λ n. nat_lt n pair.from) (sym day) ∙ sym c.is_before.ensures ∙ c.if-is_before.true)

pub returns-then-is_some-clause-value : goal.returns-then-is_some-clause-value
unfolding pair_hour
returns-then-is_some-clause-value g c =
    let pair = c.args.self.now in
    let office = office_of pair.registry.now pair.shelf.now in
    let day = c.new-day.ensures ∙ ap (λ n. n / 24) c.number.ensures.value in
    joined-read (nat_lt (c.args.hour / 24) pair.from) (site_hour office pair.site c.args.hour) (site_hour office pair.joined c.args.hour) c.site_hour-joined.result
    (ap (λ n. nat_lt n pair.from) (sym day) ∙ sym c.is_before.ensures ∙ c.if-is_before.false) c.site_hour-joined.ensures.value (sym c.is_some.ensures ∙ c.if-is_some.true)

pub returns-clause-value : goal.returns-clause-value
unfolding pair_hour
returns-clause-value g c =
    let pair = c.args.self.now in
    let office = office_of pair.registry.now pair.shelf.now in
    let day = c.new-day.ensures ∙ ap (λ n. n / 24) c.number.ensures.value in
    c.site_hour-2.ensures.value
    ∙ own-read (nat_lt (c.args.hour / 24) pair.from) (site_hour office pair.site c.args.hour) (site_hour office pair.joined c.args.hour) c.site_hour-joined.result
    (ap (λ n. nat_lt n pair.from) (sym day) ∙ sym c.is_before.ensures ∙ c.if-is_before.false) c.site_hour-joined.ensures.value (sym c.is_some.ensures ∙ c.if-is_some.false)
