use Rattle.std.proofs.Common.{None, Some, ap, ◌∙◌}
use Rattle.aq_base.specs.declared.monitor.Pollutant.{Pollutant}
use Rattle.aq_base.specs.declared.standard.Standard.{Standard}
use Rattle.aq_rules.specs.Combined.Pair.{pair_of, pair_value}
use Rattle.aq_rules.specs.Office.Office.{Office}
use Rattle.aq_series.specs.OfficeView.{office_of}
use Rattle.aq_design.specs.Combined.Pairs.{pair_in, value_by}
use Rattle.aq_design.proofs.CombinedLemmas.Designs.{value-at}
use Rattle.aq_design.proofs.combined.value.pair_value.Goals as goal

-- ---- without a pair

pub returns-in_default-clause-value : goal.returns-in_default-clause-value
returns-in_default-clause-value g c =
    let office = office_of c.args.registry.now c.args.shelf.now in
    value-at office c.args.site c.args.year c.args.standard None (c.in_default.ensures.pair ∙ ap (λ (p : Pollutant). pair_of office c.args.site p) c.pollutant.ensures)

pub returns-in_default-clause-ozone_alone : goal.returns-in_default-clause-ozone_alone
returns-in_default-clause-ozone_alone g c joined is stands none before =
    let office = office_of c.args.registry.now c.args.shelf.now in
    returns-in_default-clause-value g c ∙ ap (λ (s : Standard). pair_value s office c.args.site c.args.year) is
    ∙ c.a_joined_site_without_values_changes_nothing.ensures.ozone office c.args.site c.args.year joined stands none c.requires.first before

pub returns-in_default-clause-pm25_alone : goal.returns-in_default-clause-pm25_alone
returns-in_default-clause-pm25_alone g c joined is valid stands none before =
    let office = office_of c.args.registry.now c.args.shelf.now in
    returns-in_default-clause-value g c ∙ c.a_joined_site_without_values_changes_nothing.ensures.pm25 c.args.standard office c.args.site c.args.year joined is valid stands none c.requires.first before

-- ---- with one

pub returns-clause-value : goal.returns-clause-value
returns-clause-value g c =
    let office = office_of c.args.registry.now c.args.shelf.now in
    let pair = pair_in c.in-Some.pair in
    c.value_of.ensures.value ∙ ap (λ (o : Office). value_by c.args.standard o c.args.year pair) c.in-Some.ensures.office
    ∙ value-at office c.args.site c.args.year c.args.standard (Some pair) (c.in-Some.ensures.pair ∙ ap (λ (p : Pollutant). pair_of office c.args.site p) c.pollutant.ensures)

pub returns-clause-ozone_alone : goal.returns-clause-ozone_alone
returns-clause-ozone_alone g c joined is stands none before =
    let office = office_of c.args.registry.now c.args.shelf.now in
    returns-clause-value g c ∙ ap (λ (s : Standard). pair_value s office c.args.site c.args.year) is
    ∙ c.a_joined_site_without_values_changes_nothing.ensures.ozone office c.args.site c.args.year joined stands none c.requires.first before

pub returns-clause-pm25_alone : goal.returns-clause-pm25_alone
returns-clause-pm25_alone g c joined is valid stands none before =
    let office = office_of c.args.registry.now c.args.shelf.now in
    returns-clause-value g c ∙ c.a_joined_site_without_values_changes_nothing.ensures.pm25 c.args.standard office c.args.site c.args.year joined is valid stands none c.requires.first before
