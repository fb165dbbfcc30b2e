use Rattle.std.proofs.Common.{None, Some, ap, ◌∙◌}
use Rattle.std.specs.Prelude.{List}
use Rattle.aq_rules.specs.Combined.Pair.{pair_windows_on}
use Rattle.aq_rules.specs.Office.Office.{Office}
use Rattle.aq_rules.specs.Ozone.EightHour.{WindowRow}
use Rattle.aq_series.specs.OfficeView.{office_of}
use Rattle.aq_design.specs.Combined.Pairs.{pair_in}
use Rattle.aq_design.proofs.CombinedLemmas.Designs.{windows-at}
use Rattle.aq_design.proofs.combined.windows.pair_windows.Goals as goal

pub returns-in_default-clause-windows : goal.returns-in_default-clause-windows
returns-in_default-clause-windows g c = windows-at (office_of c.args.registry.now c.args.shelf.now) c.args.site c.args.day None c.in_default.ensures.pair

pub returns-in_default-clause-alone : goal.returns-in_default-clause-alone
returns-in_default-clause-alone g c joined stands none =
    returns-in_default-clause-windows g c
    ∙ c.a_joined_site_without_values_changes_nothing.ensures.averages (office_of c.args.registry.now c.args.shelf.now) c.args.site c.args.day joined stands none

pub returns-clause-windows : goal.returns-clause-windows
returns-clause-windows g c =
    let office = office_of c.args.registry.now c.args.shelf.now in
    let pair = pair_in c.in-Some.pair in
    ap (λ (rows : List WindowRow). Some rows) (c.windows_on.ensures.windows ∙ ap (λ (o : Office). pair_windows_on o pair c.args.day) c.in-Some.ensures.office)
    ∙ windows-at office c.args.site c.args.day (Some pair) c.in-Some.ensures.pair

pub returns-clause-alone : goal.returns-clause-alone
returns-clause-alone g c joined stands none =
    returns-clause-windows g c
    ∙ c.a_joined_site_without_values_changes_nothing.ensures.averages (office_of c.args.registry.now c.args.shelf.now) c.args.site c.args.day joined stands none
