use Rattle.std.proofs.Common.{◌≡◌, ap, sym, ◌∙◌}
use Rattle.aq_rules.specs.Kept.Summaries.{PmYear, pm25_summary}
use Rattle.aq_rules.specs.Office.Office.{Office}
use Rattle.aq_dirty.specs.OutOfReach.Outside.{IsOutside}
use Rattle.aq_series.specs.OfficeView.{office_of}
use Rattle.aq_design.specs.WhatIf.Standing.{office_in}
use Rattle.aq_design.proofs.WhatIfLemmas.StandingLemmas.{in-profile, summary-same}
use Rattle.aq_design.proofs.WhatIfLemmas.Turned.{of-some}
use Rattle.aq_design.proofs.what_if.standing.TurnedYears.pm25.Goals as goal

pub returns-in-Some-clause-year : goal.returns-in-Some-clause-year
returns-in-Some-clause-year g c =
    let turned = c.self.inside in
    let standing = turned.standing.now in
    let hours = turned.hours in
    let known = of-some c.pm25.result (λ (year : PmYear). IsOutside hours.first hours.last c.args.year × (year ≡ pm25_summary (office_in standing) c.args.site c.args.year)) c.in-Some.known c.in-Some.is c.pm25.ensures in
    known.1
    ∙ sym (summary-same (office_in standing) (office_of turned.records.now standing.shelf.now) hours.first hours.last c.self.invariant.1 c.args.site c.args.year (in-profile c.args.year c.requires.first c.requires.last) known.0)
    ∙ ap (λ (office : Office). pm25_summary office c.args.site c.args.year) c.self.view_is
