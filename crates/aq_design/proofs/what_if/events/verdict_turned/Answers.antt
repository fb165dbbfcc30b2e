use Rattle.std.proofs.Common.{List, ap, refl, sym, ◌∙◌}
use Rattle.aq_base.specs.declared.assumed.Assumed.{Assumed}
use Rattle.aq_base.specs.declared.office.OfficeRecord.{OfficeRecord}
use Rattle.aq_base.specs.declared.office.OfficeRecord.TheVariants.{Concurrence}
use Rattle.aq_rules.specs.Office.Office.{record_rank, with_row}
use Rattle.aq_rules.specs.WhatIf.Assumed.{assume_one}
use Rattle.aq_verdict.specs.Designs.{design_of}
use Rattle.aq_design.specs.WhatIf.Standing.{office_in}
use Rattle.aq_design.proofs.WhatIfLemmas.StandingLemmas.{value-same}
use Rattle.aq_design.proofs.WhatIfLemmas.Turned.{verdict-turned}
use Rattle.aq_design.proofs.what_if.events.verdict_turned.Goals as goal

-- what stands is the value over the records in which the event is turned round
pub returns-then-is_untouched-clause-verdict : goal.returns-then-is_untouched-clause-verdict
returns-then-is_untouched-clause-verdict g c =
    let standing = c.args.standing.now in
    let entry : Assumed = record { number = c.args.number; agreed = c.turned_round-entry.result.agreed } in
    let before = office_in standing in
    let hours = c.hours_of-hours.result in
    let same = value-same before (assume_one before entry) hours.first hours.last (c.hours_of-hours.ensures standing.shelf.now entry.agreed) standing.site standing.year c.requires.first c.requires.last (c.is_untouched.ensures c.if-is_untouched.true) standing.standard in
    verdict-turned standing.standard standing.registry.now standing.shelf.now standing.site standing.year c.args.number entry
    (with_row record_rank (Concurrence entry.number entry.agreed) standing.registry.now) (design_of standing.value) c.verdict.result
    (λ i. record { number = c.args.number; agreed = (c.turned_round-entry.ensures.entry i).agreed }) refl (c.requires.value ∙ sym same) c.verdict.ensures

pub returns-clause-verdict : goal.returns-clause-verdict
returns-clause-verdict g c =
    let standing = c.args.standing.now in
    let entry = c.turned_round-entry.result in
    let are = c.in_ok-assume.ensures ∙ ap (λ (records : List OfficeRecord). with_row record_rank (Concurrence entry.number entry.agreed) records) c.in_ok-records.ensures in
    verdict-turned standing.standard standing.registry.now standing.shelf.now standing.site standing.year c.args.number entry _ (design_of c.design_value.result) c.verdict-2.result
    c.turned_round-entry.ensures.entry are c.design_value.ensures.value c.verdict-2.ensures
