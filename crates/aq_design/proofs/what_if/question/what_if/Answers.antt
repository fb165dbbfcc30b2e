use Rattle.std.proofs.Common.{◌∙◌, ap, sym}
use Rattle.std.specs.Prelude.{is_some}
use Rattle.aq_series.specs.OfficeView.{office_of}
use Rattle.aq_verdict.specs.Designs.{design_of}
use Rattle.aq_design.proofs.WhatIfLemmas.AsIf.{one-numbered, one-stands, value-after, value-as-if}
use Rattle.aq_design.proofs.what_if.question.what_if.Goals as goal

pub returns-clause-value : goal.returns-clause-value
returns-clause-value g c =
    value-as-if c.args.standard c.args.registry.now c.args.shelf.now c.args.assumed.now c.args.site c.args.year (design_of c.design_value.result) _ c.in_ok-records.ensures c.design_value.ensures.value

pub returns-clause-line : goal.returns-clause-line
returns-clause-line g c = λ entry one.
    let records = c.args.registry.now in
    let rows = c.args.shelf.now in
    let none = sym c.unknown_event.ensures.first ∙ c.in_default.is in
    let value = value-as-if c.args.standard records rows c.args.assumed.now c.args.site c.args.year (design_of c.design_value.result) _ c.in_ok-records.ensures c.design_value.ensures.value in
    value-after c.args.standard records rows c.args.assumed.now c.args.site c.args.year (design_of c.design_value.result) entry one value
    (c.assuming_is_what_the_line_does.ensures (office_of records rows) entry.number entry.agreed
    (one-numbered records c.args.assumed.now entry one (c.unknown_event.ensures.numbers (ap is_some c.in_default.is))) (one-stands records c.args.assumed.now entry one none))
