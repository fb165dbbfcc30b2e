use Rattle.std.proofs.Common.{◌≡◌, ◌++◌, ◌∷◌, ℕ, List, length, ap, sym, ◌∙◌, arith}
use Rattle.std.proofs.lemmas.List.{append-nil}
use Rattle.aq_base.specs.declared.assumed.DecisiveEvent.{DecisiveEvent}
use Rattle.aq_base.specs.declared.monitor.Pollutant.{Pollutant}
use Rattle.aq_rules.specs.DesignValues.{verdict_in}
use Rattle.aq_rules.specs.Standards.{pollutant_of}
use Rattle.aq_rules.specs.WhatIf.Assumed.{events_at}
use Rattle.aq_registry.specs.Events.{events_above}
use Rattle.aq_series.specs.OfficeView.{office_of}
use Rattle.aq_design.proofs.WhatIfLemmas.Turned.{all-deciding, deciding, no-more, none-left, of-some}
use Rattle.aq_design.proofs.what_if.events.decisive.Goals as goal

pub loop-number-init : goal.loop-number-init
loop-number-init g c =
    record {
      events = ap (λ (l : List DecisiveEvent). l ++ deciding c.args.standard c.args.registry.now c.args.shelf.now c.args.site c.args.year (events_above c.args.registry.now c.args.site c.pollutant-pollutant.result 0)) c.new-events.ensures;
      steps = λ ozone. omega (arith, c.design_value-value.ensures.steps ozone);
    }

pub loop-number-smaller : goal.loop-number-smaller
loop-number-smaller g c =
    let above = events_above c.args.registry.now c.args.site c.pollutant-pollutant.result in
    let fewer = ap length (of-some c.next_event.result (λ (n : ℕ). above c.loop-number.after ≡ n ∷ above n) c.in-Some.number c.in-Some.is c.next_event.ensures.rest) in
    omega (arith, fewer)

pub loop-number-preserved : goal.loop-number-preserved
loop-number-preserved g c =
    let records = c.args.registry.now in
    let rows = c.args.shelf.now in
    let above = events_above records c.args.site c.pollutant-pollutant.result in
    let next = of-some c.next_event.result (λ (n : ℕ). above c.loop-number.after ≡ n ∷ above n) c.in-Some.number c.in-Some.is c.next_event.ensures.rest in
    let behind = above c.in-Some.number in
    let many = ap length next in
    let deciding_of = deciding c.args.standard records rows c.args.site c.args.year in
    let verdict = c.verdict-verdict.ensures ∙ ap verdict_in c.design_value-value.ensures.value in
    record {
      events =
          ap (λ (l : List DecisiveEvent). c.loop-number.events ++ l)
          (no-more c.args.standard records rows c.args.site c.args.year c.in-Some.number c.verdict-verdict.result c.in_ok-turned.turned c.differ.result behind verdict c.in_ok-turned.ensures.verdict c.differ.ensures c.if-differ.false)
          ∙ ap (λ (l : List ℕ). c.loop-number.events ++ deciding_of l) (sym next)
          ∙ c.loop-number.invariant.events;
      steps = λ ozone. omega (arith, many, c.in_ok-turned.ensures.steps ozone, c.loop-number.invariant.steps ozone);
    }

pub returns-clause-events : goal.returns-clause-events
returns-clause-events g c =
    let records = c.args.registry.now in
    let rows = c.args.shelf.now in
    let deciding_of = deciding c.args.standard records rows c.args.site c.args.year in
    let last = none-left (events_above records c.args.site c.pollutant-pollutant.result c.loop-number.after) (sym c.next_event.ensures.value ∙ c.in_default.is) in
    let all = c.next_event.ensures.all ∙ ap (λ (p : Pollutant). events_at (office_of records rows) c.args.site p) c.pollutant-pollutant.ensures in
    sym (append-nil c.loop-number.events)
    ∙ ap (λ (l : List ℕ). c.loop-number.events ++ deciding_of l) (sym last)
    ∙ c.loop-number.invariant.events
    ∙ ap deciding_of all
    ∙ all-deciding c.args.standard records rows c.args.site c.args.year

pub returns-clause-steps : goal.returns-clause-steps
returns-clause-steps g c ozone =
    let at = events_at (office_of c.args.registry.now c.args.shelf.now) c.args.site in
    let many = ap length (c.next_event.ensures.all ∙ ap at (c.pollutant-pollutant.ensures ∙ ap pollutant_of ozone)) in
    omega (arith, many, c.loop-number.invariant.steps ozone)
