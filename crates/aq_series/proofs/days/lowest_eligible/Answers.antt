use Rattle.std.proofs.Common.{◌∙◌, sym, ap, arith}
use Rattle.aq_rules.specs.Office.Monitors.{is_eligible}
use Rattle.aq_series.proofs.SiteDay.{at_poc, fewer, lowest-is, no_poc, past_poc}
use Rattle.aq_series.proofs.days.lowest_eligible.Goals as goal

pub returns-then-is_eligible : goal.returns-then-is_eligible
returns-then-is_eligible c =
    let next = sym c.next_poc.ensures.value ∙ c.in-Some.is in
    let counts = sym (c.is_eligible.ensures ∙ ap (is_eligible c.args.registry.now) c.monitor_at.ensures) ∙ c.if-is_eligible.true in
    sym (at_poc c.args.registry.now c.args.site.now c.args.pollutant c.loop-poc.after c.in-Some.poc c.next_poc.ensures.valid next counts)
    ∙ c.loop-poc.invariant.rest ∙ sym (lowest-is c.args.registry.now c.args.site.now c.args.pollutant c.next_poc.ensures.valid)

pub loop-poc-smaller : goal.loop-poc-smaller
loop-poc-smaller c =
    let next = sym c.next_poc.ensures.value ∙ c.in-Some.is in
    let one = fewer c.args.registry.now c.args.site.now c.args.pollutant c.loop-poc.after c.in-Some.poc c.next_poc.ensures.valid next in
    omega (arith, one)

pub loop-poc-preserved : goal.loop-poc-preserved
loop-poc-preserved c =
    let next = sym c.next_poc.ensures.value ∙ c.in-Some.is in
    let counts = sym (c.is_eligible.ensures ∙ ap (is_eligible c.args.registry.now) c.monitor_at.ensures) ∙ c.if-is_eligible.false in
    record {
      rest = sym (past_poc c.args.registry.now c.args.site.now c.args.pollutant c.loop-poc.after c.in-Some.poc c.next_poc.ensures.valid next counts) ∙ c.loop-poc.invariant.rest;
    }

pub returns : goal.returns
returns c =
    sym (no_poc c.args.registry.now c.args.site.now c.args.pollutant c.loop-poc.after (sym c.next_poc.ensures.value ∙ c.in_default.is))
    ∙ c.loop-poc.invariant.rest ∙ sym (lowest-is c.args.registry.now c.args.site.now c.args.pollutant c.next_poc.ensures.valid)
