use Rattle.std.proofs.Common.{ℕ, ◌/◌, arith, sym, ap, ◌∙◌}
use Rattle.std.specs.Prelude.{option_map}
use Rattle.aq_base.specs.declared.monitor.Pollutant.TheVariants.{Ozone}
use Rattle.aq_rules.specs.Office.Designation.{primary_on}
use Rattle.aq_rules.specs.Ozone.SiteHour.{Cell, Sample}
use Rattle.aq_series.proofs.Pocs.{pocs-few, pocs-fewer}
use Rattle.aq_series.proofs.Stages.{hour-mean, hour-primary, of_poc, primary-found, room, walked-more, walked-past}
use Rattle.aq_series.proofs.hours.site_hour.Goals as goal

abbrev as_sample : ℕ → Cell → Sample
as_sample poc cell = record { poc = poc; cell = cell }

pub returns-then-eq-clause-value : goal.returns-then-eq-clause-value
returns-then-eq-clause-value g c =
    let next = sym c.next_poc.ensures.value ∙ c.in-Some.is in
    let sample = as_sample c.in-Some.poc c.in-Some-sample.cell in
    let given = ap (λ o. option_map (λ (cell : Cell). as_sample c.in-Some.poc cell) o) (sym c.sample-sample.ensures.value ∙ c.in-Some-sample.is) in
    let primary = sym (of_poc c.primary_on-primary.result c.in-Some.poc c.in-Some-sample.cell) ∙ sym c.eq.ensures ∙ c.if-eq.true in
    let day = c.new-day.ensures ∙ ap (λ n. n / 24) c.number.ensures.value in
    hour-primary c.args.registry.now c.args.shelf.now c.args.site c.args.hour c.primary_on-primary.result c.next_poc.ensures.valid c.count.ensures.shelf.rising
    (c.primary_on-primary.ensures ∙ ap (primary_on c.args.registry.now c.args.site Ozone) day) sample
    (primary-found c.args.registry.now c.args.shelf.now c.args.site c.args.hour c.primary_on-primary.result c.loop-poc.after c.in-Some.poc c.loop-poc.tally c.next_poc.ensures.valid next c.loop-poc.invariant.walked sample given primary)

pub returns-then-eq-clause-steps : goal.returns-then-eq-clause-steps
returns-then-eq-clause-steps g c =
    omega (arith, pocs-fewer c.args.site c.args.registry.now c.loop-poc.after c.in-Some.poc c.next_poc.result c.next_poc.ensures.valid c.next_poc.ensures.value c.in-Some.is, c.loop-poc.invariant.steps, c.sample-sample.ensures.steps, pocs-few c.args.site c.args.registry.now c.next_poc.ensures.valid)

pub with-tally-requires-clause-count : goal.with-tally-requires-clause-count
with-tally-requires-clause-count g c =
    room c.args.registry.now c.args.shelf.now c.args.site c.args.hour c.primary_on-primary.result c.loop-poc.after c.in-Some.poc c.loop-poc.tally c.next_poc.ensures.valid
    (sym c.next_poc.ensures.value ∙ c.in-Some.is) c.loop-poc.invariant.walked

pub loop-poc-smaller-else-eq : goal.loop-poc-smaller-else-eq
loop-poc-smaller-else-eq g c = omega (arith, pocs-fewer c.args.site c.args.registry.now c.loop-poc.after c.in-Some.poc c.next_poc.result c.next_poc.ensures.valid c.next_poc.ensures.value c.in-Some.is)

pub loop-poc-preserved-else-eq : goal.loop-poc-preserved-else-eq
loop-poc-preserved-else-eq g c =
    let next = sym c.next_poc.ensures.value ∙ c.in-Some.is in
    let given = ap (λ o. option_map (λ (cell : Cell). as_sample c.in-Some.poc cell) o) (sym c.sample-sample.ensures.value ∙ c.in-Some-sample.is) in
    let other = sym (of_poc c.primary_on-primary.result c.in-Some.poc c.in-Some-sample.cell) ∙ sym c.eq.ensures ∙ c.if-eq.false in
    record {
      values = c.with-tally.ensures.values;
      walked =
          walked-more c.args.registry.now c.args.shelf.now c.args.site c.args.hour c.primary_on-primary.result c.loop-poc.after c.in-Some.poc c.loop-poc.tally c.next_poc.ensures.valid next c.loop-poc.invariant.walked
          (as_sample c.in-Some.poc c.in-Some-sample.cell) given c.with-tally.result other (c.with-tally.ensures.tally c.loop-poc.invariant.walked.before c.in-Some.poc c.loop-poc.invariant.walked.tallied) c.with-tally.ensures.count;
      steps = omega (arith, pocs-fewer c.args.site c.args.registry.now c.loop-poc.after c.in-Some.poc c.next_poc.result c.next_poc.ensures.valid c.next_poc.ensures.value c.in-Some.is, c.loop-poc.invariant.steps, c.sample-sample.ensures.steps);
    }

pub loop-poc-smaller : goal.loop-poc-smaller
loop-poc-smaller g c = omega (arith, pocs-fewer c.args.site c.args.registry.now c.loop-poc.after c.in-Some.poc c.next_poc.result c.next_poc.ensures.valid c.next_poc.ensures.value c.in-Some.is)

pub loop-poc-preserved : goal.loop-poc-preserved
loop-poc-preserved g c =
    let next = sym c.next_poc.ensures.value ∙ c.in-Some.is in
    let given = ap (λ o. option_map (λ (cell : Cell). as_sample c.in-Some.poc cell) o) (sym c.sample-sample.ensures.value ∙ c.in_default-sample.is) in
    record {
      values = c.loop-poc.invariant.values;
      walked =
          walked-past c.args.registry.now c.args.shelf.now c.args.site c.args.hour c.primary_on-primary.result c.loop-poc.after c.in-Some.poc c.loop-poc.tally c.next_poc.ensures.valid next c.loop-poc.invariant.walked given;
      steps = omega (arith, pocs-fewer c.args.site c.args.registry.now c.loop-poc.after c.in-Some.poc c.next_poc.result c.next_poc.ensures.valid c.next_poc.ensures.value c.in-Some.is, c.loop-poc.invariant.steps, c.sample-sample.ensures.steps);
    }

pub returns-clause-value : goal.returns-clause-value
returns-clause-value g c =
    let walked = c.loop-poc.invariant.walked in
    let day = c.new-day.ensures ∙ ap (λ n. n / 24) c.number.ensures.value in
    c.mean.ensures.value walked.before walked.tallied
    ∙ hour-mean c.args.registry.now c.args.shelf.now c.args.site c.args.hour c.primary_on-primary.result c.next_poc.ensures.valid c.count.ensures.shelf.rising
    (c.primary_on-primary.ensures ∙ ap (primary_on c.args.registry.now c.args.site Ozone) day) c.loop-poc.after c.loop-poc.tally walked
    (sym c.next_poc.ensures.value ∙ c.in_default.is)

pub returns-clause-steps : goal.returns-clause-steps
returns-clause-steps g c = omega (arith, c.loop-poc.invariant.steps, pocs-few c.args.site c.args.registry.now c.next_poc.ensures.valid)
