use Rattle.std.proofs.Common.{◌≡◌, ◌∙◌, ◌+◌, ◌&&◌, ℕ, cond, refl, sym, arith}
use Rattle.std.specs.Prelude.{◌==◌}
use Rattle.aq_base.specs.Site.{Site}
use Rattle.aq_rules.specs.Office.Monitors.{is_same_site}
use Rattle.aq_particle_cells.specs.Days.KeptDays.{cell_at, sample_at}
use Rattle.aq_particle_cells.specs.Pm10.Pm10Cells.{scheduled_sample}
use Rattle.aq_particle_cells.proofs.Pm10Lemmas.Pm10Exchange.{scheduled-same}
use Rattle.aq_particle_cells.proofs.Pm10Lemmas.Pm10Steps.{sample-already}
use Rattle.aq_particle_cells.proofs.DaysLemmas.TimeLemmas.{is_among, none-yet, one-more, put-same}
use Rattle.aq_particle_cells.proofs.pm10.days.settle_quarter.Goals as goal

pub loop-i-init : goal.loop-i-init
loop-i-init g c =
    let days = c.args.days.now.days.entries in
    record {
      tallies = c.requires.tallies;
      cells = λ other number. refl;
      samples = λ other number.
          none-yet (is_same_site c.args.site other) c.quarter_span-first.result.0 number (scheduled_sample c.args.registry.now days c.args.site number) (sample_at days other number);
      steps = omega arith;
      no_step = λ already. omega arith;
    }

pub loop-i-preserved : goal.loop-i-preserved
loop-i-preserved g c =
    let records = c.args.registry.now in
    let days = c.args.days.now.days.entries in
    let now = c.loop-i.days.days.entries in
    let after = c.change_day.new.days.days.entries in
    let site = c.args.site in
    let day = c.new-day.result in
    let first = c.quarter_span-first.result.0 in
    let at : first + c.loop-i.i ≡ day = omega (arith, c.new-day.ensures, c.number.ensures.value, c.from.ensures) in
    let cells : (other : Site) (number : ℕ) → cell_at after other number ≡ cell_at days other number
    = λ other number. c.in_ok-change_day.ensures.cells other number ∙ sym (put-same (cell_at now) site day c.cell-cell.result c.cell-cell.ensures other number) ∙ c.loop-i.invariant.cells other number in
    record {
      tallies = c.in_ok-change_day.ensures.tallies;
      cells = cells;
      samples = λ other number.
          c.in_ok-change_day.ensures.samples other number
          ∙ (λ i. cond (is_same_site site other && (day == number)) (scheduled-same records after days site day (cells site day) i) (c.loop-i.invariant.samples other number i))
          ∙ one-more (is_same_site site other) first c.loop-i.i number day (scheduled_sample records days site) (sample_at days other number) at;
      steps = omega (arith, c.loop-i.invariant.steps, c.in_ok-change_day.ensures.steps);
      no_step = λ already.
          let span = c.quarter_span-first.ensures in
          let still = sample-already records days now site first c.quarter_span-first.result.1 c.loop-i.i c.args.quarter day
          span.first span.days span.in_profile at (omega (arith, c.loop-i-test.true, c.loop-i.auto.i-end)) c.loop-i.invariant.cells c.loop-i.invariant.samples already in
          let next = c.in_ok-change_day.ensures.no_step (sym c.cell-cell.ensures) still in
          omega (arith, c.loop-i.invariant.no_step already, next);
    }

pub returns-clause-samples : goal.returns-clause-samples
returns-clause-samples g c other number =
    let days = c.args.days.now.days.entries in
    let all : c.loop-i.i ≡ c.quarter_span-first.result.1 = omega (arith, c.loop-i-test.false, c.loop-i.auto.i-end) in
    c.loop-i.invariant.samples other number
    ∙ (λ i. cond (is_same_site c.args.site other && is_among (c.quarter_span-first.ensures.first i) ((all ∙ c.quarter_span-first.ensures.days) i) number)
    (scheduled_sample c.args.registry.now days c.args.site number) (sample_at days other number))

pub returns-clause-steps : goal.returns-clause-steps
returns-clause-steps g c = omega (arith, c.loop-i.invariant.steps, c.loop-i.auto.i-end, c.quarter_span-first.ensures.days_range.1)

pub returns-in_err-change_day-clause-no_step : goal.returns-in_err-change_day-clause-no_step
returns-in_err-change_day-clause-no_step g c already =
    let span = c.quarter_span-first.ensures in
    let at : c.quarter_span-first.result.0 + c.loop-i.i ≡ c.new-day.result = omega (arith, c.new-day.ensures, c.number.ensures.value, c.from.ensures) in
    let still = sample-already c.args.registry.now c.args.days.now.days.entries c.loop-i.days.days.entries c.args.site c.quarter_span-first.result.0 c.quarter_span-first.result.1 c.loop-i.i c.args.quarter c.new-day.result
    span.first span.days span.in_profile at (omega (arith, c.loop-i-test.true, c.loop-i.auto.i-end)) c.loop-i.invariant.cells c.loop-i.invariant.samples already in
    let next = c.in_err-change_day.ensures.no_step (sym c.cell-cell.ensures) still in
    omega (arith, c.loop-i.invariant.no_step already, next)
