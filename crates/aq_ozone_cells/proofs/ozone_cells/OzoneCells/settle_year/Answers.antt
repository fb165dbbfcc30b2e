use Rattle.std.proofs.Common.{◌&&◌, ◌∙◌, ◌+◌, ◌<◌, ◌≤◌, arith, cond, subst}
use Rattle.aq_base.specs.Calendar.{days_in_year, year_first}
use Rattle.aq_rules.specs.Office.Monitors.{is_same_site}
use Rattle.aq_ozone_cells.specs.KeptDays.{held_at}
use Rattle.aq_ozone_cells.specs.OzoneCells.{day_from, is_among}
use Rattle.aq_ozone_cells.proofs.HeldYear.{settled-held}
use Rattle.aq_ozone_cells.proofs.SiteNumbers.{among}
use Rattle.aq_ozone_cells.proofs.ozone_cells.OzoneCells.settle_year.Goals as goal

pub returns-clause-days : goal.returns-clause-days
returns-clause-days g c other number =
    c.in_ok-settle_days.ensures.settled.days other number
    ∙ (λ i. cond (is_same_site c.args.site other && is_among (c.year_span-first.ensures.first i) (c.year_span-first.ensures.days i) number)
    (day_from c.args.registry.now c.args.self.now c.args.site number) (held_at c.args.self.now other number))

pub returns-clause-held : goal.returns-clause-held
returns-clause-held g c =
    settled-held c.args.registry.now c.args.self.now c.settle_days.new.self c.args.site c.args.year (returns-clause-days g c)

pub returns-clause-no_step : goal.returns-clause-no_step
returns-clause-no_step g c already =
    c.in_ok-settle_days.ensures.no_step
    (λ day low high.
    let from : year_first c.args.year ≤ day = subst (λ n. n ≤ day) c.year_span-first.ensures.first low in
    let to : day < year_first c.args.year + days_in_year c.args.year = omega (arith, high, c.year_span-first.ensures.first, c.year_span-first.ensures.days) in
    already day (omega (arith, high, c.year_span-first.ensures.in_profile)) (among (year_first c.args.year) (days_in_year c.args.year) day from to))

pub returns-in_err-settle_days-clause-no_step : goal.returns-in_err-settle_days-clause-no_step
returns-in_err-settle_days-clause-no_step g c already =
    c.in_err-settle_days.ensures.no_step
    (λ day low high.
    let from : year_first c.args.year ≤ day = subst (λ n. n ≤ day) c.year_span-first.ensures.first low in
    let to : day < year_first c.args.year + days_in_year c.args.year = omega (arith, high, c.year_span-first.ensures.first, c.year_span-first.ensures.days) in
    already day (omega (arith, high, c.year_span-first.ensures.in_profile)) (among (year_first c.args.year) (days_in_year c.args.year) day from to))
