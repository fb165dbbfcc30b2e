use Rattle.std.proofs.Common.{◌≡◌, ◌∙◌, ◌+◌, ap, subst, sym, arith, inl, inr, ◌<◌, ◌≤◌}
use Rattle.aq_base.specs.Calendar.{days_in_quarter, quarter_first, quarter_of}
use Rattle.aq_base.specs.declared.day.TheConstants.{LAST_DAY}
use Rattle.aq_rules.specs.Particles.Strata.{quarter_end}
use Rattle.aq_particle_cells.proofs.DaysLemmas.DayLemmas.{in-quarter}
use Rattle.aq_particle_cells.proofs.pm10.strata.latest_end.Goals as goal

pub returns-then-longest-closes-clause-six : goal.returns-then-longest-closes-clause-six
returns-then-longest-closes-clause-six c = omega (arith, c.number-longest.ensures.value)

pub returns-then-longest-closes-clause-within : goal.returns-then-longest-closes-clause-within
returns-then-longest-closes-clause-within c =
    let ends : c.quarter_span-start.result.0 + c.quarter_span-start.result.1 ≡ quarter_end (quarter_of c.args.first)
    = (λ i. c.quarter_span-start.ensures.first i + c.quarter_span-start.ensures.days i) ∙ ap (λ q. quarter_first q + days_in_quarter q) c.quarter_of.ensures in
    subst (λ n. c.number-longest.result + 6 ≤ n) ends (omega (arith, c.number.ensures.value, c.from.ensures, c.if-longest-closes.true))

pub returns-then-longest-closes-clause-either : goal.returns-then-longest-closes-clause-either
returns-then-longest-closes-clause-either c = inl (omega (arith, c.number-longest.ensures.value))

pub returns-else-longest-closes-clause-some : goal.returns-else-longest-closes-clause-some
returns-else-longest-closes-clause-some c =
    let ends : c.quarter_span-start.result.0 + c.quarter_span-start.result.1 ≡ quarter_end (quarter_of c.args.first)
    = (λ i. c.quarter_span-start.ensures.first i + c.quarter_span-start.ensures.days i) ∙ ap (λ q. quarter_first q + days_in_quarter q) c.quarter_of.ensures in
    let within : c.args.first ≤ LAST_DAY = omega (arith, c.number-longest.ensures.value, c.number-longest.ensures.range) in
    let high : c.args.first < c.quarter_span-start.result.0 + c.quarter_span-start.result.1 = subst (λ n. c.args.first < n) (sym ends) (in-quarter c.args.first within).1 in
    omega (arith, high, c.number.ensures.value, c.from.ensures)

pub returns-else-longest-closes-clause-within : goal.returns-else-longest-closes-clause-within
returns-else-longest-closes-clause-within c =
    let ends : c.quarter_span-start.result.0 + c.quarter_span-start.result.1 ≡ quarter_end (quarter_of c.args.first)
    = (λ i. c.quarter_span-start.ensures.first i + c.quarter_span-start.ensures.days i) ∙ ap (λ q. quarter_first q + days_in_quarter q) c.quarter_of.ensures in
    subst (λ n. c.number.result + c.from.result ≤ n) ends (omega (arith, c.number.ensures.value, c.from.ensures))

pub returns-else-longest-closes-clause-either : goal.returns-else-longest-closes-clause-either
returns-else-longest-closes-clause-either c =
    let ends : c.quarter_span-start.result.0 + c.quarter_span-start.result.1 ≡ quarter_end (quarter_of c.args.first)
    = (λ i. c.quarter_span-start.ensures.first i + c.quarter_span-start.ensures.days i) ∙ ap (λ q. quarter_first q + days_in_quarter q) c.quarter_of.ensures in
    let sum : c.number.result + c.from.result ≡ c.quarter_span-start.result.0 + c.quarter_span-start.result.1 = omega (arith, c.number.ensures.value, c.from.ensures) in
    inr (sum ∙ ends)
