use Rattle.std.proofs.Common.{◌≡◌, ◌≢◌, ◌∙◌, ◌-◌, ◌≤◌, ℕ, List, ap, sym, rules, tests, arith}
use Rattle.std.specs.Prelude.{Some, filter_map}
use Rattle.std.specs.List.{range_with_len}
use Rattle.aq_base.specs.declared.day.TheConstants.{LAST_DAY}
use Rattle.aq_particle_cells.specs.Pm10.Pm10Cells.{net_at, stratum_from}
use Rattle.aq_particle_cells.specs.Pm10.Strata.{stratum_of_samples}
use Rattle.aq_particle_cells.proofs.Pm10Lemmas.StratumSteps.{ends-in_profile, no-days, stratum-none, stratum-some}
use Rattle.aq_particle_cells.proofs.pm10.strata.stratum_from.Goals as goal

pub stratum_end-end-requires : goal.stratum_end-end-requires
stratum_end-end-requires c =
    let same : c.stratum_first.result ≡ c.args.first = search rules in
    c.stratum_first.ensures ∙ ap (λ k. Some k) same

pub returns-then-ne-clause-value : goal.returns-then-ne-clause-value
unfolding stratum_from
returns-then-ne-clause-value c =
    let apart : c.stratum_first.result ≢ c.args.first = λ same. search (rules, tests) in
    let within : c.args.first ≤ LAST_DAY = omega (arith, c.number.ensures.value, c.number.ensures.range) in
    sym (ap (λ (days : List ℕ). stratum_of_samples (filter_map (net_at c.args.days.now.days.entries c.args.site) days))
    (no-days c.args.registry.now c.args.site c.args.first within (ends-in_profile c.args.first within) c.stratum_first.result c.stratum_first.ensures apart))

pub returns-then-samples-eq0-clause-value : goal.returns-then-samples-eq0-clause-value
unfolding stratum_from
returns-then-samples-eq0-clause-value c =
    let net = net_at c.args.days.now.days.entries c.args.site in
    let days = c.stratum_end-end.ensures.days ∙ ap (λ n. range_with_len c.args.first (c.stratum_end-end.result - n)) (sym c.number-2.ensures.value) in
    let none = sym (ap (λ (p : ℕ × ℕ). p.1) c.counts_of-counts.ensures.counts) ∙ c.if-samples-eq0.true in
    stratum-none (filter_map net (range_with_len c.args.first (c.stratum_end-end.result - c.number-2.result))) none
    ∙ sym (ap (λ (l : List ℕ). stratum_of_samples (filter_map net l)) days)

pub returns-clause-value : goal.returns-clause-value
unfolding stratum_from
returns-clause-value c =
    let net = net_at c.args.days.now.days.entries c.args.site in
    let days = c.stratum_end-end.ensures.days ∙ ap (λ n. range_with_len c.args.first (c.stratum_end-end.result - n)) (sym c.number-2.ensures.value) in
    let values = filter_map net (range_with_len c.args.first (c.stratum_end-end.result - c.number-2.result)) in
    ap (λ (p : ℕ × ℕ). Some p) c.counts_of-counts.ensures.counts
    ∙ stratum-some values (λ none. c.if-samples-eq0.false (ap (λ (p : ℕ × ℕ). p.1) c.counts_of-counts.ensures.counts ∙ none))
    ∙ sym (ap (λ (l : List ℕ). stratum_of_samples (filter_map net l)) days)

pub returns-clause-range : goal.returns-clause-range
returns-clause-range c =
    let few = c.counts_of-counts.ensures.few in
    let less = c.counts_of-counts.ensures.less in
    let some = c.if-samples-eq0.false in (omega (arith, some), few, omega (arith, few, less))
