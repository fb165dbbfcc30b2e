use Rattle.std.proofs.Common.{◌≡◌, ◌∙◌, ◌+◌, ◌<◌, ◌≤◌, ℕ, List, length, ap, sym, subst, rules, arith, ℤ, pos, of_z, to_z, w32, w64}
use Rattle.std.specs.Prelude.{filter_map, unsigned_abs}
use Rattle.std.specs.List.{range_with_len}
use Rattle.aq_base.specs.Calendar.{days_in_quarter, quarter_first}
use Rattle.aq_base.specs.declared.day.TheConstants.{LAST_DAY, QUARTERS}
use Rattle.aq_rules.specs.Kept.Summaries.{summary_of_quarter, KeepsPmQuarter}
use Rattle.aq_rules.specs.Lists.{total}
use Rattle.aq_particle_cells.specs.Pm25.DayValues.{summary_of}
use Rattle.aq_particle_cells.specs.Days.KeptDays.{Days}
use Rattle.aq_particle_cells.specs.Pm25.Pm25Cells.{quarter_of_days, IsCountedBy}
use Rattle.aq_particle_cells.specs.declared.pm25.day_values.ValueSummary.{ValueSummary}
use Rattle.aq_particle_cells.proofs.Pm25Lemmas.Pm25Exchange.{counted_on, net_on}
use Rattle.aq_particle_cells.proofs.Pm25Lemmas.Pm25Quarter.{counted_number, few-samples, few-values, quarter-is, quarter_of-keeps, total-few, total-is, values-range}
use Rattle.aq_particle_cells.proofs.DaysLemmas.Told.{sum-fits, told-number, told-sum}
use Rattle.aq_particle_cells.proofs.pm25.cells.Pm25Cells.quarter.Goals as goal

pub overflow_cast-creditable : goal.overflow_cast-creditable
overflow_cast-creditable c =
    let days = c.self.inside.days.days.entries in
    let site = c.args.site in
    let quarter = c.args.quarter in
    let ranged : quarter < QUARTERS = omega (arith, c.number.ensures.value, c.number.ensures.range) in
    let in_profile : quarter_first quarter + days_in_quarter quarter ≤ LAST_DAY + 1 = omega (arith, c.quarter_span.ensures.first, c.quarter_span.ensures.days, c.quarter_span.ensures.in_profile) in
    let bag : List ℤ = filter_map (counted_on days site) (range_with_len (quarter_first quarter) (days_in_quarter quarter)) in
    let two : c.samples-counted.result ≡ (total bag, length bag) = c.samples-counted.ensures bag (c.self.invariant.tallied.samples site quarter ranged) in
    let few : c.samples-counted.result.1 ≤ 92
    = omega (arith, ap (λ (p : ℤ × ℕ). p.1) two, few-samples c.args.registry.now days site quarter c.next_poc.ensures.valid in_profile) in
    search rules

pub overflow_cast-counted : goal.overflow_cast-counted
overflow_cast-counted c =
    let days = c.self.inside.days.days.entries in
    let site = c.args.site in
    let quarter = c.args.quarter in
    let ranged : quarter < QUARTERS = omega (arith, c.number.ensures.value, c.number.ensures.range) in
    let in_profile : quarter_first quarter + days_in_quarter quarter ≤ LAST_DAY + 1 = omega (arith, c.quarter_span.ensures.first, c.quarter_span.ensures.days, c.quarter_span.ensures.in_profile) in
    let bag : List ℤ = filter_map (counted_on days site) (range_with_len (quarter_first quarter) (days_in_quarter quarter)) in
    let two : c.samples-counted.result ≡ (total bag, length bag) = c.samples-counted.ensures bag (c.self.invariant.tallied.samples site quarter ranged) in
    let counted : IsCountedBy c.args.registry.now days site quarter = subst (λ (d : Days). IsCountedBy c.args.registry.now d site quarter) (sym c.self.view_is) c.requires in
    let n : ℕ = counted_number c.args.registry.now days site quarter in
    let total_is : total bag ≡ pos n = total-is c.args.registry.now days site quarter c.next_poc.ensures.valid in_profile counted in
    let few : n ≤ 92 = total-few c.args.registry.now days site quarter c.next_poc.ensures.valid in_profile counted n total_is in
    let number : to_z w64 (of_z w64 c.samples-counted.result.0) ≡ pos n = told-number c.samples-counted.result.0 n (ap (λ (p : ℤ × ℕ). p.0) two ∙ total_is) few in
    rw number (tt, search rules)

pub overflow_cast-values : goal.overflow_cast-values
overflow_cast-values c =
    let days = c.self.inside.days.days.entries in
    let site = c.args.site in
    let quarter = c.args.quarter in
    let ranged : quarter < QUARTERS = omega (arith, c.number.ensures.value, c.number.ensures.range) in
    let in_profile : quarter_first quarter + days_in_quarter quarter ≤ LAST_DAY + 1 = omega (arith, c.quarter_span.ensures.first, c.quarter_span.ensures.days, c.quarter_span.ensures.in_profile) in
    let values : List ℤ = filter_map (net_on days site) (range_with_len (quarter_first quarter) (days_in_quarter quarter)) in
    let told : c.values-values.result ≡ summary_of values = c.values-values.ensures values (c.self.invariant.tallied.values site quarter ranged) in
    let few : c.values-values.result.number ≤ 92
    = omega (arith, ap (λ (v : ValueSummary). v.number) told, few-values c.args.registry.now days site quarter c.next_poc.ensures.valid in_profile) in
    search rules

pub overflow_cast-values-2 : goal.overflow_cast-values-2
overflow_cast-values-2 c =
    let days = c.self.inside.days.days.entries in
    let site = c.args.site in
    let quarter = c.args.quarter in
    let ranged : quarter < QUARTERS = omega (arith, c.number.ensures.value, c.number.ensures.range) in
    let in_profile : quarter_first quarter + days_in_quarter quarter ≤ LAST_DAY + 1 = omega (arith, c.quarter_span.ensures.first, c.quarter_span.ensures.days, c.quarter_span.ensures.in_profile) in
    let values : List ℤ = filter_map (net_on days site) (range_with_len (quarter_first quarter) (days_in_quarter quarter)) in
    let told : c.values-values.result ≡ summary_of values = c.values-values.ensures values (c.self.invariant.tallied.values site quarter ranged) in
    sum-fits values (few-values c.args.registry.now days site quarter c.next_poc.ensures.valid in_profile)
    (values-range c.args.registry.now days site quarter c.next_poc.ensures.valid in_profile c.self.invariant.particles)
    c.values-values.result.sum (ap (λ (v : ValueSummary). v.sum) told)

pub new-requires : goal.new-requires
new-requires c =
    let days = c.self.inside.days.days.entries in
    let site = c.args.site in
    let quarter = c.args.quarter in
    let ranged : quarter < QUARTERS = omega (arith, c.number.ensures.value, c.number.ensures.range) in
    let in_profile : quarter_first quarter + days_in_quarter quarter ≤ LAST_DAY + 1 = omega (arith, c.quarter_span.ensures.first, c.quarter_span.ensures.days, c.quarter_span.ensures.in_profile) in
    let bag : List ℤ = filter_map (counted_on days site) (range_with_len (quarter_first quarter) (days_in_quarter quarter)) in
    let two : c.samples-counted.result ≡ (total bag, length bag) = c.samples-counted.ensures bag (c.self.invariant.tallied.samples site quarter ranged) in
    let values : List ℤ = filter_map (net_on days site) (range_with_len (quarter_first quarter) (days_in_quarter quarter)) in
    let told : c.values-values.result ≡ summary_of values = c.values-values.ensures values (c.self.invariant.tallied.values site quarter ranged) in
    let counted : IsCountedBy c.args.registry.now days site quarter = subst (λ (d : Days). IsCountedBy c.args.registry.now d site quarter) (sym c.self.view_is) c.requires in
    let n : ℕ = counted_number c.args.registry.now days site quarter in
    let total_is : total bag ≡ pos n = total-is c.args.registry.now days site quarter c.next_poc.ensures.valid in_profile counted in
    let few : n ≤ 92 = total-few c.args.registry.now days site quarter c.next_poc.ensures.valid in_profile counted n total_is in
    let number : to_z w64 (of_z w64 c.samples-counted.result.0) ≡ pos n = told-number c.samples-counted.result.0 n (ap (λ (p : ℤ × ℕ). p.0) two ∙ total_is) few in
    let few_values : length values ≤ 92 = few-values c.args.registry.now days site quarter c.next_poc.ensures.valid in_profile in
    let range = values-range c.args.registry.now days site quarter c.next_poc.ensures.valid in_profile c.self.invariant.particles in
    let sum = told-sum values few_values range c.values-values.result.sum (ap (λ (v : ValueSummary). v.sum) told) in
    let is =
    quarter-is c.args.registry.now days site quarter c.next_poc.ensures.valid in_profile counted c.scheduled_days.result c.samples-counted.result.1
    (unsigned_abs (to_z w64 (of_z w64 c.samples-counted.result.0))) c.values-values.result.number (to_z w32 (of_z w32 (to_z w64 (of_z w64 c.values-values.result.sum)))) c.values-values.result.least
    c.values-values.result.greatest c.scheduled_days.ensures (ap (λ (p : ℤ × ℕ). p.1) two) (ap (λ (z : ℤ). pos (unsigned_abs z)) number ∙ sym total_is) (ap (λ (v : ValueSummary). v.number) told) sum
    (ap (λ (v : ValueSummary). v.least) told) (ap (λ (v : ValueSummary). v.greatest) told)
    in
    subst KeepsPmQuarter (sym is) (quarter_of-keeps c.args.registry.now days site quarter c.next_poc.ensures.valid in_profile c.self.invariant.particles)

pub returns-clause-quarter : goal.returns-clause-quarter
returns-clause-quarter c =
    let days = c.self.inside.days.days.entries in
    let site = c.args.site in
    let quarter = c.args.quarter in
    let ranged : quarter < QUARTERS = omega (arith, c.number.ensures.value, c.number.ensures.range) in
    let in_profile : quarter_first quarter + days_in_quarter quarter ≤ LAST_DAY + 1 = omega (arith, c.quarter_span.ensures.first, c.quarter_span.ensures.days, c.quarter_span.ensures.in_profile) in
    let bag : List ℤ = filter_map (counted_on days site) (range_with_len (quarter_first quarter) (days_in_quarter quarter)) in
    let two : c.samples-counted.result ≡ (total bag, length bag) = c.samples-counted.ensures bag (c.self.invariant.tallied.samples site quarter ranged) in
    let values : List ℤ = filter_map (net_on days site) (range_with_len (quarter_first quarter) (days_in_quarter quarter)) in
    let told : c.values-values.result ≡ summary_of values = c.values-values.ensures values (c.self.invariant.tallied.values site quarter ranged) in
    let counted : IsCountedBy c.args.registry.now days site quarter = subst (λ (d : Days). IsCountedBy c.args.registry.now d site quarter) (sym c.self.view_is) c.requires in
    let n : ℕ = counted_number c.args.registry.now days site quarter in
    let total_is : total bag ≡ pos n = total-is c.args.registry.now days site quarter c.next_poc.ensures.valid in_profile counted in
    let few : n ≤ 92 = total-few c.args.registry.now days site quarter c.next_poc.ensures.valid in_profile counted n total_is in
    let number : to_z w64 (of_z w64 c.samples-counted.result.0) ≡ pos n = told-number c.samples-counted.result.0 n (ap (λ (p : ℤ × ℕ). p.0) two ∙ total_is) few in
    let few_values : length values ≤ 92 = few-values c.args.registry.now days site quarter c.next_poc.ensures.valid in_profile in
    let range = values-range c.args.registry.now days site quarter c.next_poc.ensures.valid in_profile c.self.invariant.particles in
    let sum = told-sum values few_values range c.values-values.result.sum (ap (λ (v : ValueSummary). v.sum) told) in
    let is =
    quarter-is c.args.registry.now days site quarter c.next_poc.ensures.valid in_profile counted c.scheduled_days.result c.samples-counted.result.1
    (unsigned_abs (to_z w64 (of_z w64 c.samples-counted.result.0))) c.values-values.result.number (to_z w32 (of_z w32 (to_z w64 (of_z w64 c.values-values.result.sum)))) c.values-values.result.least
    c.values-values.result.greatest c.scheduled_days.ensures (ap (λ (p : ℤ × ℕ). p.1) two) (ap (λ (z : ℤ). pos (unsigned_abs z)) number ∙ sym total_is) (ap (λ (v : ValueSummary). v.number) told) sum
    (ap (λ (v : ValueSummary). v.least) told) (ap (λ (v : ValueSummary). v.greatest) told)
    in
    c.new.ensures ∙ is ∙ ap (λ (d : Days). summary_of_quarter (quarter_of_days c.args.registry.now d site quarter)) c.self.view_is
