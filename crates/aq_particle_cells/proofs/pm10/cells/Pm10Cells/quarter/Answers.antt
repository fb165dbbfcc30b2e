use Rattle.std.proofs.Common.{◌≡◌, ◌∙◌, ◌+◌, ◌<◌, ◌≤◌, ℕ, List, length, ap, sym, subst, rules, arith, ℤ, pos, of_z, to_z, w64}
use Rattle.std.specs.Prelude.{filter_map, unsigned_abs}
use Rattle.std.specs.List.{range_with_len}
use Rattle.aq_base.specs.Calendar.{days_in_quarter, quarter_first}
use Rattle.aq_base.specs.declared.day.TheConstants.{LAST_DAY, QUARTERS}
use Rattle.aq_rules.specs.Kept.Summaries.{KeepsPm10Quarter}
use Rattle.aq_rules.specs.Lists.{total}
use Rattle.aq_particle_cells.specs.Pm10.Pm10Cells.{pm10_quarter_of_days, IsCountedBy, Pm10Kept}
use Rattle.aq_particle_cells.specs.Pm10.Strata.{stratum_at}
use Rattle.aq_particle_cells.specs.Pm10.StrataTotals.{strata_summary}
use Rattle.aq_particle_cells.specs.declared.pm10.strata_totals.StrataSummary.{StrataSummary}
use Rattle.aq_particle_cells.proofs.Pm10Lemmas.Pm10Exchange.{captured_on}
use Rattle.aq_particle_cells.proofs.Pm10Lemmas.Pm10Quarter.{exceeded_number, few-samples, quarter-is, quarter_of-keeps, total-few, total-is}
use Rattle.aq_particle_cells.proofs.DaysLemmas.Told.{told-number}
use Rattle.aq_particle_cells.proofs.pm10.cells.Pm10Cells.quarter.Goals as goal

pub overflow_cast-captured : goal.overflow_cast-captured
overflow_cast-captured c =
    let kept : Pm10Kept = record { days = c.self.inside.days.days.entries; strata = c.self.inside.strata.strata.entries } in
    let records = c.args.registry.now in
    let site = c.args.site in
    let quarter = c.args.quarter in
    let ranged : quarter < QUARTERS = omega (arith, c.number.ensures.value, c.number.ensures.range) in
    let span : List ℕ = range_with_len (quarter_first quarter) (days_in_quarter quarter) in
    let ends = c.quarter_span-calendar_days in
    let in_profile : quarter_first quarter + days_in_quarter quarter ≤ LAST_DAY + 1 = omega (arith, ends.ensures.first, ends.ensures.days, ends.ensures.in_profile) in
    let bag : List ℤ = filter_map (captured_on kept.days site) span in
    let two : c.samples-exceedances.result ≡ (total bag, length bag) = c.samples-exceedances.ensures bag (c.self.invariant.tallied.samples site quarter ranged) in
    let low : c.samples-exceedances.result.1 ≤ 92 = omega (arith, ap (λ (p : ℤ × ℕ). p.1) two, few-samples records kept site quarter in_profile) in
    search rules

pub overflow_cast-strata : goal.overflow_cast-strata
overflow_cast-strata c =
    let kept : Pm10Kept = record { days = c.self.inside.days.days.entries; strata = c.self.inside.strata.strata.entries } in
    let records = c.args.registry.now in
    let site = c.args.site in
    let quarter = c.args.quarter in
    let ranged : quarter < QUARTERS = omega (arith, c.number.ensures.value, c.number.ensures.range) in
    let span : List ℕ = range_with_len (quarter_first quarter) (days_in_quarter quarter) in
    let ends = c.quarter_span-calendar_days in
    let in_profile : quarter_first quarter + days_in_quarter quarter ≤ LAST_DAY + 1 = omega (arith, ends.ensures.first, ends.ensures.days, ends.ensures.in_profile) in
    let bag : List ℤ = filter_map (captured_on kept.days site) span in
    let two : c.samples-exceedances.result ≡ (total bag, length bag) = c.samples-exceedances.ensures bag (c.self.invariant.tallied.samples site quarter ranged) in
    let counted : IsCountedBy records kept site quarter = subst (λ (k : Pm10Kept). IsCountedBy records k site quarter) (sym c.self.view_is) c.requires in
    let n : ℕ = exceeded_number records kept.days site quarter in
    let total_is : total bag ≡ pos n = total-is records kept site quarter in_profile counted in
    let few : n ≤ 92 = total-few records kept site quarter in_profile counted n total_is in
    let number : to_z w64 (of_z w64 c.samples-exceedances.result.0) ≡ pos n = told-number c.samples-exceedances.result.0 n (ap (λ (p : ℤ × ℕ). p.0) two ∙ total_is) few in
    let strata : List (ℕ × ℕ) = filter_map (stratum_at kept.strata site) span in
    let told : c.strata-strata.result ≡ strata_summary strata = c.strata-strata.ensures strata (c.self.invariant.tallied.strata_are site quarter ranged) in
    let is =
    quarter-is records kept site quarter in_profile counted ends.result.1 c.scheduled_days.result c.samples-exceedances.result.1 c.strata-strata.result.strata c.strata-strata.result.samples
    c.strata-strata.result.exceedances (unsigned_abs (to_z w64 (of_z w64 c.samples-exceedances.result.0))) c.strata-strata.result.sixtieths ends.ensures.days c.scheduled_days.ensures
    (ap (λ (p : ℤ × ℕ). p.1) two) (ap (λ (t : StrataSummary). t.strata) told) (ap (λ (t : StrataSummary). t.samples) told) (ap (λ (t : StrataSummary). t.exceedances) told)
    (ap (λ (z : ℤ). pos (unsigned_abs z)) number ∙ sym total_is) (ap (λ (t : StrataSummary). t.sixtieths) told)
    in
    let facts = subst KeepsPm10Quarter (sym is) (quarter_of-keeps records kept site quarter in_profile) in
    let low : c.strata-strata.result.strata ≤ 92 = (let s = facts.strata in let a = facts.samples in let m = facts.at_most in let e = facts.exceedances in let t = facts.sixtieths in omega (arith, s, a, m, e, t)) in
    search rules

pub overflow_cast-strata-2 : goal.overflow_cast-strata-2
overflow_cast-strata-2 c =
    let kept : Pm10Kept = record { days = c.self.inside.days.days.entries; strata = c.self.inside.strata.strata.entries } in
    let records = c.args.registry.now in
    let site = c.args.site in
    let quarter = c.args.quarter in
    let ranged : quarter < QUARTERS = omega (arith, c.number.ensures.value, c.number.ensures.range) in
    let span : List ℕ = range_with_len (quarter_first quarter) (days_in_quarter quarter) in
    let ends = c.quarter_span-calendar_days in
    let in_profile : quarter_first quarter + days_in_quarter quarter ≤ LAST_DAY + 1 = omega (arith, ends.ensures.first, ends.ensures.days, ends.ensures.in_profile) in
    let bag : List ℤ = filter_map (captured_on kept.days site) span in
    let two : c.samples-exceedances.result ≡ (total bag, length bag) = c.samples-exceedances.ensures bag (c.self.invariant.tallied.samples site quarter ranged) in
    let counted : IsCountedBy records kept site quarter = subst (λ (k : Pm10Kept). IsCountedBy records k site quarter) (sym c.self.view_is) c.requires in
    let n : ℕ = exceeded_number records kept.days site quarter in
    let total_is : total bag ≡ pos n = total-is records kept site quarter in_profile counted in
    let few : n ≤ 92 = total-few records kept site quarter in_profile counted n total_is in
    let number : to_z w64 (of_z w64 c.samples-exceedances.result.0) ≡ pos n = told-number c.samples-exceedances.result.0 n (ap (λ (p : ℤ × ℕ). p.0) two ∙ total_is) few in
    let strata : List (ℕ × ℕ) = filter_map (stratum_at kept.strata site) span in
    let told : c.strata-strata.result ≡ strata_summary strata = c.strata-strata.ensures strata (c.self.invariant.tallied.strata_are site quarter ranged) in
    let is =
    quarter-is records kept site quarter in_profile counted ends.result.1 c.scheduled_days.result c.samples-exceedances.result.1 c.strata-strata.result.strata c.strata-strata.result.samples
    c.strata-strata.result.exceedances (unsigned_abs (to_z w64 (of_z w64 c.samples-exceedances.result.0))) c.strata-strata.result.sixtieths ends.ensures.days c.scheduled_days.ensures
    (ap (λ (p : ℤ × ℕ). p.1) two) (ap (λ (t : StrataSummary). t.strata) told) (ap (λ (t : StrataSummary). t.samples) told) (ap (λ (t : StrataSummary). t.exceedances) told)
    (ap (λ (z : ℤ). pos (unsigned_abs z)) number ∙ sym total_is) (ap (λ (t : StrataSummary). t.sixtieths) told)
    in
    let facts = subst KeepsPm10Quarter (sym is) (quarter_of-keeps records kept site quarter in_profile) in
    let low : c.strata-strata.result.samples ≤ 92 = (let s = facts.strata in let a = facts.samples in let m = facts.at_most in let e = facts.exceedances in let t = facts.sixtieths in omega (arith, s, a, m, e, t)) in
    search rules

pub overflow_cast-strata-3 : goal.overflow_cast-strata-3
overflow_cast-strata-3 c =
    let kept : Pm10Kept = record { days = c.self.inside.days.days.entries; strata = c.self.inside.strata.strata.entries } in
    let records = c.args.registry.now in
    let site = c.args.site in
    let quarter = c.args.quarter in
    let ranged : quarter < QUARTERS = omega (arith, c.number.ensures.value, c.number.ensures.range) in
    let span : List ℕ = range_with_len (quarter_first quarter) (days_in_quarter quarter) in
    let ends = c.quarter_span-calendar_days in
    let in_profile : quarter_first quarter + days_in_quarter quarter ≤ LAST_DAY + 1 = omega (arith, ends.ensures.first, ends.ensures.days, ends.ensures.in_profile) in
    let bag : List ℤ = filter_map (captured_on kept.days site) span in
    let two : c.samples-exceedances.result ≡ (total bag, length bag) = c.samples-exceedances.ensures bag (c.self.invariant.tallied.samples site quarter ranged) in
    let counted : IsCountedBy records kept site quarter = subst (λ (k : Pm10Kept). IsCountedBy records k site quarter) (sym c.self.view_is) c.requires in
    let n : ℕ = exceeded_number records kept.days site quarter in
    let total_is : total bag ≡ pos n = total-is records kept site quarter in_profile counted in
    let few : n ≤ 92 = total-few records kept site quarter in_profile counted n total_is in
    let number : to_z w64 (of_z w64 c.samples-exceedances.result.0) ≡ pos n = told-number c.samples-exceedances.result.0 n (ap (λ (p : ℤ × ℕ). p.0) two ∙ total_is) few in
    let strata : List (ℕ × ℕ) = filter_map (stratum_at kept.strata site) span in
    let told : c.strata-strata.result ≡ strata_summary strata = c.strata-strata.ensures strata (c.self.invariant.tallied.strata_are site quarter ranged) in
    let is =
    quarter-is records kept site quarter in_profile counted ends.result.1 c.scheduled_days.result c.samples-exceedances.result.1 c.strata-strata.result.strata c.strata-strata.result.samples
    c.strata-strata.result.exceedances (unsigned_abs (to_z w64 (of_z w64 c.samples-exceedances.result.0))) c.strata-strata.result.sixtieths ends.ensures.days c.scheduled_days.ensures
    (ap (λ (p : ℤ × ℕ). p.1) two) (ap (λ (t : StrataSummary). t.strata) told) (ap (λ (t : StrataSummary). t.samples) told) (ap (λ (t : StrataSummary). t.exceedances) told)
    (ap (λ (z : ℤ). pos (unsigned_abs z)) number ∙ sym total_is) (ap (λ (t : StrataSummary). t.sixtieths) told)
    in
    let facts = subst KeepsPm10Quarter (sym is) (quarter_of-keeps records kept site quarter in_profile) in
    let low : c.strata-strata.result.exceedances ≤ 92 = (let s = facts.strata in let a = facts.samples in let m = facts.at_most in let e = facts.exceedances in let t = facts.sixtieths in omega (arith, s, a, m, e, t)) in
    search rules

pub overflow_cast-exceedances : goal.overflow_cast-exceedances
overflow_cast-exceedances c =
    let kept : Pm10Kept = record { days = c.self.inside.days.days.entries; strata = c.self.inside.strata.strata.entries } in
    let records = c.args.registry.now in
    let site = c.args.site in
    let quarter = c.args.quarter in
    let ranged : quarter < QUARTERS = omega (arith, c.number.ensures.value, c.number.ensures.range) in
    let span : List ℕ = range_with_len (quarter_first quarter) (days_in_quarter quarter) in
    let ends = c.quarter_span-calendar_days in
    let in_profile : quarter_first quarter + days_in_quarter quarter ≤ LAST_DAY + 1 = omega (arith, ends.ensures.first, ends.ensures.days, ends.ensures.in_profile) in
    let bag : List ℤ = filter_map (captured_on kept.days site) span in
    let two : c.samples-exceedances.result ≡ (total bag, length bag) = c.samples-exceedances.ensures bag (c.self.invariant.tallied.samples site quarter ranged) in
    let counted : IsCountedBy records kept site quarter = subst (λ (k : Pm10Kept). IsCountedBy records k site quarter) (sym c.self.view_is) c.requires in
    let n : ℕ = exceeded_number records kept.days site quarter in
    let total_is : total bag ≡ pos n = total-is records kept site quarter in_profile counted in
    let few : n ≤ 92 = total-few records kept site quarter in_profile counted n total_is in
    let number : to_z w64 (of_z w64 c.samples-exceedances.result.0) ≡ pos n = told-number c.samples-exceedances.result.0 n (ap (λ (p : ℤ × ℕ). p.0) two ∙ total_is) few in
    rw number (tt, search rules)

pub overflow_cast-strata-4 : goal.overflow_cast-strata-4
overflow_cast-strata-4 c =
    let kept : Pm10Kept = record { days = c.self.inside.days.days.entries; strata = c.self.inside.strata.strata.entries } in
    let records = c.args.registry.now in
    let site = c.args.site in
    let quarter = c.args.quarter in
    let ranged : quarter < QUARTERS = omega (arith, c.number.ensures.value, c.number.ensures.range) in
    let span : List ℕ = range_with_len (quarter_first quarter) (days_in_quarter quarter) in
    let ends = c.quarter_span-calendar_days in
    let in_profile : quarter_first quarter + days_in_quarter quarter ≤ LAST_DAY + 1 = omega (arith, ends.ensures.first, ends.ensures.days, ends.ensures.in_profile) in
    let bag : List ℤ = filter_map (captured_on kept.days site) span in
    let two : c.samples-exceedances.result ≡ (total bag, length bag) = c.samples-exceedances.ensures bag (c.self.invariant.tallied.samples site quarter ranged) in
    let counted : IsCountedBy records kept site quarter = subst (λ (k : Pm10Kept). IsCountedBy records k site quarter) (sym c.self.view_is) c.requires in
    let n : ℕ = exceeded_number records kept.days site quarter in
    let total_is : total bag ≡ pos n = total-is records kept site quarter in_profile counted in
    let few : n ≤ 92 = total-few records kept site quarter in_profile counted n total_is in
    let number : to_z w64 (of_z w64 c.samples-exceedances.result.0) ≡ pos n = told-number c.samples-exceedances.result.0 n (ap (λ (p : ℤ × ℕ). p.0) two ∙ total_is) few in
    let strata : List (ℕ × ℕ) = filter_map (stratum_at kept.strata site) span in
    let told : c.strata-strata.result ≡ strata_summary strata = c.strata-strata.ensures strata (c.self.invariant.tallied.strata_are site quarter ranged) in
    let is =
    quarter-is records kept site quarter in_profile counted ends.result.1 c.scheduled_days.result c.samples-exceedances.result.1 c.strata-strata.result.strata c.strata-strata.result.samples
    c.strata-strata.result.exceedances (unsigned_abs (to_z w64 (of_z w64 c.samples-exceedances.result.0))) c.strata-strata.result.sixtieths ends.ensures.days c.scheduled_days.ensures
    (ap (λ (p : ℤ × ℕ). p.1) two) (ap (λ (t : StrataSummary). t.strata) told) (ap (λ (t : StrataSummary). t.samples) told) (ap (λ (t : StrataSummary). t.exceedances) told)
    (ap (λ (z : ℤ). pos (unsigned_abs z)) number ∙ sym total_is) (ap (λ (t : StrataSummary). t.sixtieths) told)
    in
    let facts = subst KeepsPm10Quarter (sym is) (quarter_of-keeps records kept site quarter in_profile) in
    let low : c.strata-strata.result.sixtieths ≤ 5520 = (let s = facts.strata in let a = facts.samples in let m = facts.at_most in let e = facts.exceedances in let t = facts.sixtieths in omega (arith, s, a, m, e, t)) in
    search rules

pub new-requires : goal.new-requires
new-requires c =
    let kept : Pm10Kept = record { days = c.self.inside.days.days.entries; strata = c.self.inside.strata.strata.entries } in
    let records = c.args.registry.now in
    let site = c.args.site in
    let quarter = c.args.quarter in
    let ranged : quarter < QUARTERS = omega (arith, c.number.ensures.value, c.number.ensures.range) in
    let span : List ℕ = range_with_len (quarter_first quarter) (days_in_quarter quarter) in
    let ends = c.quarter_span-calendar_days in
    let in_profile : quarter_first quarter + days_in_quarter quarter ≤ LAST_DAY + 1 = omega (arith, ends.ensures.first, ends.ensures.days, ends.ensures.in_profile) in
    let bag : List ℤ = filter_map (captured_on kept.days site) span in
    let two : c.samples-exceedances.result ≡ (total bag, length bag) = c.samples-exceedances.ensures bag (c.self.invariant.tallied.samples site quarter ranged) in
    let counted : IsCountedBy records kept site quarter = subst (λ (k : Pm10Kept). IsCountedBy records k site quarter) (sym c.self.view_is) c.requires in
    let n : ℕ = exceeded_number records kept.days site quarter in
    let total_is : total bag ≡ pos n = total-is records kept site quarter in_profile counted in
    let few : n ≤ 92 = total-few records kept site quarter in_profile counted n total_is in
    let number : to_z w64 (of_z w64 c.samples-exceedances.result.0) ≡ pos n = told-number c.samples-exceedances.result.0 n (ap (λ (p : ℤ × ℕ). p.0) two ∙ total_is) few in
    let strata : List (ℕ × ℕ) = filter_map (stratum_at kept.strata site) span in
    let told : c.strata-strata.result ≡ strata_summary strata = c.strata-strata.ensures strata (c.self.invariant.tallied.strata_are site quarter ranged) in
    let is =
    quarter-is records kept site quarter in_profile counted ends.result.1 c.scheduled_days.result c.samples-exceedances.result.1 c.strata-strata.result.strata c.strata-strata.result.samples
    c.strata-strata.result.exceedances (unsigned_abs (to_z w64 (of_z w64 c.samples-exceedances.result.0))) c.strata-strata.result.sixtieths ends.ensures.days c.scheduled_days.ensures
    (ap (λ (p : ℤ × ℕ). p.1) two) (ap (λ (t : StrataSummary). t.strata) told) (ap (λ (t : StrataSummary). t.samples) told) (ap (λ (t : StrataSummary). t.exceedances) told)
    (ap (λ (z : ℤ). pos (unsigned_abs z)) number ∙ sym total_is) (ap (λ (t : StrataSummary). t.sixtieths) told)
    in
    let facts = subst KeepsPm10Quarter (sym is) (quarter_of-keeps records kept site quarter in_profile) in
    facts

pub returns : goal.returns
returns c =
    let kept : Pm10Kept = record { days = c.self.inside.days.days.entries; strata = c.self.inside.strata.strata.entries } in
    let records = c.args.registry.now in
    let site = c.args.site in
    let quarter = c.args.quarter in
    let ranged : quarter < QUARTERS = omega (arith, c.number.ensures.value, c.number.ensures.range) in
    let span : List ℕ = range_with_len (quarter_first quarter) (days_in_quarter quarter) in
    let ends = c.quarter_span-calendar_days in
    let in_profile : quarter_first quarter + days_in_quarter quarter ≤ LAST_DAY + 1 = omega (arith, ends.ensures.first, ends.ensures.days, ends.ensures.in_profile) in
    let bag : List ℤ = filter_map (captured_on kept.days site) span in
    let two : c.samples-exceedances.result ≡ (total bag, length bag) = c.samples-exceedances.ensures bag (c.self.invariant.tallied.samples site quarter ranged) in
    let counted : IsCountedBy records kept site quarter = subst (λ (k : Pm10Kept). IsCountedBy records k site quarter) (sym c.self.view_is) c.requires in
    let n : ℕ = exceeded_number records kept.days site quarter in
    let total_is : total bag ≡ pos n = total-is records kept site quarter in_profile counted in
    let few : n ≤ 92 = total-few records kept site quarter in_profile counted n total_is in
    let number : to_z w64 (of_z w64 c.samples-exceedances.result.0) ≡ pos n = told-number c.samples-exceedances.result.0 n (ap (λ (p : ℤ × ℕ). p.0) two ∙ total_is) few in
    let strata : List (ℕ × ℕ) = filter_map (stratum_at kept.strata site) span in
    let told : c.strata-strata.result ≡ strata_summary strata = c.strata-strata.ensures strata (c.self.invariant.tallied.strata_are site quarter ranged) in
    let is =
    quarter-is records kept site quarter in_profile counted ends.result.1 c.scheduled_days.result c.samples-exceedances.result.1 c.strata-strata.result.strata c.strata-strata.result.samples
    c.strata-strata.result.exceedances (unsigned_abs (to_z w64 (of_z w64 c.samples-exceedances.result.0))) c.strata-strata.result.sixtieths ends.ensures.days c.scheduled_days.ensures
    (ap (λ (p : ℤ × ℕ). p.1) two) (ap (λ (t : StrataSummary). t.strata) told) (ap (λ (t : StrataSummary). t.samples) told) (ap (λ (t : StrataSummary). t.exceedances) told)
    (ap (λ (z : ℤ). pos (unsigned_abs z)) number ∙ sym total_is) (ap (λ (t : StrataSummary). t.sixtieths) told)
    in
    let facts = subst KeepsPm10Quarter (sym is) (quarter_of-keeps records kept site quarter in_profile) in
    c.new.ensures ∙ is ∙ ap (λ (k : Pm10Kept). pm10_quarter_of_days records k.days site quarter) c.self.view_is
