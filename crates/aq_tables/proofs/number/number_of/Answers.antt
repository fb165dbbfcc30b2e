use Rattle.std.proofs.Common.{◌≡◌, ℤ, pos, ◌+ℤ◌, w64, to_z, of_z, FitsSigned, to_z-of_z, sym, ap, subst, ◌∙◌, arith, rules}
use Rattle.std.proofs.lemmas.Int.{ints}
use Rattle.aq_tables.proofs.Numbers.{have_places, out_of_places, too_late, number_joined, keep_places}
use Rattle.aq_tables.proofs.number.number_of.Goals as goal

hours_are : (hour hours : ℤ) → FitsSigned w64 hour → FitsSigned w64 (to_z w64 (of_z w64 hour) +ℤ pos 87648) × (hours ≡ to_z w64 (of_z w64 hour) +ℤ pos 87648) → to_z w64 (of_z w64 hours) ≡ hour +ℤ pos 87648
hours_are hour hours fits is = to_z-of_z (subst (FitsSigned w64) (sym is.1) is.0) ∙ is.1 ∙ ap (λ z. z +ℤ pos 87648) (to_z-of_z fits)

pub returns-in_err-hours : goal.returns-in_err-hours
returns-in_err-hours c =
    let fits : FitsSigned w64 c.args.hour.now = search rules in
    c.from_residual.ensures ∙ sym (too_late c.args.site.now c.args.pollutant.now c.args.poc.now c.args.hour.now (λ f. c.in_err-hours.ensures (subst (λ h. FitsSigned w64 (h +ℤ pos 87648)) (sym (to_z-of_z fits)) f)))

pub returns-then-not-have_places : goal.returns-then-not-have_places
returns-then-not-have_places c =
    let fits : FitsSigned w64 c.args.hour.now = search rules in
    let hours = hours_are c.args.hour.now c.in_ok-hours.hours fits c.in_ok-hours.ensures in
    sym (out_of_places c.args.site.now c.args.pollutant.now c.args.poc.now c.args.hour.now (ap (have_places c.args.pollutant.now c.args.poc.now) (sym hours) ∙ sym c.have_places.ensures ∙ c.if-not-have_places.true))

pub overflow_add-pollutant-2 : goal.overflow_add-pollutant-2
overflow_add-pollutant-2 c =
    let keep = keep_places c.args.pollutant.now c.args.poc.now (to_z w64 (of_z w64 c.in_ok-hours.hours)) (sym c.have_places.ensures ∙ c.if-not-have_places.false) in omega (arith, ints)

pub joined-requires-clause-from : goal.joined-requires-clause-from
joined-requires-clause-from c =
    let keep = keep_places c.args.pollutant.now c.args.poc.now (to_z w64 (of_z w64 c.in_ok-hours.hours)) (sym c.have_places.ensures ∙ c.if-not-have_places.false) in omega (arith, ints)

pub joined-requires-clause-below : goal.joined-requires-clause-below
joined-requires-clause-below c =
    let keep = keep_places c.args.pollutant.now c.args.poc.now (to_z w64 (of_z w64 c.in_ok-hours.hours)) (sym c.have_places.ensures ∙ c.if-not-have_places.false) in omega (arith, ints)

pub returns : goal.returns
returns c =
    let fits : FitsSigned w64 c.args.hour.now = search rules in
    let hours = hours_are c.args.hour.now c.in_ok-hours.hours fits c.in_ok-hours.ensures in
    let in_places = sym c.have_places.ensures ∙ c.if-not-have_places.false in
    let keep = keep_places c.args.pollutant.now c.args.poc.now (to_z w64 (of_z w64 c.in_ok-hours.hours)) in_places in
    c.joined.ensures ∙ number_joined c.args.site.now c.args.pollutant.now c.args.poc.now c.args.hour.now _ (ap (have_places c.args.pollutant.now c.args.poc.now) (sym hours) ∙ in_places) (omega (arith, ints))
