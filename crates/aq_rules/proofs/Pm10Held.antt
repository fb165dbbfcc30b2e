-- Estimates of PM10 exceedances are no more than the days of their time.
use Rattle.std.proofs.Common.{◌≡◌, ℕ, suc, ◌*◌, ◌<◌, ◌≤◌, Bool, true, false, cond, List, [], ◌∷◌, length, map, refl, arith}
use Rattle.std.specs.Prelude.{ℤ, pos, ◌≤ℤ◌, Option, Some, None, option_map, ◌==◌, All}
use Rattle.std.specs.Option.{IfSome}
use Rattle.std.proofs.lemmas.Int.{ints}
use Rattle.std.proofs.lemmas.Bool.Decides.{nat_tests}
use Rattle.std.proofs.lemmas.List.Elements.{All-head, All-tail}
use Rattle.std.proofs.lemmas.List.{length-map}
use Rattle.std.proofs.lemmas.List.Sums.{sum_by-cons}
use Rattle.std.proofs.Math.Nat.{mul-le-mul}
use Rattle.aq_base.specs.Decimal.{half_up}
use Rattle.aq_rules.specs.Lists.{total, all_of}
use Rattle.aq_rules.specs.Kept.Summaries.{KeepsPm10Quarter, KeepsPm10Year}
use Rattle.aq_rules.specs.Particles.Pm10Estimate.{Pm10Quarter, quarter_estimate, quarter_lower, year_of_quarters, mean_of_years}
use Rattle.aq_rules.specs.Particles.Pm10Verdict.{exceedances_in}
use Rattle.aq_rules.proofs.Elements.{Every}
use Rattle.aq_rules.proofs.Held.{Held, IfHeld, if_held-wider, half_up-held, total-held, all_of-every, all_of-length}

-- days * part ≤ 92 * whole, in hundredths
few_days : (days part whole : ℕ) → days ≤ 92 → part ≤ whole → 100 * days * part ≤ 9200 * whole
few_days days part whole h k =
    let e : days * part ≤ 92 * whole = mul-le-mul h k in omega arith

pub estimate-held : (q : Pm10Quarter) → KeepsPm10Quarter q → IfHeld 0 9200 (quarter_estimate q)
estimate-held q keeps =
    by_test (q.strata == 0) refl
  where
    by_test : (b : Bool) → (q.strata == 0) ≡ b → IfHeld 0 9200 (cond b None (Some (half_up (pos (100 * q.calendar_days * q.sixtieths)) (pos (60 * q.strata)))))
    by_test true e = tt
    by_test false e =
        let some : 0 < q.strata = grind (arith, nat_tests) in
        let few = few_days q.calendar_days q.sixtieths (60 * q.strata) keeps.at_most keeps.sixtieths in
        half_up-held (pos (100 * q.calendar_days * q.sixtieths)) (60 * q.strata) 0 9200 (omega arith) (omega (arith, ints)) (omega (arith, ints, few))

pub lower-held : (q : Pm10Quarter) → KeepsPm10Quarter q → IfHeld 0 9200 (quarter_lower q)
lower-held q keeps =
    by_test (q.scheduled == 0) refl
  where
    by_test : (b : Bool) → (q.scheduled == 0) ≡ b → IfHeld 0 9200 (cond b (Some (pos 0)) (Some (half_up (pos (100 * q.calendar_days * q.scheduled_exceedances)) (pos q.scheduled))))
    by_test true e = (omega (arith, ints), omega (arith, ints))
    by_test false e =
        let some : 0 < q.scheduled = grind (arith, nat_tests) in
        let captured = keeps.captured in
        let exceeding = keeps.captured_exceedances in
        let few = few_days q.calendar_days q.scheduled_exceedances q.scheduled keeps.at_most (omega arith) in
        half_up-held (pos (100 * q.calendar_days * q.scheduled_exceedances)) q.scheduled 0 9200 some (omega (arith, ints)) (omega (arith, ints, few))

-- ---- years

if_some : (low high : ℕ) (o : Option ℤ) → IfHeld low high o → IfSome o (Held low high)
if_some low high None h = tt
if_some low high (Some v) h = h

-- the rounded quotient of the sum, over a number above 0
sum-held : (high d : ℕ) (os : List (Option ℤ)) → Every (λ o. IfSome o (Held 0 high)) os
    → IfHeld 0 (high * length os) (option_map (λ xs. half_up (total xs) (pos (suc d))) (all_of os))
sum-held high d os every = by_value (all_of os) refl (all_of-every (Held 0 high) os every)
  where
    by_value : (o : Option (List ℤ)) → all_of os ≡ o → IfSome o (Every (Held 0 high)) → IfHeld 0 (high * length os) (option_map (λ xs. half_up (total xs) (pos (suc d))) o)
    by_value None e h = tt
    by_value (Some xs) e h =
        let sum : Held (0 * length xs) (high * length xs) (total xs) = total-held 0 high xs h in
        let same : length xs ≡ length os = all_of-length os xs e in
        let most : total xs ≤ℤ pos (high * length os) = rw (← same) sum.1 in
        half_up-held (total xs) (suc d) 0 (high * length os) (omega arith) (omega (arith, ints, sum.0)) (omega (arith, ints, most))

estimates-held : (estimate : Pm10Quarter → Option ℤ) → ((q : Pm10Quarter) → KeepsPm10Quarter q → IfHeld 0 9200 (estimate q))
    → (quarters : List Pm10Quarter) → All KeepsPm10Quarter quarters → Every (λ o. IfSome o (Held 0 9200)) (map estimate quarters)
estimates-held estimate held [] keeps = tt
estimates-held estimate held (q ∷ qs) keeps =
    (if_some 0 9200 (estimate q) (held q (All-head KeepsPm10Quarter q qs keeps)), estimates-held estimate held qs (All-tail KeepsPm10Quarter q qs keeps))

year-held : (estimate : Pm10Quarter → Option ℤ) → ((q : Pm10Quarter) → KeepsPm10Quarter q → IfHeld 0 9200 (estimate q))
    → (quarters : List Pm10Quarter) → KeepsPm10Year quarters → IfHeld 0 36800 (year_of_quarters estimate quarters)
year-held estimate held quarters keeps =
    let h : IfHeld 0 (9200 * length (map estimate quarters)) (year_of_quarters estimate quarters) = sum-held 9200 9 (map estimate quarters) (estimates-held estimate held quarters keeps.each) in
    let four : 9200 * length (map estimate quarters) ≤ 36800 = omega (arith, length-map quarters estimate, keeps.four) in
    if_held-wider 0 (9200 * length (map estimate quarters)) 0 36800 (year_of_quarters estimate quarters) (omega arith) four h

pub year_estimate-held : (quarters : List Pm10Quarter) → KeepsPm10Year quarters → IfHeld 0 36800 (year_of_quarters quarter_estimate quarters)
year_estimate-held quarters keeps = year-held quarter_estimate estimate-held quarters keeps

pub year_lower-held : (quarters : List Pm10Quarter) → KeepsPm10Year quarters → IfHeld 0 36800 (year_of_quarters quarter_lower quarters)
year_lower-held quarters keeps = year-held quarter_lower lower-held quarters keeps

pub value-held : (a b c : List Pm10Quarter) → KeepsPm10Year a → KeepsPm10Year b → KeepsPm10Year c → IfHeld 0 110400 (mean_of_years quarter_estimate (a ∷ b ∷ c ∷ []))
value-held a b c x y z =
    sum-held 36800 2 (map (year_of_quarters quarter_estimate) (a ∷ b ∷ c ∷ []))
    (if_some 0 36800 _ (year_estimate-held a x), (if_some 0 36800 _ (year_estimate-held b y), (if_some 0 36800 _ (year_estimate-held c z), tt)))

exceedances-each : (quarters : List Pm10Quarter) → All KeepsPm10Quarter quarters → exceedances_in quarters ≤ 92 * length quarters
exceedances-each [] keeps = omega arith
exceedances-each (q ∷ qs) keeps =
    let first = All-head KeepsPm10Quarter q qs keeps in
    let rest = exceedances-each qs (All-tail KeepsPm10Quarter q qs keeps) in
    omega (arith, first.exceedances, first.samples, first.at_most, rest, sum_by-cons (λ (o : Pm10Quarter). o.exceedances) q qs)

pub exceedances-few : (quarters : List Pm10Quarter) → KeepsPm10Year quarters → exceedances_in quarters ≤ 368
exceedances-few quarters keeps = omega (arith, exceedances-each quarters keeps.each, keeps.four)
