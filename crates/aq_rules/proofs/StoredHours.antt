-- The hours that rows count are in the order of the hours, and say them.
use Rattle.std.proofs.Common.{◌≡◌, ℕ, refl, ap, arith, Some}
use Rattle.std.specs.Prelude.{pos, nat_lt, ◌==◌, int_lt, ◌+ℤ◌}
use Rattle.std.specs.Ordering.{int_eq}
use Rattle.std.proofs.lemmas.Int.{ints}
use Rattle.std.proofs.lemmas.Bool.{eq-eqb, eqb-true}
use Rattle.std.proofs.lemmas.Bool.Decides.{nat_tests, Decides-int_eq}
use Rattle.aq_base.specs.Calendar.{days_of_years, days_of_months}
use Rattle.aq_rules.specs.Kept.Rows.{hours_before_2000, stored_hour, hour_of_stored, whole}
use Rattle.aq_rules.proofs.Tests.{one_answer}

-- as a program counts them
pub hours_before_2000_is : hours_before_2000 ≡ 87648
unfolding hours_before_2000 days_of_years days_of_months
hours_before_2000_is = refl

pub stored-back : (hour : ℕ) → hour_of_stored (stored_hour hour) ≡ Some hour
stored-back hour =
    let there : stored_hour hour +ℤ pos hours_before_2000 ≡ pos hour = omega (arith, ints) in
    ap whole there

pub stored-before : (a b : ℕ) → int_lt (stored_hour a) (stored_hour b) ≡ nat_lt a b
stored-before a b = one_answer (int_lt (stored_hour a) (stored_hour b)) (nat_lt a b) (λ h. grind (arith, ints, nat_tests)) (λ h. grind (arith, ints, nat_tests))

stored-one : (a b : ℕ) → stored_hour a ≡ stored_hour b → a ≡ b
stored-one a b e = omega (arith, ints)

pub stored-same : (a b : ℕ) → int_eq (stored_hour a) (stored_hour b) ≡ (a == b)
stored-same a b =
    one_answer (int_eq (stored_hour a) (stored_hour b)) (a == b)
    (λ h. eq-eqb a b (stored-one a b ((Decides-int_eq (stored_hour a) (stored_hour b)).0 h)))
    (λ h. (Decides-int_eq (stored_hour a) (stored_hour b)).1 (ap stored_hour (eqb-true a b h)))
