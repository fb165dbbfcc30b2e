-- The first year that is NotMet.
use Rattle.std.proofs.Common.{◌≡◌, ℕ, zero, suc, ◌+◌, ◌<◌, true, false, List, [], ◌∷◌, length, get_or, arith, ap, ◌∙◌, refl}
use Rattle.std.specs.Prelude.{Some, None, option_map, if◌then◌else◌}
use Rattle.aq_base.specs.declared.standard.Verdict.TheVariants.{NotMet}
use Rattle.aq_rules.specs.Areas.AreaValue.{AreaYear, first_not_met, is_year_of}

pub first-at : (years : List AreaYear) (i : ℕ) (d : AreaYear) → i < length years → is_year_of NotMet (get_or years i d) ≡ true
    → ((k : ℕ) → k < i → is_year_of NotMet (get_or years k d) ≡ false) → first_not_met years ≡ Some i
first-at [] i d inside at before = absurd (omega (arith, inside))
first-at (year ∷ years) zero d inside at before = ap (λ t. if t then Some 0 else option_map (λ n. n + 1) (first_not_met years)) at
first-at (year ∷ years) (suc i) d inside at before =
    ap (λ t. if t then Some 0 else option_map (λ n. n + 1) (first_not_met years)) (before 0 (omega arith))
    ∙ ap (option_map (λ n. n + 1)) (first-at years i d (omega (arith, inside)) at (λ k less. before (suc k) (omega (arith, less))))
    ∙ ap Some (omega arith)

pub none-is : (years : List AreaYear) (d : AreaYear) → ((k : ℕ) → k < length years → is_year_of NotMet (get_or years k d) ≡ false) → first_not_met years ≡ None
none-is [] d none = refl
none-is (year ∷ years) d none =
    ap (λ t. if t then Some 0 else option_map (λ n. n + 1) (first_not_met years)) (none 0 (omega arith))
    ∙ ap (option_map (λ n. n + 1)) (none-is years d (λ k less. none (suc k) (omega (arith, less))))
