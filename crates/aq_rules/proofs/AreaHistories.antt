-- The history of an area, year by year.
use Rattle.std.proofs.Common.{◌≡◌, ℕ, ◌+◌, Bool, true, false, cond, ◌||◌, List, [], ◌∷◌, ◌++◌, length, refl, ap, ◌∙◌, arith}
use Rattle.std.specs.Prelude.{Option, Some, None, is_some, option_map, if◌then◌else◌, reverse}
use Rattle.std.specs.List.{list_any, take_while}
use Rattle.std.proofs.lemmas.List.{reverse-append}
use Rattle.std.proofs.lemmas.List.Sums.{take_while-cons}
use Rattle.aq_base.specs.declared.standard.Verdict.TheVariants.{Met, NotMet}
use Rattle.aq_rules.specs.Areas.AreaValue.{AreaYear, first_not_met, is_year_of, met_at_end}

counted : (t : Bool) (year : AreaYear) (rest : List AreaYear) → length (cond t (year ∷ rest) []) ≡ (if t then length rest + 1 else 0)
counted true year rest = omega arith
counted false year rest = refl

pub met-push : (years : List AreaYear) (year : AreaYear) → met_at_end (years ++ year ∷ []) ≡ (if is_year_of Met year then met_at_end years + 1 else 0)
met-push years year =
    ap (λ l. length (take_while (is_year_of Met) l)) (reverse-append years (year ∷ []))
    ∙ ap length (take_while-cons (is_year_of Met) year (reverse years))
    ∙ counted (is_year_of Met year) year (take_while (is_year_of Met) (reverse years))

pub first-some : (years : List AreaYear) → is_some (first_not_met years) ≡ list_any (is_year_of NotMet) years
first-some [] = refl
first-some (year ∷ years) = by_test (is_year_of NotMet year) (first_not_met years) (first-some years)
  where
    by_test : (t : Bool) (o : Option ℕ) → is_some o ≡ list_any (is_year_of NotMet) years
        → is_some (if t then Some 0 else option_map (λ n. n + 1) o) ≡ (t || list_any (is_year_of NotMet) years)
    by_test true o rest = refl
    by_test false None rest = rest
    by_test false (Some n) rest = rest
