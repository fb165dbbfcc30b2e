-- Sums of quarterly means.
use Rattle.std.proofs.Common.{◌≡◌, ℕ, zero, suc, replicate, ◌≤◌, true, ◌&&◌, List, [], ◌∷◌, ◌++◌, All, pos, unsigned_abs, refl, ap, ◌∙◌, arith, lit≤}
use Rattle.std.specs.List.{list_all}
use Rattle.std.proofs.lemmas.Bool.Decides.{nat_tests}
use Rattle.std.proofs.lemmas.Bool.{and_parts}
use Rattle.std.proofs.lemmas.List.Folds.{list_all-append}
use Rattle.std.proofs.lemmas.List.Elements.{All-append, All-cons, All-nil, All-head, All-tail}
use Rattle.aq_num.specs.Fractions.{sum_of_fractions, fraction_sum}
use Rattle.aq_rules.specs.Particles.Means.{Fraction, has_days, sum_of_fractions as sum_of_means}
use Rattle.aq_verdict.specs.QuarterlyMean.{IsMean, nothing_more}

-- both words of a sum of fractions say the same
pub same-sum : (means : List Fraction) → sum_of_fractions means ≡ sum_of_means means
same-sum [] = refl
same-sum (mean ∷ means) = ap (fraction_sum mean) (same-sum means)

pub same-sum-more : (means : List Fraction) → sum_of_fractions (means ++ nothing_more) ≡ sum_of_means means
same-sum-more [] = refl
same-sum-more (mean ∷ means) = ap (fraction_sum mean) (same-sum-more means)

some_days : (mean : Fraction) → has_days mean ≡ true → 1 ≤ mean.1
some_days mean h = grind (arith, nat_tests)

abbrev IsCount : Fraction → Type 0
IsCount mean = (1 ≤ mean.1) × (mean.1 ≤ 103)

abbrev IsSum : Fraction → Type 0
IsSum mean = unsigned_abs mean.0 ≤ 10299897

pub counts-of : (means : List Fraction) → list_all has_days means ≡ true → All IsMean means → All IsCount means
counts-of [] days each = All-nil IsCount
counts-of (mean ∷ means) days each =
    let is : IsMean mean = All-head IsMean mean means each in
    let some = and_parts (has_days mean) (list_all has_days means) days in
    All-cons IsCount mean means (some_days mean some.0, is.days) (counts-of means some.1 (All-tail IsMean mean means each))

pub sums-of : (means : List Fraction) → All IsMean means → All IsSum means
sums-of [] each = All-nil IsSum
sums-of (mean ∷ means) each =
    let is : IsMean mean = All-head IsMean mean means each in
    All-cons IsSum mean means (omega (arith, is.days, is.sum)) (sums-of means (All-tail IsMean mean means each))

is_mean-nothing : IsMean (pos 0, 1)
is_mean-nothing = record { days = lit≤ tt; sum = lit≤ tt }

each-nothing : (n : ℕ) → All IsMean (replicate n (pos 0, 1))
each-nothing zero = All-nil IsMean
each-nothing (suc n) = All-cons IsMean (pos 0, 1) (replicate n (pos 0, 1)) is_mean-nothing (each-nothing n)

pub each-more : (means : List Fraction) → All IsMean means → All IsMean (means ++ nothing_more)
each-more means each = All-append IsMean means nothing_more each (each-nothing 8)

pub days-more : (means : List Fraction) → list_all has_days means ≡ true → list_all has_days (means ++ nothing_more) ≡ true
days-more means days = list_all-append has_days means nothing_more ∙ ap (λ b. b && true) days
