-- The annual mean of PM2.5 and the annual design value (40 CFR Part 50, Appendix N, 4.3(a) and 4.4): means of quarterly means, rounded once at the end.
use Rattle.std.specs.Prelude.{ℕ, ◌*◌, Bool, nat_le, if◌then◌else◌, List, [], ◌∷◌, length, Option, Some, None, ℤ, pos, ◌+ℤ◌, ◌*ℤ◌}
use Rattle.std.specs.List.{list_all}
use Rattle.aq_base.specs.Decimal.{half_up}
use Rattle.aq_rules.specs.Lists.{total}

-- a numerator and a denominator
abbrev pub Fraction : Type 0
Fraction = ℤ × ℕ

-- the sum of fractions, over the product of their denominators
abbrev pub sum_of_fractions : List Fraction → Fraction
sum_of_fractions [] = (pos 0, 1)
sum_of_fractions (f ∷ fs) =
    ((f.0 *ℤ pos (sum_of_fractions fs).1) +ℤ ((sum_of_fractions fs).0 *ℤ pos f.1), f.1 * (sum_of_fractions fs).1)

-- the quarterly mean: the sum of the quarter's values over their number
abbrev pub quarterly_mean : List ℤ → Fraction
quarterly_mean values = (total values, length values)

abbrev pub has_days : Fraction → Bool
has_days mean = nat_le 1 mean.1

-- the mean of quarterly means, of four quarters for the annual mean and of the twelve of three years for the design value: rounded half up to a whole tenth, and not before; none if a quarter has no day (own)
abbrev pub mean_of_means : List Fraction → Option ℤ
mean_of_means means =
    if list_all has_days means
    then Some (half_up (sum_of_fractions means).0 (pos (length means * (sum_of_fractions means).1)))
    else None
