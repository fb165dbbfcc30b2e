-- Sums of fractions. A fraction is a numerator and a denominator above 0.
use Rattle.std.specs.Prelude.{ℕ, ◌*◌, ◌/◌, List, [], ◌∷◌, ℤ, pos, ◌+ℤ◌, ◌*ℤ◌}

-- the sum of two fractions, over the product of their denominators
abbrev pub fraction_sum : ℤ × ℕ → ℤ × ℕ → ℤ × ℕ
fraction_sum a b = ((a.0 *ℤ pos b.1) +ℤ (b.0 *ℤ pos a.1), a.1 * b.1)

-- the sum of a list of fractions, over the product of their denominators
abbrev pub sum_of_fractions : List (ℤ × ℕ) → ℤ × ℕ
sum_of_fractions [] = (pos 0, 1)
sum_of_fractions (fraction ∷ fractions) = fraction_sum fraction (sum_of_fractions fractions)

-- the same sum in units of 1 / d, for a common multiple d of the denominators
abbrev pub sum_in_units : ℕ → List (ℤ × ℕ) → ℤ
sum_in_units d [] = pos 0
sum_in_units d (fraction ∷ fractions) =
    (fraction.0 *ℤ pos (d / fraction.1)) +ℤ sum_in_units d fractions
