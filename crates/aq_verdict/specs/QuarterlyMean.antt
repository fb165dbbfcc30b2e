-- A quarterly mean of values in the range of PM2.5.
use Rattle.std.specs.Prelude.{◌*◌, ◌≤◌, List, [], ◌∷◌, pos, unsigned_abs}
use Rattle.aq_rules.specs.Particles.Means.{Fraction}

-- of at most 103 values, 92 days and 11 copies, none above 9999.9 µg/m3
pub record IsMean (mean : Fraction) : Type 0 where
  pub days : mean.1 ≤ 103
  pub sum : unsigned_abs mean.0 ≤ 99999 * mean.1

-- eight fractions that add nothing to a sum
abbrev pub nothing_more : List Fraction
nothing_more =
    (pos 0, 1) ∷ (pos 0, 1) ∷ (pos 0, 1) ∷ (pos 0, 1) ∷ (pos 0, 1) ∷ (pos 0, 1) ∷ (pos 0, 1) ∷ (pos 0, 1) ∷ []
