-- Exact means of PM2.5 years, and their sizes.
use Rattle.std.specs.Prelude.{◌*◌, ◌^◌, ◌≤◌, if◌then◌else◌, Option, Some, None, [], ◌∷◌, pos, ◌≤ℤ◌, unsigned_abs}
use Rattle.aq_num.specs.declared.ratios.Frac.{Frac}
use Rattle.aq_rules.specs.Particles.Means.{Fraction, has_days, sum_of_fractions}

-- a fraction with a denominator above 0
abbrev pub fraction_of : Frac → Fraction
fraction_of f = (f.num, unsigned_abs f.den)

-- a mean of some days
abbrev pub if_days : Fraction → Option Fraction
if_days mean = if has_days mean then Some mean else None

abbrev pub mean_of_four : Fraction → Fraction → Fraction → Fraction → Fraction
mean_of_four first second third fourth =
    let sum = sum_of_fractions (first ∷ second ∷ third ∷ fourth ∷ []) in (sum.0, 4 * sum.1)

-- ---- sizes

-- a mean of 1 to 92 days, none above 9999.9 µg/m3
pub record IsQuarterly (mean : Fraction) : Type 0 where
  pub some : 1 ≤ mean.1
  pub days : mean.1 ≤ 92
  pub sum : unsigned_abs mean.0 ≤ 99999 * mean.1

-- the mean of four such
pub record IsExact (mean : Frac) : Type 0 where
  pub some : pos 1 ≤ℤ mean.den
  pub few : unsigned_abs mean.den ≤ 2 ^ 29
  pub within : unsigned_abs mean.num ≤ 12 * 10299897 * unsigned_abs mean.den

-- the sum of two such
pub record IsTwo (sum : Frac) : Type 0 where
  pub some : pos 1 ≤ℤ sum.den
  pub few : unsigned_abs sum.den ≤ 2 ^ 58
  pub within : unsigned_abs sum.num ≤ 24 * 10299897 * unsigned_abs sum.den
