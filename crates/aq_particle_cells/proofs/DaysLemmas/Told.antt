-- What the tallies of a quarter tell, as the machine has it: sums and numbers that are small.
use Rattle.std.proofs.Common.{◌≡◌, ℕ, ◌≤◌, ◌<◌, List, length, ap, sym, subst, ◌∙◌, arith, ℤ, pos, FitsSigned, of_z, to_z, w32, w64}
use Rattle.std.specs.List.{AllByRecursion}
use Rattle.std.specs.Prelude.{unsigned_abs}
use Rattle.std.proofs.lemmas.Int.{ints, fits_signed_from_abs, to_z-of_z}
use Rattle.aq_series.specs.DayCells.{IsParticle}
use Rattle.aq_rules.specs.Lists.{total}
use Rattle.aq_particle_cells.proofs.DaysLemmas.ItemCounts.{total-high, total-low}

-- a number of a quarter
pub told-number : (z : ℤ) (n : ℕ) → z ≡ pos n → n ≤ 92 → to_z w64 (of_z w64 z) ≡ pos n
told-number z n is few =
    ap (λ (v : ℤ). to_z w64 (of_z w64 v)) is
    ∙ to_z-of_z w64 (pos n) (fits_signed_from_abs w64 (pos n) (let small : unsigned_abs (pos n) < 9223372036854775808 = omega (arith, ints, few) in small))

-- the sum of its values
module _ (values : List ℤ) (few : length values ≤ 92) (particles : AllByRecursion IsParticle values) where
  fits-32 : FitsSigned w32 (total values)
  fits-32 =
      let low = total-low values particles in
      let high = total-high values particles in
      fits_signed_from_abs w32 (total values) (let small : unsigned_abs (total values) < 2147483648 = omega (arith, ints, low, high, few) in small)

  fits-64 : FitsSigned w64 (total values)
  fits-64 =
      let low = total-low values particles in
      let high = total-high values particles in
      fits_signed_from_abs w64 (total values) (let small : unsigned_abs (total values) < 9223372036854775808 = omega (arith, ints, low, high, few) in small)

  told-64 : (sum : ℤ) → sum ≡ total values → to_z w64 (of_z w64 sum) ≡ total values
  told-64 sum is = ap (λ (v : ℤ). to_z w64 (of_z w64 v)) is ∙ to_z-of_z w64 (total values) fits-64

  pub sum-fits : (sum : ℤ) → sum ≡ total values → FitsSigned w32 (to_z w64 (of_z w64 sum))
  sum-fits sum is = subst (FitsSigned w32) (sym (told-64 sum is)) fits-32

  pub told-sum : (sum : ℤ) → sum ≡ total values → to_z w32 (of_z w32 (to_z w64 (of_z w64 sum))) ≡ total values
  told-sum sum is = ap (λ (v : ℤ). to_z w32 (of_z w32 v)) (told-64 sum is) ∙ to_z-of_z w32 (total values) fits-32
