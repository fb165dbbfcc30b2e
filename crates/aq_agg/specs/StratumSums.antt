-- Strata with samples: how many, and the sum of the parts of their samples that exceed (40 CFR Part 50, Appendix K, 3.1).
use Rattle.std.specs.Prelude.{◌≡◌, ◌≤◌, ◌*◌, ◌/◌, ℕ, List, length, count_by, sum_by, All, ℤ}
use Rattle.aq_rules.specs.Particles.Pm10Estimate.{exceeds}

-- a stratum with samples: how many exceed, which a byte holds, and how many there are, at most six
abbrev pub IsStratum : ℕ × ℕ → Type 0
IsStratum stratum = (1 ≤ stratum.1) × (stratum.1 ≤ 6) × (stratum.0 ≤ 255)

-- the stratum that has samples of these values
abbrev pub stratum_with : List ℤ → ℕ × ℕ
stratum_with values = (count_by exceeds values, length values)

-- the part of the samples that exceed, in sixtieths: whole, since there are six samples at most
abbrev pub sixtieths : ℕ × ℕ → ℕ
sixtieths stratum = 60 * stratum.0 / stratum.1

abbrev pub number_and_sixtieths : List (ℕ × ℕ) → ℕ × ℕ
number_and_sixtieths bag = (length bag, sum_by sixtieths bag)

-- the number and the sum of a bag of strata
pub record AreOf (bag : List (ℕ × ℕ)) (number sum : ℕ) : Type 0 where
  pub number_is : number ≡ length bag
  pub sum_is : sum ≡ sum_by sixtieths bag
  pub strata : All IsStratum bag
  pub few : number ≤ 4294967295
