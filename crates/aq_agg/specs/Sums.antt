-- The sum and the number of the values in a bag.
use Rattle.std.specs.Prelude.{◌≡◌, ◌≤◌, ℕ, List, length, All, ℤ, pos, neg_ℤ, ◌≤ℤ◌}
use Rattle.aq_rules.specs.Lists.{total}

abbrev pub sum_and_number : List ℤ → ℤ × ℕ
sum_and_number bag = (total bag, length bag)

-- a value of 32 bits
abbrev pub IsWhole32 : ℤ → Type 0
IsWhole32 value = (neg_ℤ (pos 2147483648) ≤ℤ value) × (value ≤ℤ pos 2147483647)

-- the sum and the number of a bag of such values
pub record AreOf (bag : List ℤ) (sum : ℤ) (number : ℕ) : Type 0 where
  pub sum_is : sum ≡ total bag
  pub number_is : number ≡ length bag
  pub values : All IsWhole32 bag
  pub few : number ≤ 4294967295
