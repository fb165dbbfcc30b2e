-- One item more or less in a sum and a number.
use Rattle.std.specs.Prelude.{neg_ℤ, ◌≤ℤ◌, ◌+ℤ◌, ◌-ℤ◌, unsigned_abs}
use Rattle.std.proofs.Common.{◌≡◌, ℕ, ◌+◌, ◌-◌, ◌*◌, ◌<◌, ◌≤◌, List, [], ◌∷◌, length, ◌∙◌, arith, ℤ, pos, negsuc, FitsSigned, w32, w64, of_z, to_z}
use Rattle.std.specs.List.{All}
use Rattle.std.proofs.lemmas.Int.{ints, fits_signed_from_abs, to_z-of_z}
use Rattle.std.proofs.lemmas.List.Elements.{All-cons, All-head, All-tail}
use Rattle.aq_rules.specs.Lists.{total}
use Rattle.aq_rules.proofs.Sums.{total-cons}
use Rattle.aq_agg.specs.Sums.{AreOf, IsWhole32}

pub whole_32 : (value : ℤ) → FitsSigned w32 value → IsWhole32 value
whole_32 (pos n) fits = let few : n < 2147483648 = fits.sfits in (omega (arith, ints), omega (arith, ints, few))
whole_32 (negsuc n) fits = let few : n < 2147483648 = fits.sfits in (omega (arith, ints, few), omega (arith, ints))

-- between so many times the least and the greatest value of 32 bits
abbrev Within : ℕ → ℤ → Type 0
Within n sum = (neg_ℤ (pos (2147483648 * n)) ≤ℤ sum) × (sum ≤ℤ pos (2147483648 * n))

total-within : (bag : List ℤ) → All IsWhole32 bag → Within (length bag) (total bag)
total-within [] all = (omega (arith, ints), omega (arith, ints))
total-within (x ∷ bag) all =
    let one = All-head IsWhole32 x bag all in
    let rest = total-within bag (All-tail IsWhole32 x bag all) in
    (omega (arith, ints, rest.0, one.0, total-cons x bag), omega (arith, ints, rest.1, one.1, total-cons x bag))

fits : (z : ℤ) → neg_ℤ (pos 9223372036854775807) ≤ℤ z → z ≤ℤ pos 9223372036854775807 → FitsSigned w64 z
fits z low high = fits_signed_from_abs w64 z (let small : unsigned_abs z < 9223372036854775808 = omega (arith, ints, low, high) in small)

pub sum-fits : (bag : List ℤ) (sum : ℤ) (number : ℕ) → AreOf bag sum number → FitsSigned w64 sum
sum-fits bag sum number of =
    let few : length bag ≤ 4294967295 = (let same = of.number_is in let most = of.few in omega (arith, same, most)) in
    let within = total-within bag of.values in
    fits sum (omega (arith, ints, few, of.sum_is, within.0)) (omega (arith, ints, few, of.sum_is, within.1))

pub item-fits : (item : ℤ) → IsWhole32 item → FitsSigned w64 item
item-fits item whole = fits item (omega (arith, ints, whole.0)) (omega (arith, ints, whole.1))

-- ---- one more

pub more : (bag : List ℤ) (sum item : ℤ) (number : ℕ) → IsWhole32 item → number < 4294967295 → AreOf bag sum number → AreOf (item ∷ bag) (sum +ℤ item) (number + 1)
more bag sum item number whole room of = record {
  sum_is = (let step = total-cons item bag in omega (arith, ints, step, of.sum_is));
  number_is = (let same = of.number_is in omega (arith, same));
  values = All-cons IsWhole32 item bag whole of.values;
  few = omega (arith, room);
}

module _ (bag : List ℤ) (sum item to : ℤ) (number : ℕ) (whole : IsWhole32 item) (is : to ≡ item) (of : AreOf bag sum number) (few : length bag < 4294967295) where
  room : number < 4294967295
  room = let same = of.number_is in omega (arith, same, few)

  parts : to_z w64 (of_z w64 sum) +ℤ to_z w64 (of_z w64 to) ≡ sum +ℤ item
  parts = rw is (λ i. to_z-of_z w64 sum (sum-fits bag sum number of) i +ℤ to_z-of_z w64 item (item-fits item whole) i)

  pub added-fits : FitsSigned w64 (to_z w64 (of_z w64 sum) +ℤ to_z w64 (of_z w64 to))
  added-fits = rw parts (sum-fits (item ∷ bag) (sum +ℤ item) (number + 1) (more bag sum item number whole room of))

  added-is : to_z w64 (of_z w64 (to_z w64 (of_z w64 sum) +ℤ to_z w64 (of_z w64 to))) ≡ sum +ℤ item
  added-is = to_z-of_z w64 _ added-fits ∙ parts

  pub added : (other : List ℤ) → AreOf other sum number → AreOf (item ∷ other) (to_z w64 (of_z w64 (to_z w64 (of_z w64 sum) +ℤ to_z w64 (of_z w64 to)))) (number + 1)
  added other others = rw added-is (more other sum item number whole room others)

-- ---- one less

pub less : (rest : List ℤ) (sum item : ℤ) (number : ℕ) → AreOf (item ∷ rest) sum number → AreOf rest (sum -ℤ item) (number - 1)
less rest sum item number of = record {
  sum_is = (let step = total-cons item rest in omega (arith, ints, step, of.sum_is));
  number_is = (let same = of.number_is in omega (arith, same));
  values = All-tail IsWhole32 item rest of.values;
  few = (let most = of.few in omega (arith, most));
}

module _ (rest : List ℤ) (sum item to : ℤ) (number : ℕ) (is : to ≡ item) (of : AreOf (item ∷ rest) sum number) where
  less_parts : to_z w64 (of_z w64 sum) -ℤ to_z w64 (of_z w64 to) ≡ sum -ℤ item
  less_parts = rw is (λ i. to_z-of_z w64 sum (sum-fits (item ∷ rest) sum number of) i -ℤ to_z-of_z w64 item (item-fits item (All-head IsWhole32 item rest of.values)) i)

  pub taken-fits : FitsSigned w64 (to_z w64 (of_z w64 sum) -ℤ to_z w64 (of_z w64 to))
  taken-fits = rw less_parts (sum-fits rest (sum -ℤ item) (number - 1) (less rest sum item number of))

  taken-is : to_z w64 (of_z w64 (to_z w64 (of_z w64 sum) -ℤ to_z w64 (of_z w64 to))) ≡ sum -ℤ item
  taken-is = to_z-of_z w64 _ taken-fits ∙ less_parts

  pub taken : (other : List ℤ) → AreOf (item ∷ other) sum number → AreOf other (to_z w64 (of_z w64 (to_z w64 (of_z w64 sum) -ℤ to_z w64 (of_z w64 to)))) (number - 1)
  taken other others = rw taken-is (less other sum item number others)
