-- The mean of values, and a tally with one more sample.
use Rattle.std.proofs.Common.{◌≡◌, ℕ, suc, ◌+◌, ◌*◌, ◌/◌, ◌<◌, ◌≤◌, Bool, List, [], ◌∷◌, ◌++◌, map, sym, ap, ◌∙◌, arith, FitsSigned, w32, of_z, to_z, subst, ◌||◌}
use Rattle.std.specs.Prelude.{ℤ, pos, negsuc, neg_ℤ, ◌+ℤ◌, ◌≤ℤ◌, ◌<ℤ◌, unsigned_abs, int_div}
use Rattle.std.specs.List.{list_any}
use Rattle.std.proofs.lemmas.Int.{ints, fits_signed_from_abs, to_z-of_z, quot_is, quot_fits}
use Rattle.std.proofs.lemmas.List.{map-append, length-append}
use Rattle.std.proofs.lemmas.List.Sums.{fold-append}
use Rattle.std.proofs.lemmas.List.Folds.{list_any-append}
use Rattle.std.proofs.Math.Bool.{or-false}
use Rattle.std.proofs.Math.Nat.{div-le_of_le-mul}
use Rattle.aq_base.specs.Decimal.{truncated}
use Rattle.aq_base.specs.Values.{least_value}
use Rattle.aq_rules.specs.Lists.{total}
use Rattle.aq_rules.specs.Ozone.SiteHour.{Cell, Sample}
use Rattle.aq_series.specs.declared.tally.Tally.{Tally}
use Rattle.aq_series.specs.Samples.{IsOfEight, IsOzone, IsTally}

le_of_pos : (a b : ℕ) → pos a ≤ℤ pos b → a ≤ b
le_of_pos a b h = omega (arith, ints, h)

trunc-in_range : (most : ℕ) (t : ℤ) (n : ℕ) → 0 < n → neg_ℤ (pos (999 * n)) ≤ℤ t → t ≤ℤ pos (n * most) → (least_value ≤ℤ truncated t (pos n)) × (truncated t (pos n) ≤ℤ pos most)
trunc-in_range most (pos a) n some low high =
    let q : a / n ≤ most = div-le_of_le-mul n (le_of_pos a (n * most) high) in
    (omega (arith, ints), omega (arith, ints, q))
trunc-in_range most (negsuc a) n some low high =
    let few : suc a ≤ n * 999 = omega (arith, ints, low) in
    let q : suc a / n ≤ 999 = div-le_of_le-mul n few in
    (omega (arith, ints, q), omega (arith, ints))

fits_sum : (z : ℤ) → neg_ℤ (pos 2399976) ≤ℤ z → z ≤ℤ pos 2399976 → FitsSigned w32 z
fits_sum z low high = fits_signed_from_abs w32 z (let small : unsigned_abs z < 2147483648 = omega (arith, ints, low, high) in small)

-- the sum as the machine makes it
sum_is : (sum value : ℤ) (count : ℕ) → count ≤ 8 → neg_ℤ (pos (999 * count)) ≤ℤ sum → sum ≤ℤ pos (9999 * count) → IsOzone value
    → to_z w32 (of_z w32 (to_z w32 (of_z w32 sum) +ℤ to_z w32 (of_z w32 value))) ≡ sum +ℤ value
sum_is sum value count few low high ozone =
    let a : FitsSigned w32 sum = fits_sum sum (omega (arith, ints, few, low)) (omega (arith, ints, few, high)) in
    let b : FitsSigned w32 value = fits_sum value (omega (arith, ints, ozone.0)) (omega (arith, ints, ozone.1)) in
    let c : FitsSigned w32 (sum +ℤ value) = fits_sum (sum +ℤ value) (omega (arith, ints, few, low, ozone.0)) (omega (arith, ints, few, high, ozone.1)) in
    (λ i. to_z w32 (of_z w32 (to_z-of_z w32 sum a i +ℤ to_z-of_z w32 value b i))) ∙ to_z-of_z w32 (sum +ℤ value) c

-- a sum with a cell's value, as contracts see the cell
pub added : (tally : Tally) (inside cell : Cell) → IsOfEight tally → IsOzone cell.value → inside ≡ cell
    → to_z w32 (of_z w32 (to_z w32 (of_z w32 tally.sum) +ℤ to_z w32 (of_z w32 inside.value))) ≡ tally.sum +ℤ cell.value
added tally inside cell eight ozone seen =
    sum_is tally.sum inside.value tally.count eight.few eight.low eight.high (subst (λ (k : Cell). IsOzone k.value) (sym seen) ozone)
    ∙ ap (λ (k : Cell). tally.sum +ℤ k.value) seen

-- the mean of at most 24 values up to the greatest one, as the machine makes it
pub mean_is : (most : ℕ) (sum divisor : ℤ) (count : ℕ) → (count ≡ 0 → ⊥) → count ≤ 24 → neg_ℤ (pos (999 * count)) ≤ℤ sum → sum ≤ℤ pos (count * most) → sum ≤ℤ pos 2399976 → divisor ≡ pos count
    → (least_value ≤ℤ to_z w32 (of_z w32 (int_div (to_z w32 (of_z w32 sum)) (to_z w32 (of_z w32 divisor)))))
    × (to_z w32 (of_z w32 (int_div (to_z w32 (of_z w32 sum)) (to_z w32 (of_z w32 divisor)))) ≤ℤ pos most)
mean_is most sum divisor count some few low high small is =
    let a : FitsSigned w32 sum = fits_sum sum (omega (arith, ints, few, low)) small in
    let b : FitsSigned w32 divisor = fits_sum divisor (omega (arith, ints, is)) (omega (arith, ints, is, few)) in
    let above : 0 < count = grind (arith, some) in
    let positive : pos 0 <ℤ divisor = omega (arith, ints, is, above) in
    subst (λ z. (least_value ≤ℤ z) × (z ≤ℤ pos most)) (sym (quot_is w32 sum divisor a b (quot_fits w32 sum divisor a positive)))
    (subst (λ z. (least_value ≤ℤ int_div sum z) × (int_div sum z ≤ℤ pos most)) (sym is) (trunc-in_range most sum count above low high))

pub tally_more : (before : List Sample) (poc : ℕ) (cell : Cell) (tally : Tally) (count : ℕ) (sum : ℤ) (excluded : Bool) → IsTally before tally
    → count ≡ tally.count + 1 → sum ≡ tally.sum +ℤ cell.value → excluded ≡ (tally.excluded || cell.excluded)
    → IsTally (before ++ record { poc = poc; cell = cell } ∷ []) (record { count = count; sum = sum; excluded = excluded })
tally_more before poc cell tally count sum excluded is counted summed out =
    let last : Sample = record { poc = poc; cell = cell } in
    record {
      count = counted ∙ ap (λ n. n + 1) is.count ∙ sym (length-append before (last ∷ []));
      sum =
          summed ∙ ap (λ z. z +ℤ cell.value) is.sum
          ∙ sym (fold-append (λ z v. z +ℤ v) (pos 0) (map (λ (s : Sample). s.cell.value) before) (cell.value ∷ []))
          ∙ ap total (sym (map-append (λ (s : Sample). s.cell.value) before (last ∷ [])));
      excluded =
          out ∙ ap (λ b. b || cell.excluded) is.excluded
          ∙ ap (λ b. list_any (λ (s : Sample). s.cell.excluded) before || b) (sym (or-false cell.excluded))
          ∙ sym (list_any-append (λ (s : Sample). s.cell.excluded) before (last ∷ []));
    }

pub eight_more : (tally : Tally) (value : ℤ) (count : ℕ) (sum : ℤ) (excluded : Bool) → IsOfEight tally → IsOzone value → tally.count < 8 → count ≡ tally.count + 1 → sum ≡ tally.sum +ℤ value
    → IsOfEight (record { count = count; sum = sum; excluded = excluded })
eight_more tally value count sum excluded is ozone room counted summed = record {
  few = omega (arith, counted, room);
  low = omega (arith, ints, is.low, ozone.0, counted, summed);
  high = omega (arith, ints, is.high, ozone.1, counted, summed);
}
