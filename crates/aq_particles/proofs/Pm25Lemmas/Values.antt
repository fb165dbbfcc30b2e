-- One more value of a quarter.
use Rattle.std.proofs.Common.{◌≡◌, ◌+◌, ◌<◌, List, [], ◌∷◌, ◌++◌, take, sym, ap, ◌∙◌, arith, FitsSigned, w32, of_z, to_z}
use Rattle.std.specs.Prelude.{ℤ, pos, neg_ℤ, ◌+ℤ◌, ◌≤ℤ◌, Option, Some, None, unsigned_abs}
use Rattle.std.specs.Option.{option_to_list}
use Rattle.std.proofs.lemmas.Int.{ints, fits_signed_from_abs, to_z-of_z}
use Rattle.std.proofs.lemmas.List.{length-append}
use Rattle.std.proofs.lemmas.List.Sums.{fold-append}
use Rattle.aq_rules.specs.Lists.{greater, lesser, ranked_in}
use Rattle.aq_series.specs.DayCells.{IsParticle}
use Rattle.aq_particles.specs.Pm25.QuarterValues.{AreOf, AreParticles, IsSumInRange}
use Rattle.aq_particles.specs.declared.pm25.quarter_values.QuarterValues.{QuarterValues}

pub value-fits : (v : ℤ) → IsParticle v → FitsSigned w32 v
value-fits v range = fits_signed_from_abs w32 v (let small : unsigned_abs v < 2147483648 = omega (arith, ints, range.0, range.1) in small)

sum_fits : (sum : ℤ) → neg_ℤ (pos 9300000) ≤ℤ sum → sum ≤ℤ pos 9300000 → FitsSigned w32 sum
sum_fits sum low high = fits_signed_from_abs w32 sum (let small : unsigned_abs sum < 2147483648 = omega (arith, ints, low, high) in small)

module _ (kept : QuarterValues) (v : ℤ) (few : kept.count < 92) (held : IsSumInRange kept) (range : IsParticle v) where
  before_fits : FitsSigned w32 kept.sum
  before_fits = sum_fits kept.sum (omega (arith, ints, few, held.low)) (omega (arith, ints, few, held.high))

  after_fits : FitsSigned w32 (kept.sum +ℤ v)
  after_fits = sum_fits (kept.sum +ℤ v) (omega (arith, ints, few, held.low, range.0)) (omega (arith, ints, few, held.high, range.1))

  parts : to_z w32 (of_z w32 kept.sum) +ℤ to_z w32 (of_z w32 v) ≡ kept.sum +ℤ v
  parts = λ i. to_z-of_z w32 kept.sum before_fits i +ℤ to_z-of_z w32 v (value-fits v range) i

  pub sum-fits : FitsSigned w32 (to_z w32 (of_z w32 kept.sum) +ℤ to_z w32 (of_z w32 v))
  sum-fits = rw parts after_fits

  -- the sum as the machine makes it
  pub sum-is : to_z w32 (of_z w32 (to_z w32 (of_z w32 kept.sum) +ℤ to_z w32 (of_z w32 v))) ≡ kept.sum +ℤ v
  sum-is = ap (λ z. to_z w32 (of_z w32 z)) parts ∙ to_z-of_z w32 (kept.sum +ℤ v) after_fits

  particles_more : (values : List ℤ) → AreParticles values → AreParticles (values ++ v ∷ [])
  particles_more [] all = (range, tt)
  particles_more (w ∷ values) all = (all.0, particles_more values all.1)

  pub one-more : (before values : List ℤ) (sum : ℤ) (low high : Option ℤ) (top : List ℤ) → AreOf before values kept
      → sum ≡ kept.sum +ℤ v → low ≡ lesser kept.least v → high ≡ greater kept.greatest v → top ≡ take 8 (ranked_in v kept.top)
      → AreOf before (values ++ v ∷ []) (record { count = kept.count + 1; sum = sum; least = low; greatest = high; top = top })
  one-more before values sum low high top are summed least_of greatest_of joined_to = record {
    count = ap (λ n. n + 1) are.count ∙ sym (length-append values (v ∷ []));
    sum = summed ∙ ap (λ z. z +ℤ v) are.sum ∙ sym (fold-append (λ a b. a +ℤ b) (pos 0) values (v ∷ []));
    least_is = least_of ∙ ap (λ o. lesser o v) are.least_is ∙ sym (fold-append lesser None values (v ∷ []));
    greatest_is = greatest_of ∙ ap (λ o. greater o v) are.greatest_is ∙ sym (fold-append greater None values (v ∷ []));
    top = joined_to ∙ ap (λ now. take 8 (ranked_in v now)) are.top ∙ sym (fold-append (λ now value. take 8 (ranked_in value now)) before values (v ∷ []));
    range = particles_more values are.range;
  }

  -- the same of a value that is given
  pub one-given : (before values : List ℤ) (given : Option ℤ) (sum : ℤ) (low high : Option ℤ) (top : List ℤ) → given ≡ Some v → AreOf before values kept
      → sum ≡ kept.sum +ℤ v → low ≡ lesser kept.least v → high ≡ greater kept.greatest v → top ≡ take 8 (ranked_in v kept.top)
      → AreOf before (values ++ option_to_list given) (record { count = kept.count + 1; sum = sum; least = low; greatest = high; top = top })
  one-given before values given sum low high top is are summed least_of greatest_of joined_to =
      rw is (one-more before values sum low high top are summed least_of greatest_of joined_to)

  pub sum-held : (sum : ℤ) (low high : Option ℤ) (top : List ℤ) → sum ≡ kept.sum +ℤ v → IsSumInRange (record { count = kept.count + 1; sum = sum; least = low; greatest = high; top = top })
  sum-held sum low high top summed = record {
    low = omega (arith, ints, held.low, range.0, summed);
    high = omega (arith, ints, held.high, range.1, summed);
  }
