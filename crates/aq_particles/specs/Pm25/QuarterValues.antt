-- Values of a quarter, taken together.
use Rattle.std.specs.Prelude.{◌≡◌, ◌*◌, List, take, fold, length, ℤ, pos, neg_ℤ, ◌≤ℤ◌}
use Rattle.std.specs.List.{AllByRecursion}
use Rattle.aq_rules.specs.Lists.{total, least, greatest, ranked_in}
use Rattle.aq_series.specs.DayCells.{IsParticle}
use Rattle.aq_particles.specs.declared.pm25.quarter_values.QuarterValues.{QuarterValues}

-- the values are in the range of PM2.5
abbrev pub AreParticles : List ℤ → Type 0
AreParticles values = AllByRecursion (λ value. IsParticle value) values

-- the eight greatest values after these have joined them
abbrev pub top_after : List ℤ → List ℤ → List ℤ
top_after top values = fold (λ now value. take 8 (ranked_in value now)) top values

-- what is kept of these values, which join the greatest of earlier ones
pub record AreOf (before values : List ℤ) (kept : QuarterValues) : Type 0 where
  pub count : kept.count ≡ length values
  pub sum : kept.sum ≡ total values
  pub least_is : kept.least ≡ least values
  pub greatest_is : kept.greatest ≡ greatest values
  pub top : kept.top ≡ top_after before values
  pub range : AreParticles values

-- the sum is one of so many values in range
pub record IsSumInRange (kept : QuarterValues) : Type 0 where
  pub low : neg_ℤ (pos (999 * kept.count)) ≤ℤ kept.sum
  pub high : kept.sum ≤ℤ pos (99999 * kept.count)
