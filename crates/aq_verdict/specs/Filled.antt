-- The copies that join a quarter's list, over what is kept of the quarters.
use Rattle.std.specs.Prelude.{◌+◌, ◌≤◌, IsTrue, List, ◌++◌, replicate, filter_map, sum_by, Option, Some, None, ℤ, unsigned_abs}
use Rattle.std.specs.Int.{int_min, int_max}
use Rattle.aq_base.specs.declared.monitor.Pollutant.TheVariants.{Pm25}
use Rattle.aq_rules.specs.Lists.{least, greatest}
use Rattle.aq_rules.specs.Particles.Substitution.{Matched, minimum_for, maximum_for}
use Rattle.aq_rules.specs.Kept.Summaries.{PmQuarter, is_value}
use Rattle.aq_rules.specs.Kept.SummaryVerdicts.{of_summaries}
use Rattle.aq_verdict.specs.declared.substitution.Copies.{Copies}
use Rattle.aq_verdict.specs.declared.substitution.Test.{Test}
use Rattle.aq_verdict.specs.declared.substitution.Test.TheVariants.{Minimum, Maximum}
use Rattle.aq_verdict.specs.declared.substitution.ThreeQuarters.{ThreeQuarters}

abbrev pub copies_of : Copies → List ℤ
copies_of copies = replicate copies.number copies.value

-- the lesser and the greater of two values; a missing one is neither
abbrev pub lesser_of : Option ℤ → Option ℤ → Option ℤ
lesser_of None b = b
lesser_of (Some a) None = Some a
lesser_of (Some a) (Some b) = Some (int_min a b)

abbrev pub greater_of : Option ℤ → Option ℤ → Option ℤ
greater_of None b = b
greater_of (Some a) None = Some a
greater_of (Some a) (Some b) = Some (int_max a b)

-- the days of some quarters, and the least and the greatest of their values
abbrev pub together : List PmQuarter → ThreeQuarters
together quarters = record {
  days = sum_by (λ (q : PmQuarter). q.net_days) quarters;
  least = least (filter_map (λ (q : PmQuarter). q.least) quarters);
  greatest = greatest (filter_map (λ (q : PmQuarter). q.greatest) quarters);
}

pub record IsCombined (all : ThreeQuarters) : Type 0 where
  pub least : IsTrue (is_value Pm25 all.least)
  pub greatest : IsTrue (is_value Pm25 all.greatest)

-- the copies for a quarter in a test
abbrev pub copies_in_test : Test → Matched of_summaries → Option (List ℤ)
copies_in_test Minimum = minimum_for of_summaries
copies_in_test Maximum = maximum_for of_summaries

-- the copies are in the range of PM2.5, and few enough that a mean with them is one of at most 103 values
pub record Fills (q : PmQuarter) (copies : Copies) : Type 0 where
  pub value : unsigned_abs copies.value ≤ 99999
  pub number : q.net_days + copies.number ≤ 103

-- so few that a year's counted samples and copies are no more than its scheduled days
pub record FillsUp (q : PmQuarter) (copies : Copies) : Type 0 where
  pub fills : Fills q copies
  pub scheduled : q.counted + copies.number ≤ q.scheduled

-- three lists as one, if each is there
abbrev pub joined_three : {X : Type 0} → Option (List X) → Option (List X) → Option (List X) → Option (List X)
joined_three (Some a) (Some b) (Some c) = Some (a ++ (b ++ c))
joined_three _ _ _ = None
