-- The substitution tests for incomplete PM2.5 quarters (40 CFR Part 50, Appendix N, 4.1(c) and 4.2(c)): the list of such a quarter gets copies of one value, and the design value is worked out again. The counts and thresholds stand in this project's own words.
use Rattle.std.specs.Prelude.{ℕ, ◌-◌, nat_le, if◌then◌else◌, List, [], ◌∷◌, map, zip, filter_map, replicate, sum_by, slice_get, Option, Some, None, option_map, ℤ}
use Rattle.aq_rules.specs.Lists.{least, greatest}
use Rattle.aq_rules.specs.Particles.QuarterCounts.{QuarterCounts, capture}
use Rattle.aq_rules.specs.Particles.YearParts.{Parts}

-- ---- one quarter: the copies that join its list, or nothing if the test is not to be had

-- minimum test: a quarter with fewer than 11 creditable samples gets as many copies as it has fewer, of the least value of its calendar quarter in the three years, which needs at least 30 days of values in them
abbrev pub minimum_copies : QuarterCounts → ℕ → Option ℤ → Option (List ℤ)
minimum_copies counts days least =
    if nat_le 11 counts.creditable then Some []
    else (if nat_le 30 days then option_map (replicate (11 - counts.creditable)) least else None)

-- maximum test: a quarter with a capture below 75 gets a copy for each scheduled day beyond its creditable samples, of the greatest value of its calendar quarter in the three years; a capture below 50 is too low for the test
abbrev pub maximum_copies : QuarterCounts → Option ℤ → Option (List ℤ)
maximum_copies counts greatest =
    if nat_le 75 (capture counts) then Some []
    else (if nat_le 50 (capture counts) then option_map (replicate (counts.scheduled - counts.creditable)) greatest else None)

module _ {Quarter Year : Type 0} (parts : Parts Quarter Year) where
  -- a quarter, and the quarters of the three years that are the same part of their year
  abbrev pub Matched : Type 0
  Matched = Quarter × List Quarter

  abbrev pub minimum_for : Matched → Option (List ℤ)
  minimum_for (quarter, three) =
      minimum_copies (parts.counts quarter) (sum_by parts.number three) (least (filter_map parts.least_value three))

  abbrev pub maximum_for : Matched → Option (List ℤ)
  maximum_for (quarter, three) = maximum_copies (parts.counts quarter) (greatest (filter_map parts.greatest_value three))

  -- ---- three years of four quarters

  -- one part of each of the years: 0 is the first quarter
  abbrev pub same_part : List Year → ℕ → List Quarter
  same_part years part = filter_map (λ year. slice_get (parts.quarters year) part) years

  -- the quarters of a year, each with the three that match it
  abbrev pub matched : List Year → Year → List Matched
  matched years year = zip (parts.quarters year) (map (same_part years) (0 ∷ 1 ∷ 2 ∷ 3 ∷ []))
