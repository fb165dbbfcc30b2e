-- The rows of a quarter's days, by the days of the quarter.
use Rattle.std.proofs.Common.{◌≡◌, ℕ, zero, suc, ◌+◌, ◌<◌, ◌≤◌, ◌∷◌, map, refl, ap, sym, ◌∙◌, arith}
use Rattle.std.specs.List.{range_with_len}
use Rattle.aq_base.specs.Calendar.{days_in_quarter, quarter_first, quarter_of}
use Rattle.aq_base.specs.Site.{Site}
use Rattle.aq_base.specs.declared.day.TheConstants.{LAST_DAY}
use Rattle.aq_cal.proofs.Within.{quarter_holds}
use Rattle.aq_rules.specs.Listed.Daily.{pm10_day_cells, stratum_place}
use Rattle.aq_rules.specs.Office.Office.{Office}
use Rattle.aq_rules.specs.Particles.QuarterCounts.{days_of_quarter}
use Rattle.aq_rules.specs.Particles.Strata.{first_days}
use Rattle.aq_reports.specs.Daily.DayRows.{place_among, pm10_day_among, pm10_row, pm10_row_among}

-- two words that agree on each day of a range
same-map : {X : Type 0} (f g : ℕ → X) (a n : ℕ) → ((d : ℕ) → a ≤ d → d < a + n → f d ≡ g d) → map f (range_with_len a n) ≡ map g (range_with_len a n)
same-map f g a zero same = refl
same-map {X} f g a (suc n) same =
    let rest : map f (range_with_len (a + 1) n) ≡ map g (range_with_len (a + 1) n) = same-map f g (a + 1) n (λ d low high. same d (omega (arith, low)) (omega (arith, high))) in
    let one : f a ≡ g a = same a (omega arith) (omega arith) in
    λ i. one i ∷ rest i

module _ (office : Office) (site : Site) (quarter : ℕ) where
  place-same : (day : ℕ) → quarter_of day ≡ quarter → place_among office site (days_of_quarter quarter) day ≡ stratum_place office site day
  unfolding stratum_place first_days
  place-same day its = ap (λ q. place_among office site (days_of_quarter q) day) (sym its)

  pub quarter-rows : (first many : ℕ) → first ≡ quarter_first quarter → many ≡ days_in_quarter quarter → first + many ≤ LAST_DAY + 1
      → map (pm10_row_among office site (range_with_len first many)) (range_with_len first many) ≡ map (pm10_row office site) (days_of_quarter quarter)
  unfolding days_of_quarter
  quarter-rows first many from all within =
      (λ i. map (pm10_row_among office site (range_with_len (from i) (all i))) (range_with_len (from i) (all i)))
      ∙ same-map (pm10_row_among office site (days_of_quarter quarter)) (pm10_row office site) (quarter_first quarter) (days_in_quarter quarter)
      (λ d low high.
      let small : d ≤ LAST_DAY = omega (arith, high, from, all, within) in
      let its : quarter_of d ≡ quarter = (quarter_holds quarter d small).1 (low, high) in
      ap (λ place. pm10_day_cells (record { day = d; scheduled = (pm10_day_among office site (days_of_quarter quarter) d).scheduled; stratum = place; sample = (pm10_day_among office site (days_of_quarter quarter) d).sample })) (place-same d its))
