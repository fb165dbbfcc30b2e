-- The sheets of PM2.5 and PM10 quarters are well formed.
use Rattle.std.proofs.Common.{◌≡◌, ℕ, ◌+◌, ◌*◌, ◌<◌, ◌≤◌, Bool, true, false, cond, List, [], ◌∷◌, ◌++◌, length, map, refl, arith}
use Rattle.std.specs.Prelude.{pos, ◌==◌, codes, All, unsigned_abs}
use Rattle.std.proofs.lemmas.Int.{ints}
use Rattle.std.proofs.lemmas.Bool.Decides.{nat_tests}
use Rattle.std.proofs.lemmas.List.Elements.{All-head, All-tail}
use Rattle.std.proofs.lemmas.List.Sums.{sum_by-cons}
use Rattle.aq_base.specs.Calendar.{is_year, quarter_number}
use Rattle.aq_base.specs.Decimal.{half_up}
use Rattle.aq_base.specs.Site.{Site}
use Rattle.aq_rules.specs.Lists.{total, ranked}
use Rattle.aq_rules.specs.Office.Office.{Office, IsOffice}
use Rattle.aq_rules.specs.Particles.QuarterCounts.{QuarterCounts, capture, values_in, pm25_quarter, pm25_year}
use Rattle.aq_rules.specs.Particles.Percentile.{rank_of}
use Rattle.aq_rules.specs.Particles.Pm10Estimate.{Pm10Quarter, pm10_year, quarter_estimate, quarter_lower, year_of_quarters}
use Rattle.aq_rules.specs.Kept.Summaries.{PmQuarter, PmYear, KeepsPm10Quarter, KeepsPm10Year, counts_of, eight_greatest, summary_of_quarter, pm25_summary}
use Rattle.aq_rules.specs.Kept.SummaryVerdicts.{of_summaries, mean_of_sums, kept_percentile, kept_counted}
use Rattle.aq_rules.specs.Shown.Sheet.{count_cell}
use Rattle.aq_rules.specs.Shown.Sheet.SheetCell.{Missing}
use Rattle.aq_rules.specs.Shown.ParticleSheets.{pm25_cells, rank_cell, pm25_sheet, pm25_answer, pm10_cells, pm10_sheet, pm10_answer}
use Rattle.aq_rules.specs.Shown.WellFormed.{is_cell, is_row, IsWellFormed}
use Rattle.aq_rules.proofs.Elements.{Every, every-append, every-map}
use Rattle.aq_rules.proofs.Pm25Range.{pm25_quarter-keeps, quarter_values-in_range, every-take}
use Rattle.aq_rules.proofs.ValueRange.{least-in_range, greatest-in_range, every-ranked}
use Rattle.aq_rules.proofs.Pm10Facts.{pm10_year-keeps}
use Rattle.aq_rules.proofs.Quarters.{quarter-holds}
use Rattle.aq_rules.proofs.Held.{Held, held-wider, total-held}
use Rattle.aq_rules.proofs.PmHeld.{In, IfIn, MeanIn, year-in, values-in, mean_of_means-in, percentile-in}
use Rattle.aq_rules.proofs.Pm10Held.{estimate-held, lower-held, year_estimate-held}
use Rattle.aq_rules.proofs.SheetCells.{site-word, count, fixed, if_fixed, percent-few, row-of, heads-of, numbered-rows}
use Rattle.aq_rules.proofs.WellFormedOzone.{of_profile}

-- ---- a quarter of PM2.5

pub record QuarterHeld (q : PmQuarter) : Type 0 where
  pub scheduled : q.scheduled ≤ 92
  pub creditable : q.creditable ≤ q.scheduled
  pub counted : q.counted ≤ 92
  pub days : q.net_days ≤ 92
  pub sum : Held (999 * q.net_days) (99999 * q.net_days) q.sum
  pub least : IfIn q.least
  pub greatest : IfIn q.greatest

pub quarter-held : (office : Office) (site : Site) (quarter : ℕ) → IsOffice office → QuarterHeld (summary_of_quarter (pm25_quarter office site quarter))
quarter-held office site quarter valid =
    let keeps = pm25_quarter-keeps office site quarter valid (quarter-holds quarter) in
    let values = (pm25_quarter office site quarter).values in
    let every : Every In values = quarter_values-in_range office site quarter valid in
    let scheduled = keeps.scheduled in
    let creditable = keeps.creditable in
    let counted = keeps.counted in
    let room = keeps.net_days in
    let few : length values ≤ 92 = omega (arith, room, creditable) in
    let sum : Held (999 * length values) (99999 * length values) (total values) = total-held 999 99999 values every in
    record {
      scheduled = scheduled;
      creditable = creditable;
      counted = omega arith;
      days = few;
      sum = sum;
      least = least-in_range 99999 values every;
      greatest = greatest-in_range 99999 values every;
    }

pub capture-few : (counts : QuarterCounts) → counts.creditable ≤ counts.scheduled → capture counts ≤ 100
capture-few counts few = by_test (counts.scheduled == 0) refl
  where
    by_test : (b : Bool) → (counts.scheduled == 0) ≡ b → cond b 0 (unsigned_abs (half_up (pos (100 * counts.creditable)) (pos counts.scheduled))) ≤ 100
    by_test true e = omega arith
    by_test false e = let some : 0 < counts.scheduled = grind (arith, nat_tests) in percent-few counts.creditable counts.scheduled some few

pm25_columns : List (List ℕ)
pm25_columns =
    codes "quarter" ∷ codes "scheduled" ∷ codes "creditable" ∷ codes "capture" ∷ codes "counted"
    ∷ codes "days" ∷ codes "sum" ∷ codes "least" ∷ codes "greatest" ∷ []

pm25-row : (quarter : ℕ) (q : PmQuarter) → quarter < 5 → QuarterHeld q → is_row pm25_columns (pm25_cells (quarter, q)) ≡ true
unfolding pm25_columns
pm25-row quarter q few held =
    let scheduled = held.scheduled in
    let creditable = held.creditable in
    let counted = held.counted in
    let days = held.days in
    let sum = held-wider (999 * q.net_days) (99999 * q.net_days) (999 * 92) (99999 * 92) q.sum (omega arith) (omega arith) held.sum in
    let share = capture-few (counts_of q) creditable in
    row-of pm25_columns (pm25_cells (quarter, q)) refl (
      count quarter (omega arith),
      (
        count q.scheduled (omega arith),
        (
          count q.creditable (omega arith),
          (
            count (capture (counts_of q)) (omega (arith, share)),
            (
              count q.counted (omega arith),
              (
                count q.net_days (omega arith),
                (fixed (999 * 92) (99999 * 92) 1 q.sum (omega arith) (omega arith) refl sum, (if_fixed 999 99999 1 q.least (omega arith) (omega arith) refl held.least, (if_fixed 999 99999 1 q.greatest (omega arith) (omega arith) refl held.greatest, tt))),
              ),
            ),
          ),
        ),
      ),
    )

-- ---- a year of PM2.5

pub counted-few : (quarters : List PmQuarter) → Every QuarterHeld quarters → kept_counted quarters ≤ 92 * length quarters
counted-few [] every = omega arith
counted-few (q ∷ qs) every =
    omega (arith, every.0.counted, counted-few qs every.1, sum_by-cons (λ (o : PmQuarter). o.counted) q qs)

no_copies : (q : PmQuarter) → QuarterHeld q → MeanIn (of_summaries.mean_with [] q)
no_copies q held days =
    let some : 1 ≤ q.net_days + 0 = grind (arith, nat_tests, days) in
    let few = held.sum.0 in
    let many = held.sum.1 in
    record { some = some; least = omega (arith, ints, few); most = omega (arith, ints, many) }

mean-held : (quarters : List PmQuarter) → Every QuarterHeld quarters → IfIn (mean_of_sums quarters)
mean-held quarters every = mean_of_means-in (map (of_summaries.mean_with []) quarters) (every-map QuarterHeld MeanIn (of_summaries.mean_with []) no_copies quarters every)

pub record YearHeld (year : PmYear) : Type 0 where
  pub four : length year.quarters ≡ 4
  pub quarters : Every QuarterHeld year.quarters
  pub counted : kept_counted year.quarters ≤ 368
  pub percentile : IfIn (kept_percentile year)
  pub mean : IfIn (mean_of_sums year.quarters)

pub year-held : (office : Office) (site : Site) (year : ℕ) → IsOffice office → YearHeld (pm25_summary office site year)
unfolding pm25_summary pm25_year
year-held office site year valid =
    let days = pm25_year office site year in
    let all = year-in office site year valid in
    let q : (part : ℕ) → QuarterHeld (summary_of_quarter (pm25_quarter office site (quarter_number year part))) = λ part. quarter-held office site (quarter_number year part) valid in
    let each : Every QuarterHeld (pm25_summary office site year).quarters = (q 0, (q 1, (q 2, (q 3, tt)))) in
    record {
      four = refl;
      quarters = each;
      counted = counted-few (pm25_summary office site year).quarters each;
      percentile = percentile-in (eight_greatest (values_in days) ++ []) (kept_counted (pm25_summary office site year).quarters + 0) (every-append In (eight_greatest (values_in days)) [] (every-take 8 (ranked (values_in days)) (every-ranked 99999 (values_in days) (values-in days all))) tt);
      mean = mean-held (pm25_summary office site year).quarters each;
    }

rank-cell : (counted : ℕ) → counted ≤ 368 → is_cell (rank_cell counted) ≡ true
rank-cell counted few =
    elim (counted == 0) as (λ b. is_cell (cond b Missing (count_cell (rank_of counted))) ≡ true) [
      | true ↦ refl
      | false ↦ count (rank_of counted) (omega arith)
    ]

pub pm25-well_formed : (office : Office) (site : Site) (year : ℕ) → IsOffice office → is_year year ≡ true → IsWellFormed (pm25_answer office site year)
unfolding pm25_answer pm25_sheet pm25_columns
pm25-well_formed office site year valid asked =
    let parts = pm25_summary office site year in
    let held = year-held office site year valid in
    let few = of_profile year asked in
    let counted = held.counted in
    let four = held.four in
    record {
      heads =
          heads-of (pm25_answer office site year).heads (
            site-word site,
            (
              count year (omega arith),
              (
                count (kept_counted parts.quarters) (omega arith),
                (
                  rank-cell (kept_counted parts.quarters) counted,
                  (if_fixed 999 99999 1 (kept_percentile parts) (omega arith) (omega arith) refl held.percentile, (if_fixed 999 99999 1 (mean_of_sums parts.quarters) (omega arith) (omega arith) refl held.mean, tt)),
                ),
              ),
            ),
          );
      names_differ = refl;
      columns = refl;
      rows = numbered-rows pm25_columns QuarterHeld 5 pm25_cells pm25-row 1 parts.quarters (omega arith) held.quarters;
    }

-- ---- PM10

pm10_columns : List (List ℕ)
pm10_columns =
    codes "quarter" ∷ codes "days" ∷ codes "scheduled" ∷ codes "captured" ∷ codes "strata"
    ∷ codes "samples" ∷ codes "exceedances" ∷ codes "estimate" ∷ codes "lower" ∷ []

pm10-row : (quarter : ℕ) (q : Pm10Quarter) → quarter < 5 → KeepsPm10Quarter q → is_row pm10_columns (pm10_cells (quarter, q)) ≡ true
unfolding pm10_columns
pm10-row quarter q few keeps =
    let days = keeps.at_most in
    let scheduled = keeps.scheduled in
    let captured = keeps.captured in
    let strata = keeps.strata in
    let samples = keeps.samples in
    let exceedances = keeps.exceedances in
    row-of pm10_columns (pm10_cells (quarter, q)) refl (
      count quarter (omega arith),
      (
        count q.calendar_days (omega arith),
        (
          count q.scheduled (omega arith),
          (
            count q.captured (omega arith),
            (
              count q.strata (omega arith),
              (
                count q.samples (omega arith),
                (
                  count q.exceedances (omega arith),
                  (if_fixed 0 9200 2 (quarter_estimate q) (omega arith) (omega arith) refl (estimate-held q keeps), (if_fixed 0 9200 2 (quarter_lower q) (omega arith) (omega arith) refl (lower-held q keeps), tt)),
                ),
              ),
            ),
          ),
        ),
      ),
    )

keeps-each : (quarters : List Pm10Quarter) → All KeepsPm10Quarter quarters → Every KeepsPm10Quarter quarters
keeps-each [] keeps = tt
keeps-each (q ∷ qs) keeps = (All-head KeepsPm10Quarter q qs keeps, keeps-each qs (All-tail KeepsPm10Quarter q qs keeps))

pub pm10-well_formed : (office : Office) (site : Site) (year : ℕ) → is_year year ≡ true → IsWellFormed (pm10_answer office site year)
unfolding pm10_answer pm10_sheet pm10_columns
pm10-well_formed office site year asked =
    let quarters = pm10_year office site year in
    let keeps : KeepsPm10Year quarters = pm10_year-keeps office site year in
    let few = of_profile year asked in
    let four = keeps.four in
    record {
      heads =
          heads-of (pm10_answer office site year).heads
          (site-word site, (count year (omega arith), (if_fixed 0 36800 1 (year_of_quarters quarter_estimate quarters) (omega arith) (omega arith) refl (year_estimate-held quarters keeps), tt)));
      names_differ = refl;
      columns = refl;
      rows = numbered-rows pm10_columns KeepsPm10Quarter 5 pm10_cells pm10-row 1 quarters (omega arith) (keeps-each quarters keeps.each);
    }
