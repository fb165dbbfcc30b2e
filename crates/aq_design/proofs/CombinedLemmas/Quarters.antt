-- The quarters and years of a pair are those that what reads one site makes of its days.
use Rattle.std.proofs.Common.{◌≡◌, ℕ, List, [], ◌∷◌, ap, sym, subst}
use Rattle.std.specs.Prelude.{filter, filter_map, is_some}
use Rattle.aq_base.specs.Calendar.{days_in_quarter, quarter_first, quarter_number}
use Rattle.aq_base.specs.declared.observation.ObsKey.{ObsKey}
use Rattle.aq_base.specs.declared.observation.Observation.{Observation}
use Rattle.aq_base.specs.declared.office.OfficeRecord.{OfficeRecord}
use Rattle.aq_rules.specs.Combined.Pair.{Pair, is_pair_sampled, is_pair_scheduled, pair_counts, pair_net_day, pair_pm25_year, pair_quarter}
use Rattle.aq_rules.specs.Kept.Summaries.{summary_of_year}
use Rattle.aq_rules.specs.Office.Office.{IsOffice, Office}
use Rattle.aq_rules.specs.Particles.QuarterCounts.{Makeup, counts_by, days_of_quarter}
use Rattle.aq_registry.specs.Registry.{office_with}
use Rattle.aq_series.specs.OfficeView.{office_of}
use Rattle.aq_particles.specs.Pm25.SiteDays.{AreApart, credits_by, quarter_by, year_by}
use Rattle.aq_particles.proofs.Pm25Lemmas.Makeups.{HoldsSpan}
use Rattle.aq_design.specs.Combined.Makeups.{makeup_of_pair}
use Rattle.aq_design.specs.Combined.Pairs.{days_of}
use Rattle.aq_design.proofs.CombinedLemmas.Credits.{credits-of-pair, pair-apart}

module _ (records : List OfficeRecord) (rows : List (ObsKey × Observation)) (pair : Pair) (valid : IsOffice (office_with records)) where
  abbrev office : Office
  office = office_of records rows

  pub credits-apart : (quarter : ℕ) → HoldsSpan quarter (quarter_first quarter) (days_in_quarter quarter)
      → AreApart quarter (credits_by (days_of office pair) (makeup_of_pair office pair) quarter)
  credits-apart quarter holds = subst (AreApart quarter) (credits-of-pair records rows pair quarter valid holds) (pair-apart records rows pair quarter valid holds)

  quarter-of-pair : (quarter : ℕ) → HoldsSpan quarter (quarter_first quarter) (days_in_quarter quarter)
      → quarter_by (days_of office pair) (makeup_of_pair office pair) quarter ≡ pair_quarter office pair quarter
  unfolding pair_counts
  quarter-of-pair quarter holds =
      ap (λ (made : List Makeup). record {
        counts = counts_by (is_pair_sampled office pair) (λ day. is_some (pair_net_day office pair day)) (filter (is_pair_scheduled office pair) (days_of_quarter quarter)) made;
        values = filter_map (pair_net_day office pair) (days_of_quarter quarter);
      }) (sym (credits-of-pair records rows pair quarter valid holds))

  pub year-of-pair : (year : ℕ) → ((quarter : ℕ) → HoldsSpan quarter (quarter_first quarter) (days_in_quarter quarter))
      → summary_of_year (year_by (days_of office pair) (makeup_of_pair office pair) year) ≡ summary_of_year (pair_pm25_year office pair year)
  unfolding pair_pm25_year year_by
  year-of-pair year holds =
      let at : ℕ → ℕ = quarter_number year in
      let one = quarter-of-pair (at 0) (holds (at 0)) in
      let two = quarter-of-pair (at 1) (holds (at 1)) in
      let three = quarter-of-pair (at 2) (holds (at 2)) in
      let four = quarter-of-pair (at 3) (holds (at 3)) in
      ap summary_of_year (λ i. one i ∷ two i ∷ three i ∷ four i ∷ [])
