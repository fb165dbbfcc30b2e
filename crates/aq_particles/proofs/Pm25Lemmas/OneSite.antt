-- A site of an office, read by what reads one site: its quarters and years are those of the book, and its make-up samples lie apart.
use Rattle.std.proofs.Common.{◌≡◌, ℕ, ◌&&◌, Bool, List, [], ◌∷◌, ap, sym, subst, arith}
use Rattle.std.specs.Prelude.{filter, filter_map}
use Rattle.std.proofs.lemmas.Bool.{and_parts}
use Rattle.std.proofs.lemmas.List.Sums.{length-filter}
use Rattle.aq_base.specs.Calendar.{days_in_quarter, quarter_first, quarter_number}
use Rattle.aq_base.specs.Site.{Site}
use Rattle.aq_base.specs.declared.monitor.Pollutant.TheVariants.{Pm25}
use Rattle.aq_base.specs.declared.observation.ObsKey.{ObsKey}
use Rattle.aq_base.specs.declared.observation.Observation.{Observation}
use Rattle.aq_base.specs.declared.office.OfficeRecord.{OfficeRecord}
use Rattle.aq_rules.specs.Kept.Summaries.{pm25_summary, summary_of_year}
use Rattle.aq_rules.specs.Office.Office.{IsOffice, Office}
use Rattle.aq_rules.specs.Office.Questions.{makeup_of}
use Rattle.aq_rules.specs.Particles.QuarterCounts.{Makeup, counts_by, credits, days_of_quarter, gives_credit, is_kept, is_sampled, makeup_by, pm25_quarter, pm25_year, quarter_counts, quarter_values, scheduled_days}
use Rattle.aq_registry.specs.Registry.{office_with}
use Rattle.aq_series.specs.OfficeView.{office_of}
use Rattle.aq_particles.specs.Pm25.SiteDays.{AreApart, credits_by, days_at, makeups_by, quarter_by, year_by}
use Rattle.aq_particles.proofs.Pm25Lemmas.Counts.{count-both}
use Rattle.aq_particles.proofs.Pm25Lemmas.MakeupDays.{made-fit}
use Rattle.aq_particles.proofs.Pm25Lemmas.Makeups.{HoldsSpan, makeups-are}

module _ (records : List OfficeRecord) (site : Site) (valid : IsOffice (office_with records)) where
  pub makeups-of : (quarter : ℕ) → HoldsSpan quarter (quarter_first quarter) (days_in_quarter quarter)
      → filter_map (makeup_by site quarter) records ≡ makeups_by (makeup_of records site) quarter
  unfolding days_of_quarter
  makeups-of quarter holds = makeups-are records site quarter (quarter_first quarter) (days_in_quarter quarter) valid holds

  -- those that pass a test have days of their own
  pub makeups-apart : (quarter : ℕ) → HoldsSpan quarter (quarter_first quarter) (days_in_quarter quarter) → (g : Makeup → Bool)
      → AreApart quarter (filter g (filter_map (makeup_by site quarter) records))
  unfolding days_of_quarter
  makeups-apart quarter holds g p =
      let made = filter_map (makeup_by site quarter) records in
      let both : Makeup → Bool = λ m. g m && p m.makeup in
      let few = made-fit records site quarter (quarter_first quarter) (days_in_quarter quarter) valid holds both p (λ m h. (and_parts (g m) (p m.makeup) h).1) in
      omega (arith, count-both (λ (m : Makeup). p m.makeup) g made, length-filter both made, few)

  module _ (rows : List (ObsKey × Observation)) where
    abbrev office : Office
    office = office_of records rows

    credits-are : (quarter : ℕ) → HoldsSpan quarter (quarter_first quarter) (days_in_quarter quarter)
        → credits office site quarter ≡ credits_by (days_at office site) (makeup_of records site) quarter
    unfolding credits credits_by
    credits-are quarter holds = ap (filter (gives_credit office site)) (makeups-of quarter holds)

    pub credits-apart : (quarter : ℕ) → HoldsSpan quarter (quarter_first quarter) (days_in_quarter quarter)
        → AreApart quarter (credits_by (days_at office site) (makeup_of records site) quarter)
    unfolding credits
    credits-apart quarter holds = subst (AreApart quarter) (credits-are quarter holds) (makeups-apart quarter holds (gives_credit office site))

    pub quarter-of-site : (quarter : ℕ) → HoldsSpan quarter (quarter_first quarter) (days_in_quarter quarter)
        → quarter_by (days_at office site) (makeup_of records site) quarter ≡ pm25_quarter office site quarter
    unfolding quarter_counts quarter_values
    quarter-of-site quarter holds =
        ap (λ (made : List Makeup). record {
          counts = counts_by (is_sampled office site Pm25) (is_kept office site Pm25) (scheduled_days office site Pm25 quarter) made;
          values = quarter_values office site Pm25 quarter;
        }) (sym (credits-are quarter holds))

    pub year-of-site : (year : ℕ) → ((quarter : ℕ) → HoldsSpan quarter (quarter_first quarter) (days_in_quarter quarter))
        → summary_of_year (year_by (days_at office site) (makeup_of records site) year) ≡ pm25_summary office site year
    unfolding pm25_summary pm25_year year_by
    year-of-site year holds =
        let at : ℕ → ℕ = quarter_number year in
        let one = quarter-of-site (at 0) (holds (at 0)) in
        let two = quarter-of-site (at 1) (holds (at 1)) in
        let three = quarter-of-site (at 2) (holds (at 2)) in
        let four = quarter-of-site (at 3) (holds (at 3)) in
        ap summary_of_year (λ i. one i ∷ two i ∷ three i ∷ four i ∷ [])
