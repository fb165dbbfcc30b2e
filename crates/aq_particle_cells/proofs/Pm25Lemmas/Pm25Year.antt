-- The PM2.5 year of the days that are kept, by its quarters and its greatest values.
use Rattle.std.proofs.Common.{◌≡◌, ℕ, ◌<◌, ◌≤◌, List, [], ◌∷◌, map, refl, ap, sym, subst, ◌∙◌}
use Rattle.std.specs.Prelude.{ℤ, filter_map}
use Rattle.std.specs.List.{range_with_len}
use Rattle.aq_base.specs.Calendar.{days_in_year, quarter_number, year_first}
use Rattle.aq_base.specs.Site.{Site}
use Rattle.aq_base.specs.declared.day.TheConstants.{FIRST_YEAR}
use Rattle.aq_base.specs.declared.office.OfficeRecord.{OfficeRecord}
use Rattle.aq_particles.proofs.Pm25Lemmas.Facts.{every_of}
use Rattle.aq_particles.proofs.Pm25Lemmas.Years.{all_four, all_in_range}
use Rattle.aq_particles.specs.Pm25.SiteDays.{net_by}
use Rattle.aq_registry.specs.Registry.{office_with}
use Rattle.aq_rules.proofs.Elements.{Every}
use Rattle.aq_rules.proofs.Pm25Facts.{top-count, top-falls, top-greatest}
use Rattle.aq_rules.proofs.Pm25Range.{every-take}
use Rattle.aq_rules.proofs.ValueRange.{InRangeTo, every-ranked}
use Rattle.aq_rules.specs.Kept.Summaries.{KeepsPmQuarter, KeepsPmYear, PmQuarter, PmYear, eight_greatest, pm25_summary, scheduled_in, summary_of_quarter}
use Rattle.aq_rules.specs.Lists.{ranked}
use Rattle.aq_rules.specs.Particles.QuarterCounts.{QuarterDays, days_of_quarter, pm25_year, quarter_counts, quarters_of, values_in}
use Rattle.aq_particle_cells.specs.Days.KeptDays.{cell_at, Days, AreDaysOfParticles}
use Rattle.aq_particle_cells.specs.Pm25.Pm25Cells.{quarter_of_days, site_by, year_of_days, AreCountedBy, IsCountedBy}
use Rattle.aq_particle_cells.proofs.DaysLemmas.ItemCounts.{net-particles}
use Rattle.aq_particle_cells.proofs.Pm25Lemmas.Pm25Exchange.{net_on}
use Rattle.aq_particle_cells.proofs.DaysLemmas.YearDays.{items-of_year, year-of_part}

module _ (records : List OfficeRecord) (days : Days) (site : Site) (year : ℕ) (low : FIRST_YEAR ≤ year) where
  abbrev quarter_at : ℕ → QuarterDays
  quarter_at part = quarter_of_days records days site (quarter_number year part)

  abbrev quarters : List QuarterDays
  quarters = map (quarter_of_days records days site) (quarters_of year)

  abbrev days_of_year : List ℕ
  days_of_year = range_with_len (year_first year) (days_in_year year)

  abbrev pub year_values : List ℤ
  year_values = filter_map (net_on days site) days_of_year

  values-are : year_values ≡ values_in quarters
  unfolding quarter_of_days days_of_quarter cell_at
  values-are = items-of_year (net_on days site) year low

  net-are : year_values ≡ filter_map (net_by (site_by records site (cell_at days site))) days_of_year
  unfolding cell_at
  net-are = refl

  every : AreDaysOfParticles days → Every (InRangeTo 99999) (values_in quarters)
  every particles =
      subst (Every (InRangeTo 99999)) (sym net-are ∙ values-are)
      (every_of (filter_map (net_by (site_by records site (cell_at days site))) days_of_year) (net-particles (cell_at days site) (particles site) days_of_year))

  -- the schedule is the same whatever was observed
  scheduled-same : scheduled_in (map summary_of_quarter quarters) ≡ scheduled_in (pm25_summary (office_with records) site year).quarters
  unfolding quarter_of_days pm25_summary pm25_year quarter_counts
  scheduled-same = refl

  pub part-counted : (quarter part : ℕ) → part < 4 → quarter ≡ quarter_number year part → AreCountedBy records days site year → IsCountedBy records days site quarter
  unfolding AreCountedBy IsCountedBy
  part-counted quarter part few is counted day within its = counted day within (year-of_part year part day low few within (its ∙ is))

  module _ (p q r s : ℕ) (w x y z : PmQuarter) (top : List ℤ)
      (pi : p ≡ quarter_number year 0) (qi : q ≡ quarter_number year 1) (ri : r ≡ quarter_number year 2) (si : s ≡ quarter_number year 3)
      (wi : w ≡ summary_of_quarter (quarter_of_days records days site p)) (xi : x ≡ summary_of_quarter (quarter_of_days records days site q))
      (yi : y ≡ summary_of_quarter (quarter_of_days records days site r)) (zi : z ≡ summary_of_quarter (quarter_of_days records days site s))
      (ti : top ≡ eight_greatest year_values) where
    abbrev kept : PmYear
    kept = record { quarters = w ∷ x ∷ y ∷ z ∷ []; top = top }

    summary-is : (n : ℕ) (v : PmQuarter) (part : ℕ) → n ≡ quarter_number year part → v ≡ summary_of_quarter (quarter_of_days records days site n) → v ≡ summary_of_quarter (quarter_at part)
    summary-is n v part ni vi = vi ∙ ap (λ k. summary_of_quarter (quarter_of_days records days site k)) ni

    pub year-is : kept ≡ year_of_days records days site year
    unfolding year_of_days
    year-is = λ i. record {
      quarters = summary-is p w 0 pi wi i ∷ summary-is q x 1 qi xi i ∷ summary-is r y 2 ri yi i ∷ summary-is s z 3 si zi i ∷ [];
      top = (ti ∙ ap eight_greatest values-are) i;
    }

    of-days : AreDaysOfParticles days → KeepsPmQuarter w → KeepsPmQuarter x → KeepsPmQuarter y → KeepsPmQuarter z
        → KeepsPmYear (pm25_summary (office_with records) site year) → KeepsPmYear (year_of_days records days site year)
    unfolding year_of_days
    of-days particles wk xk yk zk keeps = record {
      four = refl;
      quarters =
          all_four KeepsPmQuarter (summary_of_quarter (quarter_at 0)) (summary_of_quarter (quarter_at 1)) (summary_of_quarter (quarter_at 2)) (summary_of_quarter (quarter_at 3))
          (subst KeepsPmQuarter (summary-is p w 0 pi wi) wk) (subst KeepsPmQuarter (summary-is q x 1 qi xi) xk)
          (subst KeepsPmQuarter (summary-is r y 2 ri yi) yk) (subst KeepsPmQuarter (summary-is s z 3 si zi) zk);
      scheduled = subst (λ n. n ≤ 366) (sym scheduled-same) keeps.scheduled;
      top_falls = top-falls (values_in quarters);
      top_in_range = all_in_range (eight_greatest (values_in quarters)) (every-take 8 (ranked (values_in quarters)) (every-ranked 99999 (values_in quarters) (every particles)));
      top_count = top-count quarters;
      top_greatest = top-greatest quarters;
    }

    pub year-keeps : AreDaysOfParticles days → KeepsPmQuarter w → KeepsPmQuarter x → KeepsPmQuarter y → KeepsPmQuarter z
        → KeepsPmYear (pm25_summary (office_with records) site year) → KeepsPmYear kept
    year-keeps particles wk xk yk zk keeps = subst KeepsPmYear (sym year-is) (of-days particles wk xk yk zk keeps)
