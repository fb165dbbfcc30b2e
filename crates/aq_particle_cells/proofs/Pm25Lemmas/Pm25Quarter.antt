-- The PM2.5 quarter of the days that are kept, by its tallies.
use Rattle.std.proofs.Common.{◌≡◌, ℕ, ◌+◌, ◌<◌, ◌≤◌, Bool, true, false, cond, List, length, refl, ap, sym, subst, ◌∙◌, arith}
use Rattle.std.specs.Prelude.{ℤ, pos, Option, Some, None, is_some, option_map, option_and_then, count_by, filter, filter_map}
use Rattle.std.specs.List.{range_with_len}
use Rattle.std.proofs.lemmas.Int.{ints}
use Rattle.std.proofs.lemmas.List.FromFn.{length-range_with_len}
use Rattle.std.proofs.lemmas.List.Sums.{count_by-le-length}
use Rattle.aq_agg.proofs.ItemsOfDays.{few_items, same_items}
use Rattle.aq_base.specs.Calendar.{days_in_quarter, quarter_first}
use Rattle.aq_base.specs.Site.{Site}
use Rattle.aq_base.specs.declared.day.TheConstants.{LAST_DAY}
use Rattle.aq_base.specs.declared.office.OfficeRecord.{OfficeRecord}
use Rattle.aq_cal.proofs.Within.{quarter_holds}
use Rattle.aq_rules.proofs.Pm10Facts.{quarter_days}
use Rattle.aq_rules.specs.Kept.Summaries.{summary_of_quarter, KeepsPmQuarter, PmQuarter}
use Rattle.aq_rules.specs.Lists.{greatest, least, total}
use Rattle.aq_rules.specs.Office.Office.{IsOffice}
use Rattle.aq_rules.specs.Office.Questions.{makeup_of}
use Rattle.aq_rules.specs.Ozone.SiteHour.{Cell}
use Rattle.aq_rules.specs.Particles.ParticleDay.{unless_excluded}
use Rattle.aq_rules.specs.Particles.QuarterCounts.{Makeup, QuarterDays, counts_by, days_of_quarter}
use Rattle.aq_registry.specs.Registry.{office_with}
use Rattle.aq_particles.proofs.Pm25Lemmas.Facts.{counted_is, creditable_is, quarter-keeps}
use Rattle.aq_particles.proofs.Pm25Lemmas.OneSite.{makeups-apart, makeups-of}
use Rattle.aq_particles.specs.Pm25.SiteDays.{AreApart, SiteDays, credits_by, gives_credit_by, is_sampled_by, net_by, quarter_by}
use Rattle.aq_particles.specs.Pm25.QuarterValues.{AreParticles}
use Rattle.aq_particle_cells.specs.Days.KeptDays.{cell_at, sample_at, Days, AreDaysOfParticles}
use Rattle.aq_particle_cells.specs.Pm25.Pm25Cells.{credited_by, quarter_of_days, sample_from, site_by, IsCountedBy}
use Rattle.aq_particle_cells.specs.Pm25.Pm25Tallies.{item_of}
use Rattle.aq_particle_cells.proofs.DaysLemmas.ItemCounts.{items-number, items-total, net-particles}
use Rattle.aq_particle_cells.proofs.Pm25Lemmas.Pm25Exchange.{counted_on, net_on}

-- how many creditable samples are not excluded
abbrev pub counted_number : List OfficeRecord → Days → Site → ℕ → ℕ
counted_number records days site quarter = (summary_of_quarter (quarter_of_days records days site quarter)).counted

module _ (records : List OfficeRecord) (days : Days) (site : Site) (quarter : ℕ) (valid : IsOffice (office_with records))
    (in_profile : quarter_first quarter + days_in_quarter quarter ≤ LAST_DAY + 1) where
  abbrev span : List ℕ
  span = range_with_len (quarter_first quarter) (days_in_quarter quarter)

  abbrev kept : SiteDays
  kept = site_by records site (cell_at days site)

  abbrev makeup : ℕ → Option ℕ
  makeup = makeup_of records site

  abbrev credited_on : ℕ → Option Cell
  credited_on = credited_by records site (cell_at days site)

  abbrev net : Option Cell → Bool
  net cell = is_some (option_and_then unless_excluded cell)

  -- the quarter, by its make-ups day by day
  same-quarter : quarter_by kept makeup quarter ≡ quarter_of_days records days site quarter
  unfolding credits_by quarter_of_days
  same-quarter =
      ap (λ (made : List Makeup). record {
        counts = counts_by (is_sampled_by kept) (λ day. is_some (net_by kept day)) (filter kept.schedules (days_of_quarter quarter)) (filter (gives_credit_by kept) made);
        values = filter_map (net_by kept) (days_of_quarter quarter);
      }) (sym (makeups-of records site valid quarter (quarter_holds quarter)))

  same-summary : summary_of_quarter (quarter_by kept makeup quarter) ≡ summary_of_quarter (quarter_of_days records days site quarter)
  same-summary = ap summary_of_quarter same-quarter

  apart : AreApart quarter (credits_by kept makeup quarter)
  unfolding credits_by
  apart =
      subst (λ (made : List Makeup). AreApart quarter (filter (gives_credit_by kept) made)) (makeups-of records site valid quarter (quarter_holds quarter))
      (makeups-apart records site valid quarter (quarter_holds quarter) (gives_credit_by kept))

  pub quarter_of-keeps : AreDaysOfParticles days → KeepsPmQuarter (summary_of_quarter (quarter_of_days records days site quarter))
  quarter_of-keeps particles =
      subst (λ (q : QuarterDays). KeepsPmQuarter (summary_of_quarter q)) same-quarter
      (quarter-keeps kept makeup quarter apart (net-particles (cell_at days site) (particles site) (days_of_quarter quarter)))

  pub few-samples : length (filter_map (counted_on days site) span) ≤ 92
  few-samples =
      let most = (quarter_days quarter).1 in
      omega (arith, most, few_items (counted_on days site) span, length-range_with_len (quarter_first quarter) (days_in_quarter quarter))

  pub few-values : length (filter_map (net_on days site) span) ≤ 92
  few-values =
      let most = (quarter_days quarter).1 in
      omega (arith, most, few_items (net_on days site) span, length-range_with_len (quarter_first quarter) (days_in_quarter quarter))

  values-are : filter_map (net_on days site) span ≡ filter_map (net_by kept) span
  unfolding cell_at
  values-are = refl

  pub values-range : AreDaysOfParticles days → AreParticles (filter_map (net_on days site) span)
  values-range particles = subst AreParticles (sym values-are) (net-particles (cell_at days site) (particles site) span)

  module _ (counted : IsCountedBy records days site quarter) where
    sample-is : (k : ℕ) → quarter_first quarter ≤ k → k < quarter_first quarter + days_in_quarter quarter → counted_on days site k ≡ option_map item_of (credited_on k)
    unfolding sample_at sample_from IsCountedBy
    sample-is k low high =
        let within : k ≤ LAST_DAY = omega (arith, high, in_profile) in
        ap (option_map item_of) (counted k within ((quarter_holds quarter k within).1 (low, high)))

    samples-are : filter_map (counted_on days site) span ≡ filter_map (λ k. option_map item_of (credited_on k)) span
    samples-are = same_items (counted_on days site) (λ k. option_map item_of (credited_on k)) (quarter_first quarter) (days_in_quarter quarter) sample-is

    pub number-is : length (filter_map (counted_on days site) span) ≡ (summary_of_quarter (quarter_of_days records days site quarter)).creditable
    unfolding days_of_quarter
    number-is =
        ap length samples-are ∙ items-number item_of credited_on span ∙ creditable_is kept makeup quarter
        ∙ ap (λ (q : PmQuarter). q.creditable) same-summary

    item-of : (c : Cell) → item_of c ≡ cond (net (Some c)) (pos 1) (pos 0)
    item-of c = by c.excluded
      where
        by : (b : Bool) → cond b (pos 0) (pos 1) ≡ cond (is_some (cond b None (Some c.value))) (pos 1) (pos 0)
        by true = refl
        by false = refl

    total-of : total (filter_map (counted_on days site) span) ≡ pos (count_by (λ d. net (credited_on d)) span)
    total-of = ap total samples-are ∙ items-total item_of credited_on net refl item-of span

    pub total-is : total (filter_map (counted_on days site) span) ≡ pos (counted_number records days site quarter)
    unfolding days_of_quarter
    total-is = total-of ∙ ap pos (counted_is kept makeup quarter ∙ ap (λ (q : PmQuarter). q.counted) same-summary)

    pub total-few : (n : ℕ) → total (filter_map (counted_on days site) span) ≡ pos n → n ≤ 92
    total-few n is =
        let most = (quarter_days quarter).1 in
        omega (arith, ints, most, sym is ∙ total-of, count_by-le-length (λ d. net (credited_on d)) span, length-range_with_len (quarter_first quarter) (days_in_quarter quarter))

    pub quarter-is : (s c n d : ℕ) (sum : ℤ) (low high : Option ℤ)
        → s ≡ length (filter kept.schedules (days_of_quarter quarter))
        → c ≡ length (filter_map (counted_on days site) span)
        → pos n ≡ total (filter_map (counted_on days site) span)
        → d ≡ length (filter_map (net_on days site) span)
        → sum ≡ total (filter_map (net_on days site) span)
        → low ≡ least (filter_map (net_on days site) span)
        → high ≡ greatest (filter_map (net_on days site) span)
        → (let kept : PmQuarter = record { scheduled = s; creditable = c; counted = n; net_days = d; sum = sum; least = low; greatest = high } in kept)
        ≡ summary_of_quarter (quarter_of_days records days site quarter)
    unfolding quarter_of_days days_of_quarter
    quarter-is s c n d sum low high si ci ni di sumi lowi highi =
        let counted_at : n ≡ counted_number records days site quarter = omega (arith, ints, ni ∙ total-is) in
        λ i. record {
          scheduled = si i;
          creditable = (ci ∙ number-is) i;
          counted = counted_at i;
          net_days = (di ∙ ap length values-are) i;
          sum = (sumi ∙ ap total values-are) i;
          least = (lowi ∙ ap least values-are) i;
          greatest = (highi ∙ ap greatest values-are) i;
        }
