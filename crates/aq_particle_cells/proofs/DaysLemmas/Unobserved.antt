-- A day on which nothing of a pollutant is observed at a site has no value.
use Rattle.std.proofs.Common.{◌≡◌, ℕ, ◌/◌, ◌<◌, ◌≤◌, Bool, true, false, cond, ◌&&◌, List, [], ◌∷◌, refl, ap, sym, ◌∙◌, arith}
use Rattle.std.specs.Prelude.{◌==◌, ◌||◌, Option, Some, None, nat_le, find, filter_map, option_map, option_and_then}
use Rattle.std.specs.List.{cons_option, list_all, list_any}
use Rattle.std.proofs.lemmas.Bool.{and_parts, eqb-true, false≢true, leb-true, or_parts}
use Rattle.std.proofs.lemmas.Bool.Decides.{nat_tests}
use Rattle.aq_base.specs.Calendar.{hour_number}
use Rattle.aq_base.specs.Site.{Site}
use Rattle.aq_base.specs.declared.day.TheConstants.{LAST_DAY, LAST_HOUR}
use Rattle.aq_base.specs.declared.monitor.Duration.{Duration}
use Rattle.aq_base.specs.declared.monitor.Duration.TheVariants.{Hour, Day}
use Rattle.aq_base.specs.declared.monitor.MonitorId.{MonitorId}
use Rattle.aq_base.specs.declared.monitor.Pollutant.{Pollutant}
use Rattle.aq_base.specs.declared.monitor.Pollutant.TheVariants.{Ozone, Pm25, Pm10}
use Rattle.aq_base.specs.declared.observation.ObsKey.{ObsKey}
use Rattle.aq_base.specs.declared.observation.Observation.{Observation}
use Rattle.aq_rules.specs.Office.Designation.{primary_on}
use Rattle.aq_rules.specs.Office.Exclusion.{excluded}
use Rattle.aq_rules.specs.Office.Monitors.{is_eligible, is_same_monitor, is_same_pollutant, is_same_site}
use Rattle.aq_rules.specs.Office.Office.{IsOffice, Office, duration_at, fits_monitors, is_content, is_kept_hour}
use Rattle.aq_rules.specs.Ozone.SiteHour.{Cell, Sample, chosen, is_of_poc}
use Rattle.aq_rules.specs.Particles.ParticleDay.{cell_of, counting_poc, day_cell, day_of_samples, eligible_pocs, monitor_day, sample_on, site_day, starts_on}
use Rattle.aq_particle_cells.specs.Days.Observed.{observes}

no-samples : (pollutant : Pollutant) (duration : Duration) → day_cell pollutant duration [] ≡ None
no-samples Ozone Hour = refl
no-samples Ozone Day = refl
no-samples Pm25 Hour = refl
no-samples Pm25 Day = refl
no-samples Pm10 Hour = refl
no-samples Pm10 Day = refl

starts-in : (duration : Duration) (day hour : ℕ) → starts_on duration day hour ≡ true → (hour / 24 == day) ≡ true
starts-in Hour day hour is = is
starts-in Day day hour is = let at : hour ≡ hour_number day 0 = eqb-true hour (hour_number day 0) is in grind (arith, nat_tests, at)

module _ (office : Office) (site : Site) (pollutant : Pollutant) (day : ℕ) where
  abbrev monitor : ℕ → MonitorId
  monitor poc = record { site = site; pollutant = pollutant; poc = poc }

  lies : (s c n k p q r : Bool) → ((((s && k) && p) && q) ≡ true) → (r ≡ true) → ((k && s) && r) ≡ true
  lies true c n true p q r is also = also
  lies true c n false p q r is also = absurd (false≢true is)
  lies false c n k p q r is also = absurd (false≢true is)

  no-cell : (duration : Duration) (poc : ℕ) (row : ObsKey × Observation) → observes pollutant site day row ≡ false → cell_of office (monitor poc) duration day row ≡ None
  no-cell duration poc row off = by (is_same_monitor row.0.monitor (monitor poc)) (starts_on duration day row.0.hour) refl refl
    where
      by : (m t : Bool) → is_same_monitor row.0.monitor (monitor poc) ≡ m → starts_on duration day row.0.hour ≡ t
          → cond (m && t) (option_map {U = Cell} (λ value. record { value = value; excluded = excluded office.records row.0 row.1.quals }) row.1.value) None ≡ None
      by true true same starts =
          let whole = and_parts (is_same_site row.0.monitor.site site && is_same_pollutant row.0.monitor.pollutant pollutant) (row.0.monitor.poc == poc) same in
          let both = and_parts (is_same_site row.0.monitor.site site) (is_same_pollutant row.0.monitor.pollutant pollutant) whole.0 in
          let on : observes pollutant site day row ≡ true = λ i. both.1 i && both.0 i && starts-in duration day row.0.hour starts i in
          absurd (false≢true (sym off ∙ on))
      by true false same starts = refl
      by false t same starts = refl

  no-cells : (duration : Duration) (poc : ℕ) (rows : List (ObsKey × Observation)) → list_any (observes pollutant site day) rows ≡ false → filter_map (cell_of office (monitor poc) duration day) rows ≡ []
  no-cells duration poc [] none = refl
  no-cells duration poc (row ∷ rows) none =
      let parts = or_parts (observes pollutant site day row) (list_any (observes pollutant site day) rows) none in
      λ i. cons_option (no-cell duration poc row parts.0 i) (no-cells duration poc rows parts.1 i)

  module _ (none : list_any (observes pollutant site day) office.observations ≡ false) where
    no-monitor : (poc : ℕ) → monitor_day office (monitor poc) day ≡ None
    unfolding monitor_day
    no-monitor poc = by (is_eligible office.records (monitor poc)) (duration_at office (monitor poc))
      where
        by : (b : Bool) (o : Option Duration) → cond b (option_and_then (λ duration. day_of_samples office (monitor poc) duration day) o) None ≡ None
        by false o = refl
        by true None = refl
        by true (Some duration) = ap (day_cell pollutant duration) (no-cells duration poc office.observations none) ∙ no-samples pollutant duration

    no-monitors : (pocs : List ℕ) → filter_map (sample_on office site pollutant day) pocs ≡ []
    no-monitors [] = refl
    no-monitors (poc ∷ pocs) =
        λ i. cons_option (option_map {U = Sample} (λ cell. record { poc = poc; cell = cell }) (no-monitor poc i)) (no-monitors pocs i)

pub unobserved : (office : Office) (site : Site) (pollutant : Pollutant) (day : ℕ) → list_any (observes pollutant site day) office.observations ≡ false → site_day office site pollutant day ≡ None
unfolding site_day
unobserved office site Ozone day none = refl
unobserved office site Pm25 day none =
    ap (λ (samples : List Sample). chosen (find (is_of_poc (primary_on office.records site Pm25 day)) samples) samples) (no-monitors office site Pm25 day none (eligible_pocs office.records site Pm25))
unobserved office site Pm10 day none =
    ap (λ (samples : List Sample). option_map (λ (s : Sample). s.cell) (find (is_of_poc (counting_poc office site day)) samples)) (no-monitors office site Pm10 day none (eligible_pocs office.records site Pm10))

-- nothing is observed past the profile
none-past : (office : Office) (site : Site) (pollutant : Pollutant) (day : ℕ) → LAST_DAY < day → (rows : List (ObsKey × Observation)) → list_all (fits_monitors office) rows ≡ true → list_any (observes pollutant site day) rows ≡ false
none-past office site pollutant day past [] fit = refl
none-past office site pollutant day past (row ∷ rows) fit =
    let parts = and_parts (fits_monitors office row) (list_all (fits_monitors office) rows) fit in
    let kept = is_kept_hour (duration_at office row.0.monitor) row.0.hour in
    let whole = and_parts (nat_le row.0.hour LAST_HOUR && kept) (is_content row.0.monitor.pollutant row.1) parts.0 in
    let hour : row.0.hour ≤ LAST_HOUR = leb-true row.0.hour LAST_HOUR (and_parts (nat_le row.0.hour LAST_HOUR) kept whole.0).0 in
    let off : (row.0.hour / 24 == day) ≡ false = grind (arith, nat_tests, hour, past) in
    (λ i. ((is_same_pollutant row.0.monitor.pollutant pollutant && is_same_site row.0.monitor.site site) && off i) || none-past office site pollutant day past rows parts.1 i)
    ∙ never (is_same_pollutant row.0.monitor.pollutant pollutant && is_same_site row.0.monitor.site site)
  where
    never : (b : Bool) → ((b && false) || false) ≡ false
    never true = refl
    never false = refl

pub past-profile : (office : Office) (site : Site) (pollutant : Pollutant) (day : ℕ) → IsOffice office → LAST_DAY < day → site_day office site pollutant day ≡ None
past-profile office site pollutant day valid past = unobserved office site pollutant day (none-past office site pollutant day past office.observations valid.observations_fit)
