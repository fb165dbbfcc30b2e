-- A concurrence reaches the hours of its event alone: the years that read none of them are as before, whatever observations stand.
use Rattle.std.proofs.Common.{◌≡◌, ℕ, ◌+◌, ◌-◌, ◌*◌, ◌<◌, ◌≤◌, ◌⊎◌, Bool, true, false, cond, ◌&&◌, ◌||◌, ◌==◌, Option, Some, None, List, [], ◌∷◌, map, length, refl, ap, sym, subst, ◌∙◌, arith, inl, inr}
use Rattle.std.specs.Prelude.{nat_le, is_some, find, option_map, option_and_then, unwrap_or, slice_get, count_by}
use Rattle.std.specs.List.{list_all, list_any, filter_map, cons_option}
use Rattle.std.specs.Option.{option_map_or, option_or}
use Rattle.std.proofs.Math.Bool.{and-false}
use Rattle.std.proofs.lemmas.Bool.{false≢true, and_parts, eqb-true}
use Rattle.std.proofs.lemmas.Bool.Decides.{nat_tests}
use Rattle.std.proofs.lemmas.List.Sums.{sum_by-cons}
use Rattle.aq_base.specs.Calendar.{day_of_hour, days_in_year, days_of_years, hour_number, is_year, quarter_number, year_first, year_of}
use Rattle.aq_base.specs.Site.{Site}
use Rattle.aq_base.specs.declared.assumed.Assumed.{Assumed}
use Rattle.aq_base.specs.declared.code.Code.{Code}
use Rattle.aq_base.specs.declared.day.TheConstants.{FIRST_YEAR, LAST_DAY}
use Rattle.aq_base.specs.declared.monitor.Duration.{Duration}
use Rattle.aq_base.specs.declared.monitor.Duration.TheVariants.{Hour, Day}
use Rattle.aq_base.specs.declared.monitor.MonitorId.{MonitorId}
use Rattle.aq_base.specs.declared.monitor.Pollutant.{Pollutant}
use Rattle.aq_base.specs.declared.monitor.Pollutant.TheVariants.{Ozone, Pm25, Pm10}
use Rattle.aq_base.specs.declared.observation.ObsKey.{ObsKey}
use Rattle.aq_base.specs.declared.observation.Observation.{Observation}
use Rattle.aq_base.specs.declared.office.OfficeRecord.{OfficeRecord}
use Rattle.aq_base.specs.declared.office.OfficeRecord.TheVariants.{Event, Concurrence}
use Rattle.aq_base.specs.declared.office.OfficeRecord.TheVariants as records
use Rattle.aq_base.specs.declared.office.OfficeLine.TheVariants.{Change}
use Rattle.aq_base.specs.declared.office.OfficeKey.TheVariants as keys
use Rattle.aq_rules.specs.Lines.Canonical.{canonical_office}
use Rattle.aq_rules.specs.Lines.Spellings.{◌>>=◌, is_event_number}
use Rattle.aq_rules.specs.Lists.{latest}
use Rattle.aq_rules.specs.Office.Approval.{approves, is_approved}
use Rattle.aq_rules.specs.Office.Designation.{Designation, designated_poc, designation_by, primary_on}
use Rattle.aq_rules.specs.Office.Exclusion.{agrees_to, excluded, is_flagged, is_within, takes_out}
use Rattle.aq_rules.specs.Office.Monitors.{is_eligible, is_same_monitor, is_same_pollutant, is_same_site, makes_eligible}
use Rattle.aq_rules.specs.Office.Office.{IsOffice, Office, comes_before, duration_at, fits_records, is_same, key_numbers, monitor_duration, record_rank, rises, with_row}
use Rattle.aq_rules.specs.Office.Questions.{record_of}
use Rattle.aq_rules.specs.Office.RowOrder.{with_row-rises}
use Rattle.aq_rules.specs.Office.Schedule.{Schedule, asks_for, is_scheduled, schedule_by}
use Rattle.aq_rules.specs.Office.Season.{Season, is_in_season, season_by, season_of, whole_year}
use Rattle.aq_rules.specs.Ozone.OzoneDay.{ozone_day}
use Rattle.aq_rules.specs.Ozone.OzoneYear.{counts_as_valid, days_of, fourth_of, ozone_days, ozone_year, ranked_maxima}
use Rattle.aq_rules.specs.Ozone.SiteHour.{Cell, Sample, chosen, is_of_poc, is_ozone_at, sample_of, samples_at, site_hour}
use Rattle.aq_rules.specs.Particles.ParticleDay.{cell_of, day_cell, day_of_samples, eligible_poc, eligible_pocs, lowest_poc, monitor_day, sample_on, samples_on, site_day, starts_on}
use Rattle.aq_rules.specs.Particles.Pm10Estimate.{pm10_quarter, pm10_year}
use Rattle.aq_rules.specs.Particles.QuarterCounts.{makeup_by, pm25_quarter, pm25_year}
use Rattle.aq_rules.specs.WhatIf.Assumed.{assume_one}
use Rattle.aq_rules.proofs.Assuming.{assume-line}
use Rattle.aq_rules.proofs.Days.{in_year, years_count, years_next}
use Rattle.aq_rules.proofs.Found.{Stands, any-onto, both_or_neither, some_is}
use Rattle.aq_rules.proofs.Lookups.{found-with}
use Rattle.aq_rules.proofs.Ranges.{range-agree}
use Rattle.aq_rules.proofs.ValidAfter.{line_leaves_valid}
use Rattle.aq_dirty.specs.OutOfReach.Outside.{AreAsBefore, IsOutside}
use Rattle.aq_dirty.proofs.OutOfReachLemmas.DaysOfQuarters.{quarter-in_year, year-of_quarter}
use Rattle.aq_dirty.proofs.OutOfReachLemmas.PmQuarters.{SameDays, SameSchedule, counts-same, pm10_quarter-same, values-same}
use Rattle.aq_dirty.proofs.OutOfReachLemmas.PmYears.{in-year}
use Rattle.aq_dirty.proofs.OutOfReachLemmas.Windows.{ozone_day-between}

given-all : {X Y : Type 0} (f g : X → Option Y) → ((x : X) → f x ≡ g x) → (xs : List X) → filter_map f xs ≡ filter_map g xs
given-all f g same [] = refl
given-all f g same (x ∷ xs) = λ i. cons_option (same x i) (given-all f g same xs i)

-- ---- what does not read a concurrence

module _ (number : ℕ) (agreed : Bool) where
  abbrev turned : List OfficeRecord → List OfficeRecord
  turned rows = with_row record_rank (Concurrence number agreed) rows

  -- a record of its rank is a concurrence in the event
  of-rank : {Y : Type 0} (word : OfficeRecord → Y) (none : Y) → ((f : Bool) → word (Concurrence number f) ≡ none) → (r : OfficeRecord) → is_same (record_rank (Concurrence number agreed)) (record_rank r) ≡ true → word r ≡ none
  of-rank word none off (Concurrence n f) same =
      let equal : number ≡ n = eqb-true number n (and_parts (number == n) true same).0 in
      subst (λ k. word (Concurrence k f) ≡ none) equal (off f)
  of-rank word none off r same = absurd (false≢true same)

  any-same : (test : OfficeRecord → Bool) → ((f : Bool) → test (Concurrence number f) ≡ false) → (rows : List OfficeRecord) → list_any test (turned rows) ≡ list_any test rows
  any-same test off [] = ap (λ t. t || false) (off agreed)
  any-same test off (r ∷ rows) = choose (comes_before (record_rank (Concurrence number agreed)) (record_rank r)) (is_same (record_rank (Concurrence number agreed)) (record_rank r)) refl (any-same test off rows)
    where
      choose : (a b : Bool) → is_same (record_rank (Concurrence number agreed)) (record_rank r) ≡ b → list_any test (turned rows) ≡ list_any test rows
          → list_any test (cond a (Concurrence number agreed ∷ r ∷ rows) (cond b (Concurrence number agreed ∷ rows) (r ∷ turned rows))) ≡ (test r || list_any test rows)
      choose true b is rest = ap (λ t. t || (test r || list_any test rows)) (off agreed)
      choose false true is rest = ap (λ t. t || list_any test rows) (off agreed ∙ sym (of-rank test false off r is))
      choose false false is rest = ap (λ t. test r || t) rest

  given-same : {Y : Type 0} (word : OfficeRecord → Option Y) → ((f : Bool) → word (Concurrence number f) ≡ None) → (rows : List OfficeRecord) → filter_map word (turned rows) ≡ filter_map word rows
  given-same word off [] = ap (λ o. cons_option o []) (off agreed)
  given-same word off (r ∷ rows) = choose (comes_before (record_rank (Concurrence number agreed)) (record_rank r)) (is_same (record_rank (Concurrence number agreed)) (record_rank r)) refl (given-same word off rows)
    where
      choose : (a b : Bool) → is_same (record_rank (Concurrence number agreed)) (record_rank r) ≡ b → filter_map word (turned rows) ≡ filter_map word rows
          → filter_map word (cond a (Concurrence number agreed ∷ r ∷ rows) (cond b (Concurrence number agreed ∷ rows) (r ∷ turned rows))) ≡ cons_option (word r) (filter_map word rows)
      choose true b is rest = ap (λ o. cons_option o (cons_option (word r) (filter_map word rows))) (off agreed)
      choose false true is rest = ap (λ o. cons_option o (filter_map word rows)) (off agreed ∙ sym (of-rank word None off r is))
      choose false false is rest = ap (cons_option (word r)) rest

  module _ (rows : List OfficeRecord) where
    eligible-same : (id : MonitorId) → is_eligible (turned rows) id ≡ is_eligible rows id
    unfolding is_eligible
    eligible-same id = any-same (makes_eligible id) (λ f. refl) rows

    pocs-same : (site : Site) (pollutant : Pollutant) → eligible_pocs (turned rows) site pollutant ≡ eligible_pocs rows site pollutant
    unfolding eligible_pocs
    pocs-same site pollutant = given-same (eligible_poc site pollutant) (λ f. refl) rows

    primary-same : (site : Site) (pollutant : Pollutant) (day : ℕ) → primary_on (turned rows) site pollutant day ≡ primary_on rows site pollutant day
    unfolding primary_on
    primary-same site pollutant day = ap (λ (l : List Designation). option_and_then designated_poc (latest (λ (d : Designation). d.from) l)) (given-same (designation_by site pollutant day) (λ f. refl) rows)

    scheduled-same : (site : Site) (pollutant : Pollutant) (day : ℕ) → is_scheduled (turned rows) site pollutant day ≡ is_scheduled rows site pollutant day
    unfolding is_scheduled
    scheduled-same site pollutant day = ap (λ (l : List Schedule). option_map_or (asks_for day) (latest (λ (s : Schedule). s.from) l) false) (given-same (schedule_by site pollutant day) (λ f. refl) rows)

    season-same : (site : Site) (year : ℕ) → season_of (turned rows) site year ≡ season_of rows site year
    unfolding season_of
    season-same site year = ap (λ (l : List Season). unwrap_or (slice_get l 0) (whole_year year)) (given-same (season_by site year) (λ f. refl) rows)

    approved-same : (site : Site) (day : ℕ) → is_approved (turned rows) site day ≡ is_approved rows site day
    unfolding is_approved
    approved-same site day = any-same (approves site day) (λ f. refl) rows

-- ---- exclusions

-- whether the record is an event whose span holds the key
holds : ObsKey → OfficeRecord → Bool
holds key (Event number site pollutant first last code) = is_within site pollutant first last key
holds key r = false

module _ (number : ℕ) (s : Site) (p : Pollutant) (first last : ℕ) (code : Code) where
  -- an hour before the event or after it
  abbrev pub Out : ℕ → Type 0
  Out hour = (hour < first) ⊎ (last < hour)

  abbrev event : OfficeRecord
  event = Event number s p first last code

  not-within : (key : ObsKey) → Out key.hour → is_within s p first last key ≡ false
  not-within key (inl before) =
      let late : nat_le first key.hour ≡ false = grind (arith, nat_tests, before) in
      let series = is_same_site key.monitor.site s && is_same_pollutant key.monitor.pollutant p in
      ap (λ t. (series && t) && nat_le key.hour last) late ∙ ap (λ t. t && nat_le key.hour last) (and-false series)
  not-within key (inr behind) =
      let early : nat_le key.hour last ≡ false = grind (arith, nat_tests, behind) in
      ap (λ t. (is_same_site key.monitor.site s && is_same_pollutant key.monitor.pollutant p && nat_le first key.hour) && t) early
      ∙ and-false (is_same_site key.monitor.site s && is_same_pollutant key.monitor.pollutant p && nat_le first key.hour)

  -- lists that differ in the event's concurrence exclude the same outside its span
  module _ (old new : List OfficeRecord) (up : rises record_rank old ≡ true) (stands : record_of old (keys.Event number) ≡ Some event)
      (events : (m : ℕ) → record_of old (keys.Event m) ≡ record_of new (keys.Event m))
      (agree : (m : ℕ) → (m == number) ≡ false → list_any (agrees_to m) old ≡ list_any (agrees_to m) new)
      (key : ObsKey) (codes : List Code) (out : Out key.hour) where
    one-onto : (m : ℕ) (t : Site) (q : Pollutant) (from until : ℕ) (other : Code) → (same : Bool) → (m == number) ≡ same
        → takes_out old key codes (Event m t q from until other) ≡ true → Stands record_rank old (Event m t q from until other)
        → (takes_out new key codes (Event m t q from until other) ≡ true) × Stands record_rank new (Event m t q from until other)
    unfolding holds
    one-onto m t q from until other true same is at =
        let equal : m ≡ number = eqb-true m number same in
        let it : Event m t q from until other ≡ event = some_is _ _ (sym at ∙ ap (λ k. record_of old (keys.Event k)) equal ∙ stands) in
        let flags = and_parts (is_flagged other codes && is_within t q from until key) (list_any (agrees_to m) old) is in
        let inside = (and_parts (is_flagged other codes) (is_within t q from until key) flags.0).1 in
        absurd (false≢true (sym (not-within key out) ∙ sym (ap (holds key) it) ∙ inside))
    one-onto m t q from until other false differs is at =
        (ap (λ a. (is_flagged other codes && is_within t q from until key) && a) (sym (agree m differs)) ∙ is, sym (events m) ∙ at)

    onto : (r : OfficeRecord) → takes_out old key codes r ≡ true → Stands record_rank old r → (takes_out new key codes r ≡ true) × Stands record_rank new r
    onto (Event m t q from until other) is at = one-onto m t q from until other (m == number) refl is at
    onto r is at = absurd (false≢true is)

    excluded-onto : excluded old key codes ≡ true → excluded new key codes ≡ true
    unfolding excluded
    excluded-onto any = any-onto record_rank (takes_out old key codes) (takes_out new key codes) old new up onto any

-- ---- an office with a concurrence

module _ (office : Office) (entry : Assumed) (s : Site) (p : Pollutant) (first last : ℕ) (code : Code)
    (up : rises record_rank office.records ≡ true) (stands : record_of office.records (keys.Event entry.number) ≡ Some (Event entry.number s p first last code)) where
  abbrev now : Office
  now = assume_one office entry

  abbrev Outside : ℕ → Type 0
  Outside hour = Out entry.number s p first last code hour

  events-same : (m : ℕ) → record_of now.records (keys.Event m) ≡ record_of office.records (keys.Event m)
  events-same m = found-with record_rank (key_numbers (keys.Event m)) (Concurrence entry.number entry.agreed) office.records

  agree-same : (m : ℕ) → (m == entry.number) ≡ false → list_any (agrees_to m) now.records ≡ list_any (agrees_to m) office.records
  agree-same m differs =
      any-same entry.number entry.agreed (agrees_to m)
      (λ f. let other : (entry.number == m) ≡ false = grind (arith, nat_tests, differs) in ap (λ t. t && f) other) office.records

  excluded-same : (key : ObsKey) (codes : List Code) → Outside key.hour → excluded now.records key codes ≡ excluded office.records key codes
  excluded-same key codes out =
      both_or_neither (excluded now.records key codes) (excluded office.records key codes)
      (excluded-onto entry.number s p first last code now.records office.records (with_row-rises record_rank (Concurrence entry.number entry.agreed) office.records up) (events-same entry.number ∙ stands) events-same agree-same key codes out)
      (excluded-onto entry.number s p first last code office.records now.records up stands (λ m. sym (events-same m)) (λ m differs. sym (agree-same m differs)) key codes out)

  -- ---- ozone

  module _ (site : Site) where
    sample-same : (hour : ℕ) → Outside hour → (row : ObsKey × Observation) → sample_of now site hour row ≡ sample_of office site hour row
    sample-same hour out row = by (is_ozone_at site hour row.0) refl
      where
        by : (here : Bool) → is_ozone_at site hour row.0 ≡ here → sample_of now site hour row ≡ sample_of office site hour row
        by true here =
            let on : row.0.hour ≡ hour = eqb-true row.0.hour hour (and_parts (is_same_pollutant row.0.monitor.pollutant Ozone && is_same_site row.0.monitor.site site) (row.0.hour == hour) here).1 in
            let eligible = eligible-same entry.number entry.agreed office.records row.0.monitor in
            let excluded_same = excluded-same row.0 row.1.quals (subst (λ h. Outside h) (sym on) out) in
            λ i. cond (is_ozone_at site hour row.0 && eligible i) (option_map (λ value. record { poc = row.0.monitor.poc; cell = record { value = value; excluded = excluded_same i } }) row.1.value) None
        by false other = rw other refl

    pub site_hour-same : (hour : ℕ) → Outside hour → site_hour now site hour ≡ site_hour office site hour
    unfolding site_hour
    site_hour-same hour out =
        let primary = primary-same entry.number entry.agreed office.records site Ozone (day_of_hour hour) in
        let samples : samples_at now site hour ≡ samples_at office site hour = given-all (sample_of now site hour) (sample_of office site hour) (sample-same hour out) office.observations in
        λ i. chosen (find (is_of_poc (primary i)) (samples i)) (samples i)

    out-in_year : (year hour : ℕ) → hour_number (year_first year) 0 ≤ hour → hour ≤ hour_number (year_first year + days_in_year year) 6 → IsOutside first last year → Outside hour
    out-in_year year hour low high (inl before) = inr (omega (arith, low, before))
    out-in_year year hour low high (inr behind) = inl (omega (arith, high, behind))

    module _ (year : ℕ) (out : IsOutside first last year) where
      day-same : (day : ℕ) → year_first year ≤ day → day < year_first year + days_in_year year → ozone_day now site day ≡ ozone_day office site day
      day-same day low high =
          ozone_day-between now office site day (λ hour from until within. site_hour-same hour (out-in_year year hour (omega (arith, low, from)) (omega (arith, high, until)) out))

      valid-same : (day : ℕ) → year_first year ≤ day → day < year_first year + days_in_year year → counts_as_valid now site day ≡ counts_as_valid office site day
      valid-same day low high = λ i. (day-same day low high i).valid || approved-same entry.number entry.agreed office.records site day i

      days-same : ozone_days now site year ≡ ozone_days office site year
      unfolding ozone_days days_of
      days-same =
          range-agree (λ f ks. map f ks) (λ y k rest. y ∷ rest) (λ f k ks. refl) (λ f g. refl) (ozone_day now site) (ozone_day office site) (year_first year) (days_in_year year) day-same

      abbrev counts_in : Office → Season → ℕ → Bool
      counts_in o season day = is_in_season season day && counts_as_valid o site day

      counted-same : (season : Season) → count_by (counts_in now season) (days_of year) ≡ count_by (counts_in office season) (days_of year)
      unfolding days_of
      counted-same season =
          range-agree (λ q ks. count_by q ks) (λ t k rest. cond t 1 0 + rest) (λ q k ks. sum_by-cons (λ n. cond (q n) 1 0) k ks) (λ q r. refl)
          (counts_in now season) (counts_in office season) (year_first year) (days_in_year year)
          (λ day low high. ap (λ t. is_in_season season day && t) (valid-same day low high))

      pub ozone_year-same : ozone_year now site year ≡ ozone_year office site year
      unfolding ozone_year
      ozone_year-same =
          let season = season-same entry.number entry.agreed office.records site year in
          let counted = counted-same (season_of now.records site year) ∙ ap (λ (t : Season). count_by (counts_in office t) (days_of year)) season in
          λ i. record {
            season_days = count_by (is_in_season (season i)) (days_of year);
            season_valid = counted i;
            ranked = length (ranked_maxima (days-same i));
            fourth = fourth_of (ranked_maxima (days-same i));
          }

  -- ---- PM2.5 and PM10

  -- no hour of the day lies in the event
  abbrev OutsideDay : ℕ → Type 0
  OutsideDay day = (hour : ℕ) → day_of_hour hour ≡ day → Outside hour

  on-day : (duration : Duration) (day hour : ℕ) → starts_on duration day hour ≡ true → day_of_hour hour ≡ day
  on-day Hour day hour is = eqb-true (day_of_hour hour) day is
  on-day Day day hour is = let same : hour ≡ hour_number day 0 = eqb-true hour (hour_number day 0) is in omega (arith, same)

  module _ (day : ℕ) (out : OutsideDay day) where
    cell-same : (monitor : MonitorId) (duration : Duration) (row : ObsKey × Observation) → cell_of now monitor duration day row ≡ cell_of office monitor duration day row
    cell-same monitor duration row = by (is_same_monitor row.0.monitor monitor && starts_on duration day row.0.hour) refl
      where
        by : (here : Bool) → (is_same_monitor row.0.monitor monitor && starts_on duration day row.0.hour) ≡ here → cell_of now monitor duration day row ≡ cell_of office monitor duration day row
        by true here =
            let on = on-day duration day row.0.hour (and_parts (is_same_monitor row.0.monitor monitor) (starts_on duration day row.0.hour) here).1 in
            let excluded_same = excluded-same row.0 row.1.quals (out row.0.hour on) in
            λ i. cond (is_same_monitor row.0.monitor monitor && starts_on duration day row.0.hour) (option_map (λ value. record { value = value; excluded = excluded_same i }) row.1.value) None
        by false other = rw other refl

    samples_of-same : (monitor : MonitorId) (duration : Duration) → day_of_samples now monitor duration day ≡ day_of_samples office monitor duration day
    samples_of-same monitor duration =
        ap (day_cell monitor.pollutant duration) (given-all (cell_of now monitor duration day) (cell_of office monitor duration day) (cell-same monitor duration) office.observations)

    duration-same : (monitor : MonitorId) → duration_at now monitor ≡ duration_at office monitor
    duration-same monitor = ap (λ (o : Option OfficeRecord). o >>= monitor_duration) (found-with record_rank (key_numbers (keys.Monitor monitor)) (Concurrence entry.number entry.agreed) office.records)

    monitor_day-same : (monitor : MonitorId) → monitor_day now monitor day ≡ monitor_day office monitor day
    unfolding monitor_day
    monitor_day-same monitor =
        λ i. cond (eligible-same entry.number entry.agreed office.records monitor i) (option_and_then (λ duration. samples_of-same monitor duration i) (duration-same monitor i)) None

    samples-same : (site : Site) (pollutant : Pollutant) → samples_on now site pollutant day ≡ samples_on office site pollutant day
    samples-same site pollutant =
        given-all (sample_on now site pollutant day) (sample_on office site pollutant day)
        (λ poc. ap (option_map (λ (cell : Cell). record { poc = poc; cell = cell })) (monitor_day-same (record { site = site; pollutant = pollutant; poc = poc }))) (eligible_pocs now.records site pollutant)
        ∙ ap (filter_map (sample_on office site pollutant day)) (pocs-same entry.number entry.agreed office.records site pollutant)

    pub site_day-same : (site : Site) (pollutant : Pollutant) → site_day now site pollutant day ≡ site_day office site pollutant day
    unfolding site_day
    site_day-same site Ozone = refl
    site_day-same site Pm25 =
        let primary = primary-same entry.number entry.agreed office.records site Pm25 day in
        let samples = samples-same site Pm25 in
        λ i. chosen (find (is_of_poc (primary i)) (samples i)) (samples i)
    site_day-same site Pm10 =
        let primary = primary-same entry.number entry.agreed office.records site Pm10 day in
        let pocs = pocs-same entry.number entry.agreed office.records site Pm10 in
        let samples = samples-same site Pm10 in
        λ i. option_map (λ (t : Sample). t.cell) (find (is_of_poc (option_or (primary i) (lowest_poc (pocs i)))) (samples i))

  module _ (site : Site) (year : ℕ) (out : IsOutside first last year) (inside : is_year year ≡ true) where
    -- the days of the year hold no hour of the event
    days-outside : (day : ℕ) → day ≤ LAST_DAY → year_of day ≡ year → OutsideDay day
    days-outside day small is hour on =
        let it = in_year day small in
        let year_is = it.year in
        let from = it.from in
        let before = it.before in
        let place : year - FIRST_YEAR ≡ years_count day = omega (arith, year_is, is) in
        let start : year_first year ≡ days_of_years (years_count day) = ap days_of_years place in
        let next = years_next (years_count day) in
        let many : days_in_year (FIRST_YEAR + years_count day) ≡ days_in_year year = ap days_in_year (sym year_is ∙ is) in
        let low : 24 * day ≤ hour = omega (arith, on) in
        let high : hour < 24 * day + 24 = omega (arith, on) in
        out-in_year site year hour (omega (arith, low, from, start)) (omega (arith, high, before, next, many, start)) out

    days-of : (pollutant : Pollutant) (part : ℕ) → part < 4 → SameDays now office site pollutant (quarter_number year part)
    days-of pollutant part few day is =
        site_day-same day (days-outside day is.in_profile (year-of_quarter (quarter_number year part) day is ∙ quarter-in_year year part few inside)) site pollutant

    schedule-of : (pollutant : Pollutant) (quarter : ℕ) → SameSchedule now office site pollutant quarter
    schedule-of pollutant quarter day is = scheduled-same entry.number entry.agreed office.records site pollutant day

    pm10-part : (part : ℕ) → part < 4 → pm10_quarter now site (quarter_number year part) ≡ pm10_quarter office site (quarter_number year part)
    pm10-part part few = pm10_quarter-same now office site (quarter_number year part) (in-year year part few inside) (days-of Pm10 part few) (schedule-of Pm10 (quarter_number year part))

    pub pm10_year-same : pm10_year now site year ≡ pm10_year office site year
    unfolding pm10_year
    pm10_year-same = λ i. pm10-part 0 (omega arith) i ∷ pm10-part 1 (omega arith) i ∷ pm10-part 2 (omega arith) i ∷ pm10-part 3 (omega arith) i ∷ []

    module _ (fit : list_all (fits_records now) now.records ≡ true) where
      pm25-part : (part : ℕ) → part < 4 → pm25_quarter now site (quarter_number year part) ≡ pm25_quarter office site (quarter_number year part)
      pm25-part part few =
          let quarter = quarter_number year part in
          let made = given-same entry.number entry.agreed (makeup_by site quarter) (λ f. refl) office.records in
          let counts = counts-same now office site quarter (in-year year part few inside) (days-of Pm25 part few) (schedule-of Pm25 quarter) fit made in
          let values = values-same now office site Pm25 quarter (in-year year part few inside) (days-of Pm25 part few) in
          λ i. record { counts = counts i; values = values i }

      pub pm25_year-same : pm25_year now site year ≡ pm25_year office site year
      unfolding pm25_year
      pm25_year-same = λ i. pm25-part 0 (omega arith) i ∷ pm25-part 1 (omega arith) i ∷ pm25-part 2 (omega arith) i ∷ pm25-part 3 (omega arith) i ∷ []

-- ---- a valid office

-- the records alone
abbrev bare : Office → Office
bare office = record { records = office.records; observations = []; loads = [] }

all-alike : {X : Type 0} (test other : X → Bool) → ((x : X) → test x ≡ other x) → (xs : List X) → list_all test xs ≡ list_all other xs
all-alike test other alike [] = refl
all-alike test other alike (x ∷ xs) = λ i. alike x i && all-alike test other alike xs i

fits-bare : (office : Office) (r : OfficeRecord) → fits_records (bare office) r ≡ fits_records office r
fits-bare office (records.Monitor id duration eligible) = refl
fits-bare office (records.Primary site pollutant from poc) = refl
fits-bare office (records.Schedule site pollutant from interval anchor) = refl
fits-bare office (records.Season site year first last) = refl
fits-bare office (records.Makeup site missed makeup) = refl
fits-bare office (Event number site pollutant first last code) = refl
fits-bare office (Concurrence number agreed) = refl
fits-bare office (records.Approved site day) = refl
fits-bare office (records.Combined site pollutant from joined) = refl

module _ (office : Office) (entry : Assumed) (s : Site) (p : Pollutant) (first last : ℕ) (code : Code)
    (valid : IsOffice (bare office)) (numbered : is_event_number entry.number ≡ true) (stands : record_of office.records (keys.Event entry.number) ≡ Some (Event entry.number s p first last code)) where
  still-valid : IsOffice (bare (assume_one office entry))
  still-valid =
      subst IsOffice (assume-line (bare office) entry.number entry.agreed numbered (ap is_some stands))
      (line_leaves_valid (bare office) (canonical_office (Change (Concurrence entry.number entry.agreed))) valid)

  still-fit : list_all (fits_records (assume_one office entry)) (assume_one office entry).records ≡ true
  still-fit =
      sym (all-alike (fits_records (bare (assume_one office entry))) (fits_records (assume_one office entry)) (fits-bare (assume_one office entry)) (assume_one office entry).records)
      ∙ still-valid.records_fit

  pub as-before : AreAsBefore office (assume_one office entry) first last
  as-before =
      let up = valid.keys_rise.records in
      record {
        ozone = λ site year out. ozone_year-same office entry s p first last code up stands site year out;
        pm25 = λ site year inside out. pm25_year-same office entry s p first last code up stands site year out inside still-fit;
        pm10 = λ site year inside out. pm10_year-same office entry s p first last code up stands site year out inside;
      }
