-- A day of PM2.5 or PM10 that is not in reach. The records are changed first, over the observations of before, and then the observations.
use Rattle.std.proofs.Common.{◌≡◌, ℕ, ◌≤◌, Bool, true, false, cond, not, ◌&&◌, List, [], ◌∷◌, refl, sym, ap, ◌∙◌, subst, arith}
use Rattle.std.specs.Prelude.{Option, Some, None, is_none, option_map, option_and_then, find, nat_le, ◌==◌}
use Rattle.std.specs.List.{list_any, list_all, filter, filter_map, cons_option}
use Rattle.std.specs.Option.{option_or}
use Rattle.std.proofs.lemmas.Bool.{false≢true, and_parts, eqb-true}
use Rattle.aq_base.specs.Site.{Site}
use Rattle.aq_base.specs.Calendar.{day_of_hour, hour_number}
use Rattle.aq_base.specs.declared.day.TheConstants.{LAST_DAY, LAST_HOUR}
use Rattle.aq_base.specs.declared.monitor.Duration.{Duration}
use Rattle.aq_base.specs.declared.monitor.Duration.TheVariants.{Hour, Day}
use Rattle.aq_base.specs.declared.monitor.MonitorId.{MonitorId}
use Rattle.aq_base.specs.declared.monitor.Pollutant.{Pollutant}
use Rattle.aq_base.specs.declared.monitor.Pollutant.TheVariants.{Ozone, Pm25, Pm10}
use Rattle.aq_base.specs.declared.observation.ObsKey.{ObsKey}
use Rattle.aq_base.specs.declared.observation.Observation.{Observation}
use Rattle.aq_base.specs.declared.office.OfficeRecord.{OfficeRecord}
use Rattle.aq_base.specs.declared.office.OfficeRecord.TheVariants.{Monitor}
use Rattle.aq_base.specs.declared.office.OfficeKey.TheVariants as keys
use Rattle.aq_rules.specs.Lines.Spellings.{◌>>=◌}
use Rattle.aq_rules.specs.Office.Office.{Office, IsOffice, record_rank, observation_rank, rises, row_at, fits_monitors, duration_at, monitor_duration, is_kept_hour, is_content}
use Rattle.aq_rules.specs.Office.Monitors.{is_same_site, is_same_pollutant, is_same_monitor, is_eligible}
use Rattle.aq_rules.specs.Office.Questions.{record_of}
use Rattle.aq_rules.specs.Office.Sameness.{same_site, same_pollutant, same_monitor, site_itself, pollutant_itself, number_itself}
use Rattle.aq_rules.specs.Office.Designation.{primary_on}
use Rattle.aq_rules.specs.Ozone.SiteHour.{Cell, Sample, chosen, is_of_poc}
use Rattle.aq_rules.specs.Particles.ParticleDay.{starts_on, cell_of, day_cell, day_of_samples, monitor_day, eligible_poc, eligible_pocs, sample_on, samples_on, lowest_poc, site_day}
use Rattle.aq_rules.specs.Kept.Cells.{CellName, PmDayCell, is_same_cell}
use Rattle.aq_rules.specs.Kept.Reach.{ChangedObservation, ChangedRecord, cells_reading, cells_at, cells_in, reads, reach, every_hour}
use Rattle.aq_rules.proofs.CellsOnce.{member, cell-itself}
use Rattle.aq_rules.proofs.Unreached.{ReadsAt, SameWhereRead, is_new_in, is_at, read_in_span, excluded-unreached, eligible-unreached, monitor-same}
use Rattle.aq_rules.proofs.UnreachedPrimary.{primary-unreached}
use Rattle.aq_rules.proofs.UnreachedRows.{record-unreached, row-unreached, unread}
use Rattle.aq_dirty.proofs.OutOfReachLemmas.Alike.{kept-alike, given-alike, given-of_given, all-given}

-- ---- the monitors that count

module _ (site : Site) (pollutant : Pollutant) where
  abbrev monitor_of : ℕ → MonitorId
  monitor_of poc = record { site = site; pollutant = pollutant; poc = poc }

  abbrev counts : (MonitorId → Bool) → OfficeRecord → Bool
  counts keep (Monitor id duration eligible) = is_same_site id.site site && is_same_pollutant id.pollutant pollutant && keep id
  counts keep r = false

  -- what the eligible monitors give is the same over two lists of records, if each monitor that may give something stands alike in both
  module _ {Y : Type 0} (word : ℕ → Option Y) (keep : MonitorId → Bool) (off : (poc : ℕ) → keep (monitor_of poc) ≡ false → word poc ≡ None) where
    off-record : (r : OfficeRecord) → counts keep r ≡ false → option_and_then word (eligible_poc site pollutant r) ≡ None
    off-record (Monitor id duration eligible) out = by (is_same_site id.site site && is_same_pollutant id.pollutant pollutant) refl eligible out
      where
        by : (s : Bool) → (is_same_site id.site site && is_same_pollutant id.pollutant pollutant) ≡ s → (e : Bool) → (s && keep id) ≡ false
            → option_and_then word (cond (s && e) (Some id.poc) None) ≡ None
        by false is e out = refl
        by true is false out = refl
        by true is true out =
            let series = and_parts (is_same_site id.site site) (is_same_pollutant id.pollutant pollutant) is in
            let one : id ≡ monitor_of id.poc = λ i. record { site = same_site id.site site series.0 i; pollutant = same_pollutant id.pollutant pollutant series.1 i; poc = id.poc } in
            off id.poc (ap keep (sym one) ∙ out)
    off-record r out = refl

    pocs-alike : (old new : List OfficeRecord) → rises record_rank old ≡ true → rises record_rank new ≡ true
        → ((id : MonitorId) → id.site ≡ site → id.pollutant ≡ pollutant → keep id ≡ true → record_of old (keys.Monitor id) ≡ record_of new (keys.Monitor id))
        → filter_map word (eligible_pocs old site pollutant) ≡ filter_map word (eligible_pocs new site pollutant)
    unfolding eligible_pocs
    pocs-alike old new up up_too same =
        given-of_given word (eligible_poc site pollutant) old
        ∙ given-alike (λ r. option_and_then word (eligible_poc site pollutant r)) (counts keep) off-record old new (kept-alike record_rank (counts keep) old new up up_too alike)
        ∙ sym (given-of_given word (eligible_poc site pollutant) new)
      where
        alike : (r : OfficeRecord) → counts keep r ≡ true → row_at record_rank (record_rank r) old ≡ row_at record_rank (record_rank r) new
        alike (Monitor id duration eligible) is =
            let whole = and_parts (is_same_site id.site site && is_same_pollutant id.pollutant pollutant) (keep id) is in
            let series = and_parts (is_same_site id.site site) (is_same_pollutant id.pollutant pollutant) whole.0 in
            same id (same_site id.site site series.0) (same_pollutant id.pollutant pollutant series.1) whole.1
        alike r is = absurd (false≢true is)

-- ---- observations are of registered monitors

none-is : {X : Type 0} (o : Option X) → is_none o ≡ true → o ≡ None
none-is None is = refl
none-is (Some x) is = absurd (false≢true is)

registered-by : (o : Option OfficeRecord) (hour : ℕ) → is_kept_hour (o >>= monitor_duration) hour ≡ true → is_none o ≡ false
registered-by None hour kept = absurd (false≢true kept)
registered-by (Some r) hour kept = refl

registered : (office : Office) (entry : ObsKey × Observation) → fits_monitors office entry ≡ true → is_new_in office.records (keys.Monitor entry.0.monitor) ≡ false
registered office entry fits =
    let kept = is_kept_hour (duration_at office entry.0.monitor) entry.0.hour in
    let whole = and_parts (nat_le entry.0.hour LAST_HOUR && kept) (is_content entry.0.monitor.pollutant entry.1) fits in
    registered-by (record_of office.records (keys.Monitor entry.0.monitor)) entry.0.hour (and_parts (nat_le entry.0.hour LAST_HOUR) kept whole.0).1

-- no cell makes no day
no-day : (pollutant : Pollutant) (duration : Duration) → day_cell pollutant duration [] ≡ None
no-day Pm10 Hour = refl
no-day Pm10 Day = refl
no-day Pm25 Hour = refl
no-day Pm25 Day = refl
no-day Ozone Hour = refl
no-day Ozone Day = refl

starts-day : (duration : Duration) (day hour : ℕ) → starts_on duration day hour ≡ true → day_of_hour hour ≡ day
starts-day Hour day hour is = eqb-true (day_of_hour hour) day is
starts-day Day day hour is = let at : hour ≡ hour_number day 0 = eqb-true hour (hour_number day 0) is in omega (arith, at)

-- ---- a day

module _ (a b : Office) (site : Site) (pollutant : Pollutant) (day : ℕ) (profile : day ≤ LAST_DAY) (valid : IsOffice a) (after : IsOffice b)
    (here : (records : List OfficeRecord) (hour : ℕ) → day_of_hour hour ≡ day → ReadsAt (PmDayCell site pollutant day) records site pollutant hour)
    (out : member (PmDayCell site pollutant day) (reach a b) ≡ false) where
  abbrev cell : CellName
  cell = PmDayCell site pollutant day

  abbrev first : ℕ
  first = hour_number day 0

  abbrev monitor : ℕ → MonitorId
  monitor poc = monitor_of site pollutant poc

  -- whether the old office has no such monitor
  abbrev is_new : ℕ → Bool
  is_new poc = is_new_in a.records (keys.Monitor (monitor poc))

  -- the records of after, with the observations of before
  abbrev between : Office
  between = record { records = b.records; observations = a.observations; loads = [] }

  same : SameWhereRead cell a.records a.records b.records
  same key is_read = record-unreached a b cell a.records (unread a b cell out).0 key is_read

  back : SameWhereRead cell a.records b.records a.records
  back key is_read = sym (record-unreached a b cell b.records (unread a b cell out).1 key is_read)

  is-day : day_of_hour first ≡ day
  is-day = omega arith

  in-profile : first ≤ LAST_HOUR
  in-profile = omega (arith, profile)

  pub primary-same : primary_on a.records site pollutant day ≡ primary_on b.records site pollutant day
  primary-same =
      subst (λ d. primary_on a.records site pollutant d ≡ primary_on b.records site pollutant d) is-day
      (primary-unreached cell a.records a.records b.records site pollutant first in-profile (here a.records first is-day) (here b.records first is-day)
      valid.keys_rise.records after.keys_rise.records same back)

  -- ---- the observations of a monitor

  abbrev takes : ℕ → Duration → ObsKey × Observation → Bool
  takes poc duration entry = is_same_monitor entry.0.monitor (monitor poc) && starts_on duration day entry.0.hour

  -- an entry that counts is of the site, the pollutant and the day
  record IsOn (entry : ObsKey × Observation) : Type 0 where
    of_site : entry.0.monitor.site ≡ site
    of_pollutant : entry.0.monitor.pollutant ≡ pollutant
    on_day : day_of_hour entry.0.hour ≡ day

  taken : (poc : ℕ) (duration : Duration) (entry : ObsKey × Observation) → takes poc duration entry ≡ true → IsOn entry
  taken poc duration entry is =
      let parts = and_parts (is_same_monitor entry.0.monitor (monitor poc)) (starts_on duration day entry.0.hour) is in
      let one = same_monitor entry.0.monitor (monitor poc) parts.0 in
      record { of_site = ap (λ (m : MonitorId). m.site) one; of_pollutant = ap (λ (m : MonitorId). m.pollutant) one; on_day = starts-day duration day entry.0.hour parts.1 }

  excluded-same : (poc : ℕ) (duration : Duration) (entry : ObsKey × Observation) → cell_of a (monitor poc) duration day entry ≡ cell_of between (monitor poc) duration day entry
  excluded-same poc duration entry = by (takes poc duration entry) refl
    where
      by : (t : Bool) → takes poc duration entry ≡ t → cell_of a (monitor poc) duration day entry ≡ cell_of between (monitor poc) duration day entry
      by false is = rw is refl
      by true is =
          let on = taken poc duration entry is in
          let at : is_at site pollutant entry.0.hour entry.0 ≡ true = rw (on.of_pollutant, on.of_site, pollutant_itself pollutant, site_itself site, number_itself entry.0.hour) refl in
          let out = excluded-unreached cell a.records a.records b.records site pollutant entry.0.hour (here a.records entry.0.hour on.on_day) (here b.records entry.0.hour on.on_day)
          valid.keys_rise.records after.keys_rise.records same back entry.0 entry.1.quals at in
          λ i. cond (takes poc duration entry) (option_map (λ value. record { value = value; excluded = out i }) entry.1.value) None

  -- ---- the day of a monitor, by the records

  module _ (poc : ℕ) where
    known-same : is_new poc ≡ false → monitor_day a (monitor poc) day ≡ monitor_day between (monitor poc) day
    unfolding monitor_day
    known-same known =
        let stands = monitor-same cell a.records a.records b.records site pollutant first (here a.records first is-day) valid.keys_rise.records same in-profile (monitor poc) refl refl known in
        let eligible = eligible-unreached cell a.records a.records b.records site pollutant first (here a.records first is-day) (here b.records first is-day)
        valid.keys_rise.records after.keys_rise.records same back in-profile (monitor poc) refl refl known in
        λ i. cond (eligible i)
        (option_and_then (λ duration. day_cell pollutant duration (filter_map (λ entry. excluded-same poc duration entry i) a.observations)) (stands i >>= monitor_duration))
        None

    new-before : is_new poc ≡ true → monitor_day a (monitor poc) day ≡ None
    unfolding monitor_day
    new-before new =
        let none : duration_at a (monitor poc) ≡ None = ap (λ o. o >>= monitor_duration) (none-is (record_of a.records (keys.Monitor (monitor poc))) new) in
        rw none (nothing (is_eligible a.records (monitor poc)))
      where
        nothing : (t : Bool) → ◌≡◌ {A = Option Cell} (cond t None None) None
        nothing true = refl
        nothing false = refl

    -- the old office has no observation of a monitor that is new
    no-cells : is_new poc ≡ true → (duration : Duration) (entries : List (ObsKey × Observation)) → list_all (fits_monitors a) entries ≡ true
        → filter_map (cell_of between (monitor poc) duration day) entries ≡ []
    no-cells new duration [] fit = refl
    no-cells new duration (entry ∷ entries) fit = by (takes poc duration entry) refl (no-cells new duration entries (and_parts (fits_monitors a entry) (list_all (fits_monitors a) entries) fit).1)
      where
        by : (t : Bool) → takes poc duration entry ≡ t → filter_map (cell_of between (monitor poc) duration day) entries ≡ []
            → cons_option (cell_of between (monitor poc) duration day entry) (filter_map (cell_of between (monitor poc) duration day) entries) ≡ []
        by false is rest = rw is rest
        by true is rest =
            let one = same_monitor entry.0.monitor (monitor poc) (and_parts (is_same_monitor entry.0.monitor (monitor poc)) (starts_on duration day entry.0.hour) is).0 in
            absurd (false≢true (sym (registered a entry (and_parts (fits_monitors a entry) (list_all (fits_monitors a) entries) fit).0) ∙ ap (λ (m : MonitorId). is_new_in a.records (keys.Monitor m)) one ∙ new))

    new-after : is_new poc ≡ true → monitor_day between (monitor poc) day ≡ None
    unfolding monitor_day
    new-after new = by (is_eligible b.records (monitor poc)) (duration_at between (monitor poc))
      where
        by : (t : Bool) (o : Option Duration) → cond t (option_and_then (λ duration. day_of_samples between (monitor poc) duration day) o) None ≡ None
        by false o = refl
        by true None = refl
        by true (Some duration) = ap (day_cell pollutant duration) (no-cells new duration a.observations valid.observations_fit) ∙ no-day pollutant duration

    by-records : monitor_day a (monitor poc) day ≡ monitor_day between (monitor poc) day
    by-records = by (is_new poc) refl
      where
        by : (t : Bool) → is_new poc ≡ t → monitor_day a (monitor poc) day ≡ monitor_day between (monitor poc) day
        by true new = new-before new ∙ sym (new-after new)
        by false known = known-same known

  -- ---- the day of a monitor, by the observations

  abbrev is_on : ObsKey × Observation → Bool
  is_on entry = is_same_pollutant entry.0.monitor.pollutant pollutant && is_same_site entry.0.monitor.site site && (day_of_hour entry.0.hour == day)

  observation-read : (entry : ObsKey × Observation) → is_on entry ≡ true → reads a.records cell (ChangedObservation entry.0) ≡ true
  unfolding reads cells_reading
  observation-read entry on =
      let whole = and_parts (is_same_pollutant entry.0.monitor.pollutant pollutant && is_same_site entry.0.monitor.site site) (day_of_hour entry.0.hour == day) on in
      let series = and_parts (is_same_pollutant entry.0.monitor.pollutant pollutant) (is_same_site entry.0.monitor.site site) whole.0 in
      let one : list_any (is_same_cell cell) (cells_at a.records entry.0.monitor.site entry.0.monitor.pollutant entry.0.hour) ≡ list_any (is_same_cell cell) (cells_at a.records site pollutant entry.0.hour) =
      λ i. list_any (is_same_cell cell) (cells_at a.records (same_site entry.0.monitor.site site series.1 i) (same_pollutant entry.0.monitor.pollutant pollutant series.0 i) entry.0.hour)
      in
      one ∙ here a.records entry.0.hour (eqb-true (day_of_hour entry.0.hour) day whole.1)

  entries-same : filter is_on a.observations ≡ filter is_on b.observations
  entries-same =
      kept-alike observation_rank is_on a.observations b.observations valid.keys_rise.observations after.keys_rise.observations
      (λ entry on. row-unreached a b cell a.records (unread a b cell out).0 entry.0 (observation-read entry on))

  module _ (poc : ℕ) where
    cells-same : (duration : Duration) → filter_map (cell_of b (monitor poc) duration day) a.observations ≡ filter_map (cell_of b (monitor poc) duration day) b.observations
    cells-same duration = given-alike (cell_of b (monitor poc) duration day) is_on off a.observations b.observations entries-same
      where
        off : (entry : ObsKey × Observation) → is_on entry ≡ false → cell_of b (monitor poc) duration day entry ≡ None
        off entry not_on = by (takes poc duration entry) refl
          where
            by : (t : Bool) → takes poc duration entry ≡ t → cell_of b (monitor poc) duration day entry ≡ None
            by false is = rw is refl
            by true is =
                let on = taken poc duration entry is in
                let counts : is_on entry ≡ true = rw (on.of_pollutant, on.of_site, on.on_day, pollutant_itself pollutant, site_itself site, number_itself day) refl in
                absurd (false≢true (sym not_on ∙ counts))

    by-observations : monitor_day between (monitor poc) day ≡ monitor_day b (monitor poc) day
    unfolding monitor_day
    by-observations =
        λ i. cond (is_eligible b.records (monitor poc))
        (option_and_then (λ duration. day_cell pollutant duration (cells-same duration i)) (duration_at b (monitor poc)))
        None

  -- ---- the day of the site

  abbrev sampled : ℕ → Option Cell → Option Sample
  sampled poc day_of = option_map (λ cell. record { poc = poc; cell = cell }) day_of

  pub samples-same : samples_on a site pollutant day ≡ samples_on b site pollutant day
  samples-same =
      pocs-alike site pollutant (sample_on a site pollutant day) (λ id. not (is_new_in a.records (keys.Monitor id))) new-off a.records b.records valid.keys_rise.records after.keys_rise.records
      (λ id of_site of_pollutant known. monitor-same cell a.records a.records b.records site pollutant first (here a.records first is-day) valid.keys_rise.records same in-profile id of_site of_pollutant (not-true (is_new_in a.records (keys.Monitor id)) known))
      ∙ (λ i. filter_map (λ poc. sampled poc ((by-records poc ∙ by-observations poc) i)) (eligible_pocs b.records site pollutant))
    where
      not-true : (t : Bool) → not t ≡ true → t ≡ false
      not-true true is = absurd (false≢true is)
      not-true false is = refl

      not-false : (t : Bool) → not t ≡ false → t ≡ true
      not-false true is = refl
      not-false false is = absurd (false≢true (sym is))

      new-off : (poc : ℕ) → not (is_new poc) ≡ false → sample_on a site pollutant day poc ≡ None
      new-off poc is = ap (sampled poc) (new-before poc (not-false (is_new poc) is))

-- ---- PM10: the monitor that counts

-- every_hour is unfolded here alone: with its numbers in sight a goal has hundreds of thousands of hours
read-anywhere : (cell : CellName) (records : List OfficeRecord) (site : Site) (pollutant : Pollutant) (hour : ℕ) → ReadsAt cell records site pollutant hour → hour ≤ LAST_HOUR
    → list_any (is_same_cell cell) (cells_in records site pollutant every_hour) ≡ true
unfolding every_hour
read-anywhere cell records site pollutant hour here profile = read_in_span cell records site pollutant hour 0 LAST_HOUR here (omega arith) profile

-- of PM10 a new monitor is read as well as one that stood
pm10-read : (cell : CellName) (records : List OfficeRecord) (site : Site) (hour : ℕ) → ReadsAt cell records site Pm10 hour → hour ≤ LAST_HOUR
    → (poc : ℕ) (is_new : Bool) → reads records cell (ChangedRecord (keys.Monitor (record { site = site; pollutant = Pm10; poc = poc })) is_new) ≡ true
unfolding reads cells_reading
pm10-read cell records site hour here profile poc true = read-anywhere cell records site Pm10 hour here profile
pm10-read cell records site hour here profile poc false = read-anywhere cell records site Pm10 hour here profile

pm25-reads : (site : Site) (day : ℕ) (records : List OfficeRecord) (hour : ℕ) → day_of_hour hour ≡ day → ReadsAt (PmDayCell site Pm25 day) records site Pm25 hour
pm25-reads site day records hour on = rw (on, cell-itself (PmDayCell site Pm25 day)) refl

pm10-reads : (site : Site) (day : ℕ) (records : List OfficeRecord) (hour : ℕ) → day_of_hour hour ≡ day → ReadsAt (PmDayCell site Pm10 day) records site Pm10 hour
pm10-reads site day records hour on = rw (on, cell-itself (PmDayCell site Pm10 day)) refl

module _ (a b : Office) (site : Site) (day : ℕ) (profile : day ≤ LAST_DAY) (valid : IsOffice a) (after : IsOffice b) where
  pub pm25_day-out_of_reach : member (PmDayCell site Pm25 day) (reach a b) ≡ false → site_day a site Pm25 day ≡ site_day b site Pm25 day
  unfolding site_day
  pm25_day-out_of_reach out =
      let primary = primary-same a b site Pm25 day profile valid after (pm25-reads site day) out in
      let samples = samples-same a b site Pm25 day profile valid after (pm25-reads site day) out in
      λ i. chosen (find (is_of_poc (primary i)) (samples i)) (samples i)

  pocs-same : member (PmDayCell site Pm10 day) (reach a b) ≡ false → eligible_pocs a.records site Pm10 ≡ eligible_pocs b.records site Pm10
  pocs-same out =
      sym (all-given (eligible_pocs a.records site Pm10))
      ∙ pocs-alike site Pm10 (λ poc. Some poc) (λ id. true) (λ poc is. absurd (false≢true (sym is))) a.records b.records valid.keys_rise.records after.keys_rise.records stands
      ∙ all-given (eligible_pocs b.records site Pm10)
    where
      read : (id : MonitorId) → id.site ≡ site → id.pollutant ≡ Pm10 → (is_new : Bool) → reads a.records (PmDayCell site Pm10 day) (ChangedRecord (keys.Monitor id) is_new) ≡ true
      read id of_site of_pollutant is_new =
          let one : record { site = site; pollutant = Pm10; poc = id.poc } ≡ id = λ i. record { site = sym of_site i; pollutant = sym of_pollutant i; poc = id.poc } in
          subst (λ (m : MonitorId). reads a.records (PmDayCell site Pm10 day) (ChangedRecord (keys.Monitor m) is_new) ≡ true) one
          (pm10-read (PmDayCell site Pm10 day) a.records site (hour_number day 0) (pm10-reads site day a.records (hour_number day 0) (omega arith)) (omega (arith, profile)) id.poc is_new)

      stands : (id : MonitorId) → id.site ≡ site → id.pollutant ≡ Pm10 → true ≡ true → record_of a.records (keys.Monitor id) ≡ record_of b.records (keys.Monitor id)
      stands id of_site of_pollutant kept =
          record-unreached a b (PmDayCell site Pm10 day) a.records (unread a b (PmDayCell site Pm10 day) out).0 (keys.Monitor id) (read id of_site of_pollutant (is_new_in a.records (keys.Monitor id)))

  pub pm10_day-out_of_reach : member (PmDayCell site Pm10 day) (reach a b) ≡ false → site_day a site Pm10 day ≡ site_day b site Pm10 day
  unfolding site_day
  pm10_day-out_of_reach out =
      let primary = primary-same a b site Pm10 day profile valid after (pm10-reads site day) out in
      let samples = samples-same a b site Pm10 day profile valid after (pm10-reads site day) out in
      let pocs = pocs-same out in
      λ i. option_map (λ (s : Sample). s.cell) (find (is_of_poc (option_or (primary i) (lowest_poc (pocs i)))) (samples i))

  pub pm_day-out_of_reach : (pollutant : Pollutant) → member (PmDayCell site pollutant day) (reach a b) ≡ false → site_day a site pollutant day ≡ site_day b site pollutant day
  unfolding site_day
  pm_day-out_of_reach Ozone out = refl
  pm_day-out_of_reach Pm25 out = pm25_day-out_of_reach out
  pm_day-out_of_reach Pm10 out = pm10_day-out_of_reach out
