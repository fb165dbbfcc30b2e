-- Lemmas, no definition: an observation that fits an office whose records fit can stand.
use Rattle.std.proofs.Common.{◌≡◌, ℕ, Bool, true, false, ◌&&◌, cond, List, [], ◌∷◌, refl, subst}
use Rattle.std.specs.Prelude.{Option, Some, None, find, nat_le}
use Rattle.std.specs.List.{list_all}
use Rattle.std.proofs.lemmas.Bool.{and_from, and_parts}
use Rattle.std.proofs.lemmas.Slice.Eq.{bytes_eq-Decides}
use Rattle.aq_base.specs.Site.{Site}
use Rattle.aq_base.specs.declared.day.TheConstants.{LAST_HOUR}
use Rattle.aq_base.specs.declared.monitor.MonitorId.{MonitorId}
use Rattle.aq_base.specs.declared.observation.ObsKey.{ObsKey}
use Rattle.aq_base.specs.declared.observation.Observation.{Observation}
use Rattle.aq_base.specs.declared.office.OfficeRecord.{OfficeRecord}
use Rattle.aq_base.specs.declared.office.OfficeRecord.TheVariants.{Monitor, Primary, Schedule, Season, Makeup, Event, Concurrence, Approved, Combined}
use Rattle.aq_base.specs.declared.office.OfficeKey.TheVariants.{Monitor as MonitorKey}
use Rattle.aq_rules.specs.Lines.Spellings.{◌>>=◌}
use Rattle.aq_rules.specs.Office.Office.{Office, is_same, key_numbers, record_rank, record_at, monitor_duration, duration_at, is_site, is_poc, is_record, is_content, is_kept_hour, has_its_monitor, has_its_event, group_size, most_in_group, fits_records, fits_monitors}
use Rattle.aq_rows.specs.Standing.{can_stand}

is_record-of : (office : Office) (r : OfficeRecord) → fits_records office r ≡ true → is_record r ≡ true
is_record-of office r fits =
    let c = and_parts _ (nat_le (group_size office r) (most_in_group r)) fits in
    let b = and_parts _ (has_its_event office r) c.0 in
    (and_parts (is_record r) (has_its_monitor office r) b.0).0

-- the record that is found is one that a line can spell, with the rank
abbrev IfFound : List ℕ → Option OfficeRecord → Type 0
IfFound key None = Unit {0}
IfFound key (Some r) = (is_record r ≡ true) × (is_same (record_rank r) key ≡ true)

found : (office : Office) (key : List ℕ) (records : List OfficeRecord) → list_all (fits_records office) records ≡ true → IfFound key (find (λ r. is_same (record_rank r) key) records)
found office key [] fits = tt
found office key (r ∷ records) fits =
    let parts = and_parts (fits_records office r) (list_all (fits_records office) records) fits in
    by_test (is_same (record_rank r) key) refl (is_record-of office r parts.0) (found office key records parts.1)
  where
    by_test : (b : Bool) → is_same (record_rank r) key ≡ b → is_record r ≡ true → IfFound key (find (λ s. is_same (record_rank s) key) records)
        → IfFound key (cond b (Some r) (find (λ s. is_same (record_rank s) key) records))
    by_test true e is rest = (is, e)
    by_test false e is rest = rest

same_monitor : (id other : MonitorId) → key_numbers (MonitorKey other) ≡ key_numbers (MonitorKey id) → (other.site ≡ id.site) × (other.poc ≡ id.poc)
same_monitor id other e =
    let state : other.site.state ≡ id.site.state = cc in
    let county : other.site.county ≡ id.site.county = cc in
    let number : other.site.number ≡ id.site.number = cc in
    let poc : other.poc ≡ id.poc = cc in
    (λ i. record { state = state i; county = county i; number = number i }, poc)

monitor-fits : (id : MonitorId) (o : Option OfficeRecord) (hour : ℕ) → IfFound (key_numbers (MonitorKey id)) o → is_kept_hour (o >>= monitor_duration) hour ≡ true → (is_site id.site && is_poc id.poc) ≡ true
monitor-fits id None hour found kept = cc
monitor-fits id (Some (Monitor other duration eligible)) hour found kept =
    let same = same_monitor id other ((bytes_eq-Decides (key_numbers (MonitorKey other)) (key_numbers (MonitorKey id))).0 found.1) in
    let key = and_parts (is_site other.site && is_poc other.poc) _ found.0 in
    let parts = and_parts (is_site other.site) (is_poc other.poc) key.0 in
    let P : Site → Type 0 = λ s. is_site s ≡ true in
    let Q : ℕ → Type 0 = λ p. is_poc p ≡ true in
    and_from (is_site id.site) (is_poc id.poc) (subst P same.0 parts.0) (subst Q same.1 parts.1)
monitor-fits id (Some other) hour found kept = cc

pub fitting_can_stand : (office : Office) (entry : ObsKey × Observation) → list_all (fits_records office) office.records ≡ true → fits_monitors office entry ≡ true → can_stand entry ≡ true
fitting_can_stand office entry records fits =
    let id = entry.0.monitor in
    let b = and_parts _ (is_content id.pollutant entry.1) fits in
    let a = and_parts (nat_le entry.0.hour LAST_HOUR) (is_kept_hour (duration_at office id) entry.0.hour) b.0 in
    let monitor = monitor-fits id (record_at office (MonitorKey id)) entry.0.hour (found office (key_numbers (MonitorKey id)) office.records records) a.1 in
    and_from ((is_site id.site && is_poc id.poc) && nat_le entry.0.hour LAST_HOUR) (is_content id.pollutant entry.1)
    (and_from (is_site id.site && is_poc id.poc) (nat_le entry.0.hour LAST_HOUR) monitor a.0) b.1
