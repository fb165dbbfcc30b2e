-- The lists of what stands are well formed.
use Rattle.std.proofs.Common.{◌≡◌, ℕ, zero, suc, ◌+◌, ◌*◌, ◌%◌, ◌<◌, ◌≤◌, Bool, true, false, cond, ◌&&◌, not, List, [], ◌∷◌, ◌++◌, length, refl, sym, subst, ◌∙◌, arith, length-append}
use Rattle.std.specs.Prelude.{pos, Option, Some, None, is_some, IfSome, ⊤, nat_le, nat_lt, ◌==◌, codes, count_by, filter, filter_map, flat_map}
use Rattle.std.specs.List.{cons_option, list_all, list_any, range_with_len}
use Rattle.std.specs.Char.{is_ascii_uppercase}
use Rattle.std.proofs.lemmas.Int.{ints}
use Rattle.std.proofs.lemmas.Bool.Decides.{nat_tests}
use Rattle.std.proofs.lemmas.Bool.{and_from, and_parts, eqb-true, leb-true}
use Rattle.std.proofs.lemmas.List.{length-map}
use Rattle.std.proofs.lemmas.List.FromFn.{length-range_with_len}
use Rattle.std.proofs.lemmas.List.Sums.{sum_by-cons, count_by-le-length}
use Rattle.aq_base.specs.Calendar.{day_of_hour, days_in_year, hour_number, hour_of_day, is_year, month_of, year_first}
use Rattle.aq_base.specs.Decimal.{half_up, last_digits}
use Rattle.aq_base.specs.Site.{Site}
use Rattle.aq_base.specs.declared.code.Code.{Code}
use Rattle.aq_base.specs.declared.monitor.Duration.{Duration}
use Rattle.aq_base.specs.declared.monitor.Duration.TheVariants.{Hour, Day}
use Rattle.aq_base.specs.declared.monitor.MonitorId.{MonitorId}
use Rattle.aq_base.specs.declared.monitor.Pollutant.{Pollutant}
use Rattle.aq_base.specs.declared.monitor.Pollutant.TheVariants.{Ozone, Pm25, Pm10}
use Rattle.aq_base.specs.declared.observation.ObsKey.{ObsKey}
use Rattle.aq_base.specs.declared.observation.Observation.{Observation}
use Rattle.aq_base.specs.declared.office.OfficeRecord.{OfficeRecord}
use Rattle.aq_base.specs.declared.office.OfficeRecord.TheVariants.{Monitor, Event}
use Rattle.aq_rules.specs.Limits.{LAST_LOAD_NUMBER}
use Rattle.aq_rules.specs.Lines.Canonical.{code_text, parameter_text}
use Rattle.aq_rules.specs.Lines.Spellings.{is_event_code}
use Rattle.aq_rules.specs.Listed.Completeness.{ListedMonth, MonthCounts, completeness_answer, completeness_sheet, due_hours, hours_of_day, is_extra, is_null_in, is_valued_in, listed_months, month_cells, month_counts, months_of, percent, standing_in}
use Rattle.aq_rules.specs.Listed.Events.{ListedEvent, StandingEvent, event_by, event_cells, events_answer, events_of, events_sheet, is_flagged_by, listed_event, listed_events, moment_text, truth_cell}
use Rattle.aq_rules.specs.Listed.Flags.{FLAG_CODES, ListedFlag, carrying, covers_with, excludes_with, flag_cells, flags_answer, flags_on, flags_sheet, listed_flag, listed_flags}
use Rattle.aq_rules.specs.Listed.Loads.{load_cells, loads_answer, loads_sheet}
use Rattle.aq_rules.specs.Listed.Monitors.{ListedMonitor, RegisteredMonitor, day_cell, duration_number, listed_monitor, listed_monitors, monitor_by, monitor_cells, monitors_answer, monitors_of, monitors_sheet}
use Rattle.aq_rules.specs.Listed.Places.{POLLUTANTS, carries, days_of_month, is_of_monitor, is_of_series, is_on_day, standing_at, standing_of}
use Rattle.aq_rules.specs.Listed.Sites.{ListedSite, listed_site, listed_sites, monitor_count, site_cells, sites_answer, sites_sheet}
use Rattle.aq_rules.specs.Office.Monitors.{is_same_pollutant, is_same_site}
use Rattle.aq_rules.specs.Office.Office.{IsOffice, Office, StoredLoad, comes_before, fits_records, group_of, group_size, is_content_of, is_key, is_load, is_poc, is_reply, is_same, is_site, key_of, registers, series_numbers, site_numbers, sites_of, with_row}
use Rattle.aq_rules.specs.Office.Schedule.{is_scheduled}
use Rattle.aq_rules.specs.Ozone.OzoneYear.{days_of}
use Rattle.aq_rules.specs.Shown.OtherSheets.{rising_sites}
use Rattle.aq_rules.specs.Shown.Sheet.{count_cell, day_text, hour_text, whole_cell}
use Rattle.aq_rules.specs.Shown.Sheets.{load_sheet}
use Rattle.aq_rules.specs.Shown.WellFormed.{IsWellFormed, is_cell, is_row, is_word, is_word_byte}
use Rattle.aq_rules.proofs.Elements.{Every, every-append, every-map, every-to}
use Rattle.aq_rules.proofs.Held.{half_up-held}
use Rattle.aq_rules.proofs.Lookups.{same-is, same-itself}
use Rattle.aq_rules.proofs.Pm10Facts.{count-implied, length-filter-le}
use Rattle.aq_rules.proofs.Pm25Counts.{is_record-of}
use Rattle.aq_rules.proofs.SheetCells.{bytes-join, count, day-word, digest-word, heads-of, held-whole, hour-word, row-of, rows-of, site-word, truth-word}
use Rattle.aq_rules.proofs.Valid.{valid_if}
use Rattle.aq_rules.proofs.WellFormed.{every-passes, load-well_formed}
use Rattle.aq_rules.proofs.WellFormedOzone.{of_profile}

-- ---- what holds of each

pub every-each : {X : Type 0} (P : X → Type 0) → ((x : X) → P x) → (xs : List X) → Every P xs
every-each P h [] = tt
every-each P h (x ∷ xs) = (h x, every-each P h xs)

every-filter : {X : Type 0} (P : X → Type 0) (f : X → Bool) (xs : List X) → Every P xs → Every P (filter f xs)
every-filter P f [] every = tt
every-filter P f (x ∷ xs) every =
    elim (f x) as (λ b. Every P (cond b (x ∷ filter f xs) (filter f xs))) [
      | true ↦ (every.0, every-filter P f xs every.1)
      | false ↦ every-filter P f xs every.1
    ]

onto : {Y : Type 0} (Q : Y → Type 0) (o : Option Y) (ys : List Y) → IfSome o Q → Every Q ys → Every Q (cons_option o ys)
onto Q None ys h every = every
onto Q (Some y) ys h every = (h, every)

pub every-kept : {X Y : Type 0} (P : X → Type 0) (Q : Y → Type 0) (f : X → Option Y) → ((x : X) → P x → IfSome (f x) Q) → (xs : List X) → Every P xs → Every Q (filter_map f xs)
every-kept P Q f h [] every = tt
every-kept P Q f h (x ∷ xs) every = onto Q (f x) (filter_map f xs) (h x every.0) (every-kept P Q f h xs every.1)

every-flat : {X Y : Type 0} (P : X → Type 0) (Q : Y → Type 0) (f : X → List Y) → ((x : X) → P x → Every Q (f x)) → (xs : List X) → Every P xs → Every Q (flat_map f xs)
every-flat P Q f h [] every = tt
every-flat P Q f h (x ∷ xs) every = every-append Q (f x) (flat_map f xs) (h x every.0) (every-flat P Q f h xs every.1)

every-range : (first n : ℕ) → Every (λ i. i < first + n) (range_with_len first n)
every-range first zero = tt
every-range first (suc n) =
    (omega arith, every-to (λ i. i < first + 1 + n) (λ i. i < first + suc n) (λ i h. omega (arith, h)) (range_with_len (first + 1) n) (every-range (first + 1) n))

-- ---- words and cells

pub parameter-word : (pollutant : Pollutant) → is_word (parameter_text pollutant) ≡ true
parameter-word Ozone = refl
parameter-word pollutant = refl

duration-cell : (duration : Duration) → is_cell (count_cell (duration_number duration)) ≡ true
duration-cell Hour = count 1 (omega arith)
duration-cell Day = count 7 (omega arith)

if_day : (day : Option ℕ) → is_cell (day_cell day) ≡ true
if_day None = refl
if_day (Some day) = day-word day

pub if_truth : (truth : Option Bool) → is_cell (truth_cell truth) ≡ true
if_truth None = refl
if_truth (Some truth) = truth-word truth

moment-word : (hour : ℕ) → is_word (moment_text hour) ≡ true
unfolding day_text hour_text last_digits
moment-word hour =
    let day = day_text (day_of_hour hour) in
    let of_day = hour_text (hour_of_day hour) in
    bytes-join (day ++ codes "T") of_day
    (bytes-join day (codes "T") (and_parts (nat_lt 0 (length day)) (list_all is_word_byte day) (day-word (day_of_hour hour))).1 refl)
    (and_parts (nat_lt 0 (length of_day)) (list_all is_word_byte of_day) (hour-word (hour_of_day hour))).1

capital : (byte : ℕ) → is_ascii_uppercase byte ≡ true → is_word_byte byte ≡ true
capital byte h =
    let parts = and_parts (nat_le 65 byte) (nat_le byte 90) h in
    let low = leb-true 65 byte parts.0 in
    let high = leb-true byte 90 parts.1 in
    grind (arith, nat_tests)

event-word : (code : Code) → is_event_code code ≡ true → is_word (code_text code) ≡ true
event-word code is =
    let parts = and_parts (code.first == 82) (is_ascii_uppercase code.second) is in
    let first : is_word_byte code.first ≡ true = subst (λ byte. is_word_byte byte ≡ true) (sym (eqb-true code.first 82 parts.0)) refl in
    let second = and_from (is_word_byte code.second) true (capital code.second parts.1) refl in
    elim (code.second == 0) as (λ b. is_word (cond b (code.first ∷ []) (code.first ∷ code.second ∷ [])) ≡ true) [
      | true ↦ and_from (is_word_byte code.first) true first refl
      | false ↦ and_from (is_word_byte code.first) (is_word_byte code.second && true) first second
    ]

-- ---- the records and observations of a valid office

each-record : (office : Office) → IsOffice office → Every (λ r. fits_records office r ≡ true) office.records
each-record office valid = every-passes (fits_records office) office.records valid.records_fit

abbrev PocIn : RegisteredMonitor → Type 0
PocIn monitor = monitor.id.poc ≤ 99

monitor-in : (office : Office) (site : Site) (pollutant : Pollutant) (r : OfficeRecord) → fits_records office r ≡ true → IfSome (monitor_by site pollutant r) PocIn
monitor-in office site pollutant (Monitor id duration eligible) fits =
    let key = (and_parts (is_key (key_of (Monitor id duration eligible))) (is_content_of (Monitor id duration eligible)) (is_record-of site 0 office (Monitor id duration eligible) fits)).0 in
    let poc = (and_parts (is_site id.site) (is_poc id.poc) key).1 in
    valid_if PocIn (is_same_site id.site site && is_same_pollutant id.pollutant pollutant) (record { id = id; duration = duration; eligible = eligible })
    (λ is. leb-true id.poc 99 (and_parts (nat_le 1 id.poc) (nat_le id.poc 99) poc).1)
monitor-in office site pollutant r fits = tt

monitors-in : (office : Office) (site : Site) (pollutant : Pollutant) → IsOffice office → Every PocIn (monitors_of office site pollutant)
unfolding monitors_of
monitors-in office site pollutant valid =
    every-kept (λ r. fits_records office r ≡ true) PocIn (monitor_by site pollutant) (monitor-in office site pollutant) office.records (each-record office valid)

few-standing : (office : Office) (monitor : MonitorId) → IsOffice office → length (standing_at office monitor) ≤ 4000000
unfolding standing_at
few-standing office monitor valid =
    let few : length office.observations ≤ 4000000 = valid.few_observations in
    omega (arith, few, length-filter-le (is_of_monitor monitor) office.observations)

-- ---- sites

-- a limit that each of those counted meets
counted-few : {X : Type 0} (p : X → Bool) (most all : ℕ) (xs : List X) → Every (λ x. p x ≡ true → all ≤ most) xs → 0 < count_by p xs → all ≤ most
counted-few p most all [] each some = absurd (omega (arith, some))
counted-few p most all (x ∷ xs) each some = by_test (p x) refl (counted-few p most all xs each.1)
  where
    by_test : (b : Bool) → p x ≡ b → (0 < count_by p xs → all ≤ most) → all ≤ most
    by_test true e later = each.0 e
    by_test false e later =
        let none : cond {A = ℕ} (p x) 1 0 ≡ 0 = rw e refl in
        later (omega (arith, some, none, sum_by-cons (λ y. cond (p y) 1 0) x xs))

module _ (office : Office) (site : Site) (pollutant : Pollutant) where
  alike : (id : MonitorId) → series_numbers id.site id.pollutant ≡ series_numbers site pollutant
      → (r : OfficeRecord) → registers site pollutant r ≡ true → is_same (group_of r) (1 ∷ series_numbers id.site id.pollutant) ≡ true
  alike id same (Monitor other duration eligible) h =
      let e : series_numbers id.site id.pollutant ≡ series_numbers other.site other.pollutant = same ∙ sym (same-is (series_numbers other.site other.pollutant) (series_numbers site pollutant) h) in
      subst (λ numbers. is_same (1 ∷ numbers) (1 ∷ series_numbers id.site id.pollutant) ≡ true) e (same-itself (1 ∷ series_numbers id.site id.pollutant))
  alike id same r h = cc

  in_group : (r : OfficeRecord) → fits_records office r ≡ true → registers site pollutant r ≡ true → monitor_count office site pollutant ≤ 8
  unfolding monitor_count
  in_group (Monitor id duration eligible) fits h =
      let few : count_by (λ r. is_same (group_of r) (1 ∷ series_numbers id.site id.pollutant)) office.records ≤ 8 = leb-true (group_size office (Monitor id duration eligible)) 8 (and_parts _ (nat_le (group_size office (Monitor id duration eligible)) 8) fits).1 in
      omega (arith, few, count-implied (registers site pollutant) (λ r. is_same (group_of r) (1 ∷ series_numbers id.site id.pollutant)) (alike id (same-is (series_numbers id.site id.pollutant) (series_numbers site pollutant) h)) office.records)
  in_group r fits h = cc

  few-monitors : IsOffice office → monitor_count office site pollutant ≤ 8
  unfolding monitor_count
  few-monitors valid =
      by_count (monitor_count office site pollutant)
      (counted-few (registers site pollutant) 8 (monitor_count office site pollutant) office.records (every-to (λ r. fits_records office r ≡ true) (λ r. registers site pollutant r ≡ true → monitor_count office site pollutant ≤ 8) in_group office.records (each-record office valid)))
    where
      by_count : (n : ℕ) → (0 < n → n ≤ 8) → n ≤ 8
      by_count zero h = omega arith
      by_count (suc n) h = h (omega arith)

length-put : (site : Site) (sites : List Site) → length (with_row site_numbers site sites) ≤ suc (length sites)
length-put site [] = omega arith
length-put site (other ∷ sites) =
    by_tests (comes_before (site_numbers site) (site_numbers other)) (is_same (site_numbers site) (site_numbers other)) (length-put site sites)
  where
    by_tests : (a b : Bool) → length (with_row site_numbers site sites) ≤ suc (length sites)
        → length (cond a (site ∷ other ∷ sites) (cond b (site ∷ sites) (other ∷ with_row site_numbers site sites))) ≤ suc (suc (length sites))
    by_tests true b h = omega arith
    by_tests false true h = omega arith
    by_tests false false h = omega (arith, h)

length-rising : (sites : List Site) → length (rising_sites sites) ≤ length sites
length-rising [] = omega arith
length-rising (site ∷ sites) = omega (arith, length-put site (rising_sites sites), length-rising sites)

record SiteIn (row : ListedSite) : Type 0 where
  ozone : row.ozone ≤ 8
  pm25 : row.pm25 ≤ 8
  pm10 : row.pm10 ≤ 8

sites_columns : List (List ℕ)
sites_columns = codes "site" ∷ codes "ozone" ∷ codes "pm25" ∷ codes "pm10" ∷ []

site-row : (row : ListedSite) → SiteIn row → is_row sites_columns (site_cells row) ≡ true
unfolding sites_columns
site-row row is =
    row-of sites_columns (site_cells row) refl
    (site-word row.site, (count row.ozone (omega (arith, is.ozone)), (count row.pm25 (omega (arith, is.pm25)), (count row.pm10 (omega (arith, is.pm10)), tt))))

pub sites-well_formed : (office : Office) → IsOffice office → IsWellFormed (sites_answer office)
unfolding sites_answer sites_sheet listed_sites sites_columns
sites-well_formed office valid =
    let sites = rising_sites (sites_of office.records) in
    let few : length (sites_of office.records) ≤ 256 = valid.few_sites in
    record {
      heads =
          heads-of (sites_answer office).heads
          (count (length (listed_sites office)) (omega (arith, few, length-map sites (listed_site office), length-rising (sites_of office.records))), tt);
      names_differ = refl;
      columns = refl;
      rows =
          rows-of sites_columns SiteIn site_cells site-row (listed_sites office)
          (every-map (λ site. ⊤) SiteIn (listed_site office) (λ site h. record { ozone = few-monitors office site Ozone valid; pm25 = few-monitors office site Pm25 valid; pm10 = few-monitors office site Pm10 valid }) sites
          (every-each (λ site. ⊤) (λ site. tt) sites));
    }

-- ---- monitors

record MonitorIn (row : ListedMonitor) : Type 0 where
  poc : row.monitor.id.poc ≤ 99
  observations : row.observations ≤ 4000000

monitors_columns : List (List ℕ)
monitors_columns = codes "parameter" ∷ codes "poc" ∷ codes "duration" ∷ codes "eligible" ∷ codes "observations" ∷ codes "first" ∷ codes "last" ∷ []

monitor-row : (row : ListedMonitor) → MonitorIn row → is_row monitors_columns (monitor_cells row) ≡ true
unfolding monitors_columns
monitor-row row is =
    row-of monitors_columns (monitor_cells row) refl (
      parameter-word row.monitor.id.pollutant,
      (
        count row.monitor.id.poc (omega (arith, is.poc)),
        (
          duration-cell row.monitor.duration,
          (truth-word row.monitor.eligible, (count row.observations (omega (arith, is.observations)), (if_day row.first, (if_day row.last, tt)))),
        ),
      ),
    )

pub monitors-well_formed : (office : Office) (site : Site) → IsOffice office → IsWellFormed (monitors_answer office site)
unfolding monitors_answer monitors_sheet listed_monitors monitors_columns
monitors-well_formed office site valid =
    let monitors = flat_map (monitors_of office site) POLLUTANTS in
    record {
      heads = heads-of (monitors_answer office site).heads (site-word site, tt);
      names_differ = refl;
      columns = refl;
      rows =
          rows-of monitors_columns MonitorIn monitor_cells monitor-row (listed_monitors office site)
          (every-map PocIn MonitorIn (listed_monitor office) (λ monitor poc. record { poc = poc; observations = few-standing office monitor.id valid }) monitors
          (every-flat (λ pollutant. ⊤) PocIn (monitors_of office site) (λ pollutant h. monitors-in office site pollutant valid) POLLUTANTS (every-each (λ pollutant. ⊤) (λ pollutant. tt) POLLUTANTS)));
    }

-- ---- events

record StandingIn (event : StandingEvent) : Type 0 where
  number : event.number ≤ 999999
  code : is_word (code_text event.code) ≡ true

event-in : (office : Office) (site : Site) (r : OfficeRecord) → fits_records office r ≡ true → IfSome (event_by site r) StandingIn
event-in office site (Event number other pollutant first last code) fits =
    let is = and_parts (is_key (key_of (Event number other pollutant first last code))) (is_content_of (Event number other pollutant first last code)) (is_record-of site 0 office (Event number other pollutant first last code) fits) in
    let few = leb-true number 999999 (and_parts (nat_le 1 number) (nat_le number 999999) is.0).1 in
    let word = event-word code (and_parts _ (is_event_code code) is.1).1 in
    valid_if StandingIn (is_same_site other site) (record { number = number; site = other; pollutant = pollutant; first = first; last = last; code = code })
    (λ h. record { number = few; code = word })
event-in office site r fits = tt

record EventIn (row : ListedEvent) : Type 0 where
  event : StandingIn row.event
  flagged : row.flagged ≤ 4000000

events_columns : List (List ℕ)
events_columns = codes "event" ∷ codes "parameter" ∷ codes "first" ∷ codes "last" ∷ codes "code" ∷ codes "agreed" ∷ codes "flagged" ∷ []

event-row : (row : ListedEvent) → EventIn row → is_row events_columns (event_cells row) ≡ true
unfolding events_columns
event-row row is =
    row-of events_columns (event_cells row) refl (
      count row.event.number (omega (arith, is.event.number)),
      (
        parameter-word row.event.pollutant,
        (
          moment-word row.event.first,
          (moment-word row.event.last, (is.event.code, (if_truth row.agreed, (count row.flagged (omega (arith, is.flagged)), tt)))),
        ),
      ),
    )

pub events-well_formed : (office : Office) (site : Site) → IsOffice office → IsWellFormed (events_answer office site)
unfolding events_answer events_sheet listed_events events_of events_columns
events-well_formed office site valid =
    let few : length office.observations ≤ 4000000 = valid.few_observations in
    record {
      heads = heads-of (events_answer office site).heads (site-word site, tt);
      names_differ = refl;
      columns = refl;
      rows =
          rows-of events_columns EventIn event_cells event-row (listed_events office site)
          (every-map StandingIn EventIn (listed_event office) (λ event is. record { event = is; flagged = omega (arith, few, count_by-le-length (is_flagged_by event) office.observations) }) (events_of office site)
          (every-kept (λ r. fits_records office r ≡ true) StandingIn (event_by site) (event-in office site) office.records (each-record office valid)));
    }

-- ---- flags

record FlagIn (row : ListedFlag) : Type 0 where
  code : is_word (code_text row.code) ≡ true
  flagged : row.flagged ≤ 4000000
  covered : row.covered ≤ 4000000
  excluded : row.excluded ≤ 4000000

flag-in : (office : Office) (site : Site) (pollutant : Pollutant) (day : ℕ) → IsOffice office → (code : Code) → is_word (code_text code) ≡ true → FlagIn (listed_flag office site pollutant day code)
unfolding standing_of
flag-in office site pollutant day valid code word =
    let observations : length office.observations ≤ 4000000 = valid.few_observations in
    let rows = carrying office site pollutant day code in
    let few : length rows ≤ 4000000 = omega (arith, observations, length-filter-le (λ row. is_on_day day row && carries code row) (standing_of office site pollutant), length-filter-le (is_of_series site pollutant) office.observations) in
    record {
      code = word;
      flagged = few;
      covered = omega (arith, few, count_by-le-length (λ (row : ObsKey × Observation). list_any (covers_with code row.0) office.records) rows);
      excluded = omega (arith, few, count_by-le-length (λ (row : ObsKey × Observation). list_any (excludes_with office.records code row.0) office.records) rows);
    }

flags-each : (office : Office) (site : Site) (pollutant : Pollutant) (year : ℕ) → IsOffice office → Every FlagIn (listed_flags office site pollutant year)
unfolding listed_flags
flags-each office site pollutant year valid =
    every-filter FlagIn (λ (row : ListedFlag). nat_lt 0 row.flagged) (flat_map (flags_on office site pollutant) (days_of year))
    (every-flat (λ day. ⊤) FlagIn (flags_on office site pollutant)
    (λ day h. every-map (λ code. is_word (code_text code) ≡ true) FlagIn (listed_flag office site pollutant day) (flag-in office site pollutant day valid) FLAG_CODES (every-passes (λ code. is_word (code_text code)) FLAG_CODES refl))
    (days_of year) (every-each (λ day. ⊤) (λ day. tt) (days_of year)))

flags_columns : List (List ℕ)
flags_columns = codes "day" ∷ codes "code" ∷ codes "flagged" ∷ codes "covered" ∷ codes "excluded" ∷ []

flag-row : (row : ListedFlag) → FlagIn row → is_row flags_columns (flag_cells row) ≡ true
unfolding flags_columns
flag-row row is =
    row-of flags_columns (flag_cells row) refl
    (day-word row.day, (is.code, (count row.flagged (omega (arith, is.flagged)), (count row.covered (omega (arith, is.covered)), (count row.excluded (omega (arith, is.excluded)), tt)))))

pub flags-well_formed : (office : Office) (site : Site) (pollutant : Pollutant) (year : ℕ) → IsOffice office → is_year year ≡ true → IsWellFormed (flags_answer office site pollutant year)
unfolding flags_answer flags_sheet flags_columns
flags-well_formed office site pollutant year valid asked =
    let few = of_profile year asked in
    record {
      heads = heads-of (flags_answer office site pollutant year).heads (site-word site, (parameter-word pollutant, (count year (omega arith), tt)));
      names_differ = refl;
      columns = refl;
      rows = rows-of flags_columns FlagIn flag_cells flag-row (listed_flags office site pollutant year) (flags-each office site pollutant year valid);
    }

-- ---- loads

loads_columns : List (List ℕ)
loads_columns = codes "load" ∷ codes "lines" ∷ codes "accepted" ∷ codes "refused" ∷ codes "digest" ∷ []

-- its counts are those in the heads of its reply
load-row : (load : StoredLoad) → is_load load ≡ true → is_row loads_columns (load_cells load) ≡ true
unfolding loads_columns load_sheet
load-row load is =
    let a = and_parts _ (is_reply load.reply) is in
    let b = and_parts _ (list_all (λ byte. nat_lt byte 256) load.digest) a.0 in
    let c = and_parts _ (length load.digest == 32) b.0 in
    let d = and_parts (nat_le 1 load.number && nat_le load.number LAST_LOAD_NUMBER) (load.reply.number == load.number) c.0 in
    let few = leb-true load.number LAST_LOAD_NUMBER (and_parts (nat_le 1 load.number) (nat_le load.number LAST_LOAD_NUMBER) d.0).1 in
    let same = eqb-true load.reply.number load.number d.1 in
    let heads = (load-well_formed load.reply a.1 (omega (arith, few, same))).heads in
    let fourth = is_cell (count_cell load.reply.refused) && true in
    let third = is_cell (count_cell load.reply.accepted) && fourth in
    let second = is_cell (count_cell load.reply.lines) && third in
    let lines = and_parts (is_cell (count_cell load.reply.lines)) third (and_parts (is_cell (count_cell load.reply.number)) second heads).1 in
    let accepted = and_parts (is_cell (count_cell load.reply.accepted)) fourth lines.1 in
    let refused = and_parts (is_cell (count_cell load.reply.refused)) true accepted.1 in
    row-of loads_columns (load_cells load) refl
    (count load.number (omega (arith, few)), (lines.0, (accepted.0, (refused.0, (digest-word load.digest (eqb-true (length load.digest) 32 c.1) b.1, tt)))))

pub loads-well_formed : (office : Office) → IsOffice office → IsWellFormed (loads_answer office)
unfolding loads_answer loads_sheet loads_columns
loads-well_formed office valid =
    let few : length office.loads ≤ 100000 = valid.few_loads in
    record {
      heads = heads-of (loads_answer office).heads (count (length office.loads) (omega (arith, few)), tt);
      names_differ = refl;
      columns = refl;
      rows = rows-of loads_columns (λ load. is_load load ≡ true) load_cells load-row office.loads (every-passes is_load office.loads valid.loads_fit);
    }

-- ---- months

pub days-few : (year : ℕ) → length (days_of year) ≤ 366
unfolding days_of
days-few year = let few : days_in_year year ≤ 366 = by_test (year % 4 == 0) in omega (arith, few, length-range_with_len (year_first year) (days_in_year year))
  where
    by_test : (b : Bool) → cond {A = ℕ} b 366 365 ≤ 366
    by_test true = omega arith
    by_test false = omega arith

hours-long : (days : List ℕ) → length (flat_map hours_of_day days) ≡ 24 * length days
hours-long [] = refl
hours-long (day ∷ days) =
    omega (arith, length-append (hours_of_day day) (flat_map hours_of_day days), length-range_with_len (hour_number day 0) 24, hours-long days)

due-few : (office : Office) (monitor : MonitorId) (duration : Duration) (days : List ℕ) → length (due_hours office monitor duration days) ≤ 24 * length days
due-few office monitor Hour days = omega (arith, hours-long days)
due-few office monitor Day days =
    let scheduled = is_scheduled office.records monitor.site monitor.pollutant in
    omega (arith, length-map (filter scheduled days) (λ day. hour_number day 0), length-filter-le scheduled days)

record CountsIn (counts : MonthCounts) : Type 0 where
  due_few : counts.due ≤ 8784
  valued_few : counts.valued ≤ counts.due
  null_few : counts.null ≤ counts.due
  missing_few : counts.missing ≤ counts.due
  extra_few : counts.extra ≤ 4000000

counts-in : (office : Office) (monitor : RegisteredMonitor) (year month : ℕ) → IsOffice office → CountsIn (month_counts office monitor year month)
unfolding month_counts days_of_month
counts-in office monitor year month valid =
    let days = days_of_month year month in
    let due = due_hours office monitor.id monitor.duration days in
    let month_few : length days ≤ length (days_of year) = length-filter-le (λ day. month_of day == month) (days_of year) in
    let standing = few-standing office monitor.id valid in
    record {
      due_few = omega (arith, due-few office monitor.id monitor.duration days, month_few, days-few year);
      valued_few = count_by-le-length (λ hour. is_valued_in (standing_in office monitor.id hour)) due;
      null_few = count_by-le-length (λ hour. is_null_in (standing_in office monitor.id hour)) due;
      missing_few = count_by-le-length (λ hour. not (is_some (standing_in office monitor.id hour))) due;
      extra_few = omega (arith, standing, count_by-le-length (is_extra due year month) (standing_at office monitor.id));
    }

percent-cell : (counts : MonthCounts) → counts.valued ≤ counts.due → is_cell (whole_cell (percent counts)) ≡ true
percent-cell counts few = by_test (counts.due == 0) refl
  where
    by_test : (b : Bool) → (counts.due == 0) ≡ b → is_cell (whole_cell (cond b None (Some (half_up (pos (100 * counts.valued)) (pos counts.due))))) ≡ true
    by_test true e = refl
    by_test false e =
        let some : 0 < counts.due = grind (arith, nat_tests) in
        held-whole 0 100 (half_up (pos (100 * counts.valued)) (pos counts.due)) (omega arith) (omega arith)
        (half_up-held (pos (100 * counts.valued)) counts.due 0 100 some (omega (arith, ints)) (omega (arith, ints, few)))

record MonthIn (row : ListedMonth) : Type 0 where
  poc_few : row.poc ≤ 99
  month_few : row.month < 13
  counts_in : CountsIn row.counts

completeness_columns : List (List ℕ)
completeness_columns =
    codes "poc" ∷ codes "month" ∷ codes "due" ∷ codes "valued" ∷ codes "null" ∷ codes "missing" ∷ codes "extra" ∷ codes "percent" ∷ []

month-row : (row : ListedMonth) → MonthIn row → is_row completeness_columns (month_cells row) ≡ true
unfolding completeness_columns
month-row row is =
    let due = is.counts_in.due_few in
    row-of completeness_columns (month_cells row) refl (
      count row.poc (omega (arith, is.poc_few)),
      (
        count row.month (omega (arith, is.month_few)),
        (
          count row.counts.due (omega (arith, due)),
          (
            count row.counts.valued (omega (arith, due, is.counts_in.valued_few)),
            (
              count row.counts.null (omega (arith, due, is.counts_in.null_few)),
              (
                count row.counts.missing (omega (arith, due, is.counts_in.missing_few)),
                (count row.counts.extra (omega (arith, is.counts_in.extra_few)), (percent-cell row.counts is.counts_in.valued_few, tt)),
              ),
            ),
          ),
        ),
      ),
    )

months-each : (office : Office) (site : Site) (pollutant : Pollutant) (year : ℕ) → IsOffice office → Every MonthIn (listed_months office site pollutant year)
unfolding listed_months
months-each office site pollutant year valid =
    every-flat PocIn MonthIn (months_of office year)
    (λ monitor poc. every-map (λ month. month < 13) MonthIn (λ month. record { poc = monitor.id.poc; month = month; counts = month_counts office monitor year month }) (λ month few. record { poc_few = poc; month_few = few; counts_in = counts-in office monitor year month valid }) (range_with_len 1 12) (every-range 1 12))
    (monitors_of office site pollutant) (monitors-in office site pollutant valid)

pub completeness-well_formed : (office : Office) (site : Site) (pollutant : Pollutant) (year : ℕ) → IsOffice office → is_year year ≡ true → IsWellFormed (completeness_answer office site pollutant year)
unfolding completeness_answer completeness_sheet completeness_columns
completeness-well_formed office site pollutant year valid asked =
    let few = of_profile year asked in
    record {
      heads = heads-of (completeness_answer office site pollutant year).heads (site-word site, (parameter-word pollutant, (count year (omega arith), tt)));
      names_differ = refl;
      columns = refl;
      rows = rows-of completeness_columns MonthIn month_cells month-row (listed_months office site pollutant year) (months-each office site pollutant year valid);
    }
