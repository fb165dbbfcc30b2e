-- A line leaves the office valid.
use Rattle.std.proofs.Common.{◌≡◌, ℕ, ◌+◌, ◌*◌, ◌/◌, ◌%◌, ◌<◌, ◌≤◌, Bool, true, false, cond, not, ◌&&◌, ◌||◌, List, [], ◌∷◌, ◌++◌, length, Some, None, Option, refl, sym, ap, ◌∙◌, arith, subst}
use Rattle.std.specs.Prelude.{find, filter, count_by, is_some, is_none, nat_le, ◌==◌, bytes_eq}
use Rattle.std.specs.List.{list_all}
use Rattle.std.specs.Option.{option_or, option_map}
use Rattle.std.proofs.lemmas.Bool.{false≢true, and_from, and_parts, eq-eqb, le-leb, leb-true, or_parts}
use Rattle.std.proofs.lemmas.Bool.Decides.{nat_tests}
use Rattle.std.proofs.lemmas.List.Sums.{length-filter, count_by-le-length}
use Rattle.aq_base.specs.Calendar.{quarter_of, hour_of_day, day_of_hour, hour_number}
use Rattle.aq_base.specs.Site.{Site}
use Rattle.aq_base.specs.declared.day.TheConstants.{LAST_HOUR}
use Rattle.aq_base.specs.declared.monitor.Duration.{Duration}
use Rattle.aq_base.specs.declared.monitor.Duration.TheVariants.{Hour, Day}
use Rattle.aq_base.specs.declared.monitor.MonitorId.{MonitorId}
use Rattle.aq_base.specs.declared.monitor.Pollutant.{Pollutant}
use Rattle.aq_base.specs.declared.monitor.Pollutant.TheVariants.{Ozone, Pm25, Pm10}
use Rattle.aq_base.specs.declared.observation.ObsKey.{ObsKey}
use Rattle.aq_base.specs.declared.observation.Observation.{Observation}
use Rattle.aq_base.specs.declared.office.OfficeRecord.{OfficeRecord}
use Rattle.aq_base.specs.declared.office.OfficeRecord.TheVariants.{Monitor, Primary, Schedule, Season, Makeup, Event, Concurrence, Approved, Combined}
use Rattle.aq_base.specs.declared.office.OfficeKey.{OfficeKey}
use Rattle.aq_base.specs.declared.office.OfficeKey.TheVariants.{Monitor as MonitorKey, Primary as PrimaryKey, Schedule as ScheduleKey, Season as SeasonKey, Makeup as MakeupKey, Event as EventKey, Concurrence as ConcurrenceKey, Approved as ApprovedKey, Combined as CombinedKey}
use Rattle.aq_base.specs.declared.office.OfficeLine.TheVariants.{Put, Change, Drop}
use Rattle.aq_base.specs.declared.rule.Rule.{Rule}
use Rattle.aq_base.specs.declared.rule.Rule.TheVariants.{UnknownMonitor, WrongDuration, AlreadyThere, NotThere, ObservationsFull, SitesFull, MonitorsFull, MakeupsFull, UnknownEvent, EventsFull, ListFull, PairTaken}
use Rattle.aq_rules.specs.Limits.{MOST_SITES, MOST_OBSERVATIONS}
use Rattle.aq_rules.specs.Lines.Lines.{NumberedLine}
use Rattle.aq_rules.specs.Lines.Spellings.{◌>>=◌}
use Rattle.aq_rules.specs.Lines.RdForm.{RdValue, Put as PutSample, Delete as DeleteSample}
use Rattle.aq_rules.specs.Lines.Reading.{LineValue, OfRd, OfOffice, line_value, reading_rule}
use Rattle.aq_rules.specs.Lines.Canonical.{is_line_value}
use Rattle.aq_rules.specs.Office.Office.{Office, IsOffice, KeysRise, is_same, key_of, key_numbers, record_rank, observation_rank, observation_numbers, series_numbers, parameter_number, row_at, with_row, without_row, record_at, duration_at, monitor_duration, has_its_monitor, has_its_event, event_stands, group_of, group_size, most_in_group, sites_of, is_record, is_kept_hour, is_content, fits_monitors, content_of, site_numbers, kind_of, part_numbers, with_site}
use Rattle.aq_rules.specs.Office.Refusal.{broken, breaks_office, kept_key, kept_at, is_other_duration, is_taken, is_combined, key_stands}
use Rattle.aq_rules.specs.Office.Load.{with_record, without_record, without_key, changed, changed_by, broken_by, after, after_all}
use Rattle.aq_rules.proofs.Loads.{KeysRise-changed}
use Rattle.aq_rules.specs.Office.RowOrder.{without_row-rises}
use Rattle.aq_rules.proofs.Lookups.{same-is}
use Rattle.aq_rules.proofs.RisingRows.{length-with_row-there}
use Rattle.aq_rules.proofs.RowsPlaced.{find_none-first, count_none, filter_all, filter_twice, with_row-all, length-with_row}
use Rattle.aq_rules.proofs.SitesCounted.{lists, sites_with, length-with_site}
use Rattle.aq_rules.proofs.ValidLines.{line_valid}
use Rattle.aq_rules.proofs.ValidRecords.{site_is, joined, Alike, replaced, KeepsItsOwn, kept}

-- ---- tests

pub untrue : (b : Bool) → not b ≡ false → b ≡ true
untrue true h = refl
untrue false h = absurd (false≢true (sym h))

is_absent : {A : Type 0} (o : Option A) → is_some o ≡ false → o ≡ None
is_absent None h = refl
is_absent (Some x) h = absurd (false≢true (sym h))

record Found {A : Type 0} (o : Option A) : Type 0 where
  value : A
  is : o ≡ Some value

found : {A : Type 0} (o : Option A) → is_some o ≡ true → Found o
found None h = absurd (false≢true h)
found (Some x) h = record { value = x; is = refl }

-- none of the rules tested is broken
none_of_two : (p : Rule → Bool) (a b : Rule) → find p (a ∷ b ∷ []) ≡ None → (p a ≡ false) × (p b ≡ false)
none_of_two p a b h =
    let first = find_none-first p a (b ∷ []) h in
    (first.0, (find_none-first p b [] first.1).0)

none_of_three : (p : Rule → Bool) (a b c : Rule) → find p (a ∷ b ∷ c ∷ []) ≡ None → (p a ≡ false) × (p b ≡ false) × (p c ≡ false)
none_of_three p a b c h =
    let first = find_none-first p a (b ∷ c ∷ []) h in
    let rest = none_of_two p b c first.1 in
    (first.0, rest.0, rest.1)

pub none_of_four : (p : Rule → Bool) (a b c d : Rule) → find p (a ∷ b ∷ c ∷ d ∷ []) ≡ None → (p a ≡ false) × (p b ≡ false) × (p c ≡ false) × (p d ≡ false)
none_of_four p a b c d h =
    let first = find_none-first p a (b ∷ c ∷ d ∷ []) h in
    let rest = none_of_three p b c d first.1 in
    (first.0, rest.0, rest.1, rest.2)

pub less : (n m : ℕ) → nat_le m n ≡ false → n < m
less n m h = grind (arith, nat_tests)

-- ---- a record that stands alone in its group

alone : (x : OfficeRecord) (kind : ℕ) (parts : List ℕ) → (1 == kind) ≡ false → (2 == kind) ≡ false → (3 == kind) ≡ false → (5 == kind) ≡ false → (6 == kind) ≡ false
    → is_same (group_of x) (kind ∷ parts) ≡ true → is_same (record_rank x) (kind ∷ parts) ≡ true
alone (Monitor id duration eligible) kind parts a b c d e h = absurd (false≢true (sym (ap (λ t. t && bytes_eq (series_numbers id.site id.pollutant) parts) a) ∙ h))
alone (Primary site pollutant from poc) kind parts a b c d e h = absurd (false≢true (sym (ap (λ t. t && bytes_eq (series_numbers site pollutant) parts) b) ∙ h))
alone (Schedule site pollutant from interval anchor) kind parts a b c d e h = absurd (false≢true (sym (ap (λ t. t && bytes_eq (series_numbers site pollutant) parts) c) ∙ h))
alone (Season site year first last) kind parts a b c d e h = h
alone (Makeup site missed makeup) kind parts a b c d e h = absurd (false≢true (sym (ap (λ t. t && bytes_eq (site_numbers site ++ quarter_of missed ∷ []) parts) d) ∙ h))
alone (Event number site pollutant first last code) kind parts a b c d e h = absurd (false≢true (sym (ap (λ t. t && bytes_eq [] parts) e) ∙ h))
alone (Concurrence number agreed) kind parts a b c d e h = h
alone (Approved site day) kind parts a b c d e h = h
alone (Combined site pollutant from joined) kind parts a b c d e h = h

group_alone : (office : Office) (r : OfficeRecord) (kind : ℕ) (parts : List ℕ) → (1 == kind) ≡ false → (2 == kind) ≡ false → (3 == kind) ≡ false → (5 == kind) ≡ false → (6 == kind) ≡ false
    → group_of r ≡ kind ∷ parts → record_rank r ≡ kind ∷ parts → record_at office (key_of r) ≡ None → group_size office r ≡ 0
group_alone office r kind parts a b c d e group rank none =
    ap (λ g. count_by (λ x. is_same (group_of x) g) office.records) group
    ∙ count_none (λ x. is_same (group_of x) (kind ∷ parts)) (λ x. is_same (record_rank x) (kind ∷ parts)) office.records
    (λ x h. alone x kind parts a b c d e h)
    (ap (λ key. row_at record_rank key office.records) (sym rank) ∙ none)

-- ---- samples

kept_hour : (duration : Duration) (hour : ℕ) → is_kept_hour (Some duration) (kept_at (Some duration) hour) ≡ true
kept_hour Hour hour = refl
kept_hour Day hour = eq-eqb (hour_of_day (hour_number (day_of_hour hour) 0)) 0 (whole (day_of_hour hour))
  where
    whole : (day : ℕ) → (24 * day + 0) % 24 ≡ 0
    whole day = omega arith

kept_low : (o : Option Duration) (hour : ℕ) → nat_le hour LAST_HOUR ≡ true → nat_le (kept_at o hour) LAST_HOUR ≡ true
kept_low None hour h = h
kept_low (Some Hour) hour h = h
kept_low (Some Day) hour h = let low = leb-true hour LAST_HOUR h in le-leb (hour_number (day_of_hour hour) 0) LAST_HOUR (lower hour LAST_HOUR low)
  where
    lower : (hour last : ℕ) → hour ≤ last → 24 * (hour / 24) + 0 ≤ last
    lower hour last h = omega arith

pub sample_fits : (office : Office) (monitor : MonitorId) (hour : ℕ) (content : Observation) → is_some (duration_at office monitor) ≡ true
    → nat_le hour LAST_HOUR ≡ true → is_content monitor.pollutant content ≡ true → fits_monitors office (kept_key office monitor hour, content) ≡ true
sample_fits office monitor hour content there low good =
    let duration = found (duration_at office monitor) there in
    and_from _ _
    (and_from _ _ (kept_low (duration_at office monitor) hour low)
    (subst (λ o. is_kept_hour o (kept_at o hour) ≡ true) (sym duration.is) (kept_hour duration.value hour)))
    good

-- what a valid office is with other observations
with_observations : (office : Office) (rows : List (ObsKey × Observation)) → IsOffice office → KeysRise (record office { observations = rows })
    → list_all (fits_monitors office) rows ≡ true → length rows ≤ MOST_OBSERVATIONS → IsOffice (record office { observations = rows })
with_observations office rows is rise fit few = record {
  keys_rise = rise;
  records_fit = is.records_fit;
  records_alone = is.records_alone;
  few_sites = is.few_sites;
  observations_fit = fit;
  few_observations = few;
  loads_fit = is.loads_fit;
  few_loads = is.few_loads;
}

put_sample : (office : Office) (update : Bool) (monitor : MonitorId) (duration : Duration) (hour : ℕ) (content : Observation) → IsOffice office
    → is_line_value (OfRd (PutSample update monitor duration hour content)) ≡ true
    → is_none (duration_at office monitor) ≡ false
    → length (with_row observation_rank (kept_key office monitor hour, content) office.observations) ≤ MOST_OBSERVATIONS
    → IsOffice (changed office (OfRd (PutSample update monitor duration hour content)))
put_sample office update monitor duration hour content is spelled known few =
    let parts = and_parts _ (is_content monitor.pollutant content) spelled in
    let low = and_parts _ (nat_le hour LAST_HOUR) parts.0 in
    with_observations office (with_row observation_rank (kept_key office monitor hour, content) office.observations) is
    (KeysRise-changed office (OfRd (PutSample update monitor duration hour content)) is.keys_rise)
    (with_row-all observation_rank (fits_monitors office) (kept_key office monitor hour, content) office.observations
    (sample_fits office monitor hour content (untrue (is_some (duration_at office monitor)) known) low.1 parts.1) is.observations_fit)
    few

standing : {A B : Type 0} (f : A → B) (o : Option A) → is_some (option_map f o) ≡ true → is_some o ≡ true
standing f None h = h
standing f (Some x) h = refl

sample-valid : (office : Office) (value : RdValue) → IsOffice office → is_line_value (OfRd value) ≡ true → broken office (OfRd value) ≡ None
    → IsOffice (changed office (OfRd value))
sample-valid office (PutSample false monitor duration hour content) is spelled unbroken =
    let rules = none_of_four (λ rule. breaks_office rule office (OfRd (PutSample false monitor duration hour content))) UnknownMonitor WrongDuration AlreadyThere ObservationsFull unbroken in
    let room = less (length office.observations) MOST_OBSERVATIONS rules.3 in
    let longer = length-with_row observation_rank (kept_key office monitor hour, content) office.observations in
    put_sample office false monitor duration hour content is spelled rules.0 (omega arith)
sample-valid office (PutSample true monitor duration hour content) is spelled unbroken =
    let rules = none_of_three (λ rule. breaks_office rule office (OfRd (PutSample true monitor duration hour content))) UnknownMonitor WrongDuration NotThere unbroken in
    let old = found (row_at observation_rank (observation_numbers (kept_key office monitor hour)) office.observations)
    (standing content_of (row_at observation_rank (observation_numbers (kept_key office monitor hour)) office.observations) (untrue _ rules.2)) in
    let as_long = length-with_row-there observation_rank (kept_key office monitor hour, content) old.value office.observations is.keys_rise.observations old.is in
    let few = is.few_observations in
    put_sample office true monitor duration hour content is spelled rules.0 (omega arith)
sample-valid office (DeleteSample monitor hour) is spelled unbroken =
    with_observations office (without_row observation_rank (observation_numbers (kept_key office monitor hour)) office.observations) is
    (KeysRise-changed office (OfRd (DeleteSample monitor hour)) is.keys_rise)
    (filter_all (fits_monitors office) (λ row. not (is_same (observation_rank row) (observation_numbers (kept_key office monitor hour)))) office.observations is.observations_fit)
    (shorter (λ row. not (is_same (observation_rank row) (observation_numbers (kept_key office monitor hour)))) office.observations MOST_OBSERVATIONS is.few_observations)
  where
    shorter : {X : Type 0} (keep : X → Bool) (rows : List X) (most : ℕ) → length rows ≤ most → length (filter keep rows) ≤ most
    shorter keep rows most h = omega (arith, length-filter keep rows, count_by-le-length keep rows)

-- ---- records that are added

put_new : (office : Office) (r : OfficeRecord) → IsOffice office → is_record r ≡ true → has_its_monitor office r ≡ true → has_its_event office r ≡ true
    → (key_stands office (key_of r) || is_taken office r) ≡ false → is_combined office r ≡ false → (record_at office (key_of r) ≡ None → group_size office r < most_in_group r)
    → length (sites_with r (sites_of office.records)) ≤ MOST_SITES → IsOffice (with_record r office)
put_new office r is spelled monitor event there uncombined room sites =
    let parts = or_parts (key_stands office (key_of r)) (is_taken office r) there in
    let none = is_absent (record_at office (key_of r)) parts.0 in
    joined office r (record { new = none; spelled = spelled; monitor = monitor; event = event; room = room none; free = parts.1; uncombined = uncombined; sites = sites }) is

site_room : (office : Office) (site : Site) → length (sites_of office.records) ≤ MOST_SITES
    → (not (lists site (sites_of office.records)) && nat_le MOST_SITES (length (sites_of office.records))) ≡ false
    → length (with_site site (sites_of office.records)) ≤ MOST_SITES
site_room office site few h = choose (lists site (sites_of office.records)) refl h
  where
    choose : (b : Bool) → lists site (sites_of office.records) ≡ b → (not b && nat_le MOST_SITES (length (sites_of office.records))) ≡ false
        → length (with_site site (sites_of office.records)) ≤ MOST_SITES
    choose true listed h =
        let none : cond {A = ℕ} (lists site (sites_of office.records)) 0 1 ≡ 0 = ap (λ b. cond {A = ℕ} b 0 1) listed in
        omega (arith, length-with_site site (sites_of office.records))
    choose false listed h =
        let one : cond {A = ℕ} (lists site (sites_of office.records)) 0 1 ≡ 1 = ap (λ b. cond {A = ℕ} b 0 1) listed in
        let room = less (length (sites_of office.records)) MOST_SITES h in
        omega (arith, length-with_site site (sites_of office.records))

put-valid : (office : Office) (r : OfficeRecord) → IsOffice office → is_line_value (OfOffice (Put r)) ≡ true → broken office (OfOffice (Put r)) ≡ None
    → IsOffice (with_record r office)
put-valid office (Monitor id duration eligible) is spelled unbroken =
    let r : OfficeRecord = Monitor id duration eligible in
    let rules = none_of_three (λ rule. breaks_office rule office (OfOffice (Put r))) AlreadyThere SitesFull MonitorsFull unbroken in
    put_new office r is spelled refl refl rules.0 refl (λ none. less (group_size office r) (most_in_group r) rules.2) (site_room office id.site is.few_sites rules.1)
put-valid office (Primary site pollutant from poc) is spelled unbroken =
    let r : OfficeRecord = Primary site pollutant from poc in
    let rules = none_of_three (λ rule. breaks_office rule office (OfOffice (Put r))) UnknownMonitor AlreadyThere ListFull unbroken in
    put_new office r is spelled (untrue _ rules.0) refl rules.1 refl (λ none. less (group_size office r) (most_in_group r) rules.2) is.few_sites
put-valid office (Schedule site pollutant from interval anchor) is spelled unbroken =
    let r : OfficeRecord = Schedule site pollutant from interval anchor in
    let rules = none_of_three (λ rule. breaks_office rule office (OfOffice (Put r))) UnknownMonitor AlreadyThere ListFull unbroken in
    put_new office r is spelled (untrue _ rules.0) refl rules.1 refl (λ none. less (group_size office r) (most_in_group r) rules.2) is.few_sites
put-valid office (Season site year first last) is spelled unbroken =
    let r : OfficeRecord = Season site year first last in
    let rules = none_of_two (λ rule. breaks_office rule office (OfOffice (Put r))) UnknownMonitor AlreadyThere unbroken in
    put_new office r is spelled (untrue _ rules.0) refl rules.1 refl
    (λ none. let size = group_alone office r 4 (site_numbers site ++ year ∷ []) refl refl refl refl refl refl refl none in omega arith) is.few_sites
put-valid office (Makeup site missed makeup) is spelled unbroken =
    let r : OfficeRecord = Makeup site missed makeup in
    let rules = none_of_three (λ rule. breaks_office rule office (OfOffice (Put r))) UnknownMonitor AlreadyThere MakeupsFull unbroken in
    put_new office r is spelled (untrue _ rules.0) refl rules.1 refl (λ none. less (group_size office r) (most_in_group r) rules.2) is.few_sites
put-valid office (Event number site pollutant first last code) is spelled unbroken =
    let r : OfficeRecord = Event number site pollutant first last code in
    let rules = none_of_three (λ rule. breaks_office rule office (OfOffice (Put r))) UnknownMonitor AlreadyThere EventsFull unbroken in
    put_new office r is spelled (untrue _ rules.0) refl rules.1 refl (λ none. less (group_size office r) (most_in_group r) rules.2) is.few_sites
put-valid office (Concurrence number agreed) is spelled unbroken = absurd (false≢true spelled)
put-valid office (Approved site day) is spelled unbroken =
    let r : OfficeRecord = Approved site day in
    let rules = none_of_two (λ rule. breaks_office rule office (OfOffice (Put r))) UnknownMonitor AlreadyThere unbroken in
    put_new office r is spelled (untrue _ rules.0) refl rules.1 refl
    (λ none. let size = group_alone office r 8 (site_numbers site ++ day ∷ []) refl refl refl refl refl refl refl none in omega arith) is.few_sites
put-valid office (Combined site pollutant from joined) is spelled unbroken =
    let r : OfficeRecord = Combined site pollutant from joined in
    let rules = none_of_three (λ rule. breaks_office rule office (OfOffice (Put r))) UnknownMonitor AlreadyThere PairTaken unbroken in
    put_new office r is spelled (untrue _ rules.0) refl rules.1 rules.2
    (λ none. let size = group_alone office r 9 (series_numbers site pollutant) refl refl refl refl refl refl refl none in omega arith) is.few_sites

-- ---- records that change

find_passes : {X : Type 0} (p : X → Bool) (xs : List X) (x : X) → find p xs ≡ Some x → p x ≡ true
find_passes p [] x h = cc
find_passes p (y ∷ xs) x h = choose (p y) refl h (find_passes p xs x)
  where
    choose : (b : Bool) → p y ≡ b → cond b (Some y) (find p xs) ≡ Some x → (find p xs ≡ Some x → p x ≡ true) → p x ≡ true
    choose true here is later = let same : y ≡ x = cc in subst (λ z. p z ≡ true) same here
    choose false here is later = later is

same_pollutant : (a b : Pollutant) → parameter_number a ≡ parameter_number b → a ≡ b
same_pollutant Ozone Ozone e = refl
same_pollutant Ozone Pm25 e = absurd (omega arith)
same_pollutant Ozone Pm10 e = absurd (omega arith)
same_pollutant Pm25 Ozone e = absurd (omega arith)
same_pollutant Pm25 Pm25 e = refl
same_pollutant Pm25 Pm10 e = absurd (omega arith)
same_pollutant Pm10 Ozone e = absurd (omega arith)
same_pollutant Pm10 Pm25 e = absurd (omega arith)
same_pollutant Pm10 Pm10 e = refl

abbrev parts_monitor : Site → Pollutant → ℕ → MonitorId
parts_monitor site pollutant poc = record { site = site; pollutant = pollutant; poc = poc }

pub monitor_is : (a b : MonitorId) → key_numbers (MonitorKey a) ≡ key_numbers (MonitorKey b) → a ≡ b
monitor_is a b e =
    let site : a.site ≡ b.site = site_is a.site b.site (cc) in
    let pollutant : a.pollutant ≡ b.pollutant = same_pollutant a.pollutant b.pollutant (cc) in
    let poc : a.poc ≡ b.poc = cc in
    whole a.site b.site a.pollutant b.pollutant a.poc b.poc site pollutant poc
  where
    whole : (s t : Site) (p q : Pollutant) (n m : ℕ) → s ≡ t → p ≡ q → n ≡ m → parts_monitor s p n ≡ parts_monitor t q m
    whole s t p q n m e f g = cc

alike_monitors : (a b : MonitorId) (d e : Duration) (v w : Bool) → a ≡ b → d ≡ e → Alike (Monitor a d v) (Monitor b e w)
alike_monitors a b d e v w id duration = record {
  rank = ap (λ (i : MonitorId). key_numbers (MonitorKey i)) id;
  duration = ap Some duration;
  registers_same = λ site pollutant. ap (λ (i : MonitorId). is_same (series_numbers i.site i.pollutant) (series_numbers site pollutant)) id;
  makes_up = λ site day. refl;
  group = ap (λ (i : MonitorId). 1 ∷ series_numbers i.site i.pollutant) id;
  sites = λ sites. ap (λ (i : MonitorId). with_site i.site sites) id;
  combined = λ site joined pollutant. refl;
  alone = λ office. refl;
}

alike_concurrences : (n m : ℕ) (v w : Bool) → n ≡ m → Alike (Concurrence n v) (Concurrence m w)
alike_concurrences n m v w number = record {
  rank = ap (λ k. 7 ∷ k ∷ []) number;
  duration = refl;
  registers_same = λ site pollutant. refl;
  makes_up = λ site day. refl;
  group = ap (λ k. 7 ∷ k ∷ []) number;
  sites = λ sites. refl;
  combined = λ site joined pollutant. refl;
  alone = λ office. refl;
}

same_duration : (d e : Duration) → is_other_duration (Some d) e ≡ false → d ≡ e
same_duration Hour Hour h = refl
same_duration Hour Day h = absurd (false≢true (sym h))
same_duration Day Hour h = absurd (false≢true (sym h))
same_duration Day Day h = refl

change_monitor : (office : Office) (id : MonitorId) (duration : Duration) (eligible : Bool) (o : Option OfficeRecord) → IsOffice office
    → is_record (Monitor id duration eligible) ≡ true → record_at office (MonitorKey id) ≡ o
    → is_none (o >>= monitor_duration) ≡ false → is_other_duration (o >>= monitor_duration) duration ≡ false
    → IsOffice (with_record (Monitor id duration eligible) office)
change_monitor office id duration eligible None is spelled there known same = absurd (false≢true (sym known))
change_monitor office id duration eligible (Some (Monitor other period counts)) is spelled there known same =
    let rank = same-is _ _ (find_passes (λ x. is_same (record_rank x) (key_numbers (MonitorKey id))) office.records (Monitor other period counts) there) in
    replaced office (Monitor other period counts) (Monitor id duration eligible)
    (alike_monitors other id period duration counts eligible (monitor_is other id rank) (same_duration period duration same)) is there spelled refl refl
change_monitor office id duration eligible (Some old) is spelled there known same = absurd (false≢true (sym known))

change_concurrence : (office : Office) (number : ℕ) (agreed : Bool) (o : Option OfficeRecord) → IsOffice office
    → is_record (Concurrence number agreed) ≡ true → record_at office (ConcurrenceKey number) ≡ o → event_stands office number ≡ true
    → IsOffice (with_record (Concurrence number agreed) office)
change_concurrence office number agreed None is spelled there event =
    joined office (Concurrence number agreed) (record {
      new = there;
      spelled = spelled;
      monitor = refl;
      event = event;
      room = let size = group_alone office (Concurrence number agreed) 7 (number ∷ []) refl refl refl refl refl refl refl there in omega arith;
      free = refl;
      uncombined = refl;
      sites = is.few_sites;
    }) is
change_concurrence office number agreed (Some (Concurrence other before)) is spelled there event =
    let rank : 7 ∷ other ∷ [] ≡ 7 ∷ number ∷ [] =
    same-is (7 ∷ other ∷ []) (7 ∷ number ∷ [])
    (find_passes (λ x. is_same (record_rank x) (key_numbers (ConcurrenceKey number))) office.records (Concurrence other before) there) in
    replaced office (Concurrence other before) (Concurrence number agreed) (alike_concurrences other number before agreed (cc)) is there spelled refl event
change_concurrence office number agreed (Some old) is spelled there event =
    absurd (false≢true (find_passes (λ x. is_same (record_rank x) (key_numbers (ConcurrenceKey number))) office.records old there))

change-valid : (office : Office) (r : OfficeRecord) → IsOffice office → is_line_value (OfOffice (Change r)) ≡ true → broken office (OfOffice (Change r)) ≡ None
    → IsOffice (with_record r office)
change-valid office (Monitor id duration eligible) is spelled unbroken =
    let r : OfficeRecord = Monitor id duration eligible in
    let rules = none_of_two (λ rule. breaks_office rule office (OfOffice (Change r))) UnknownMonitor WrongDuration unbroken in
    change_monitor office id duration eligible (record_at office (MonitorKey id)) is spelled refl rules.0 rules.1
change-valid office (Concurrence number agreed) is spelled unbroken =
    let events = find_none-first (λ rule. breaks_office rule office (OfOffice (Change (Concurrence number agreed)))) UnknownEvent [] unbroken in
    change_concurrence office number agreed (record_at office (ConcurrenceKey number)) is spelled refl (untrue _ events.0)
change-valid office r is spelled unbroken = absurd (false≢true spelled)

-- ---- records that are dropped

drops_itself : (key : OfficeKey) → (1 == kind_of key) ≡ false → (6 == kind_of key) ≡ false → KeepsItsOwn (λ x. not (is_same (record_rank x) (key_numbers key)))
drops_itself key monitor event = record {
  monitors = λ id duration eligible. ap (λ b. not (b && bytes_eq (series_numbers id.site id.pollutant ++ id.poc ∷ []) (part_numbers key))) monitor;
  events = λ number agreed other kept is.
      ap (λ rank. not (is_same rank (key_numbers key))) (same-is (record_rank other) (6 ∷ number ∷ []) is)
      ∙ ap (λ b. not (b && bytes_eq (number ∷ []) (part_numbers key))) event;
}

drops_event : (number : ℕ)
    → KeepsItsOwn (λ x. not (is_same (record_rank x) (6 ∷ number ∷ [])) && not (is_same (record_rank x) (7 ∷ number ∷ [])))
drops_event number = record {
  monitors = λ id duration eligible. refl;
  events = λ other agreed x kept is.
      ap (λ rank. not (is_same rank (6 ∷ number ∷ [])) && not (is_same rank (7 ∷ number ∷ []))) (same-is (record_rank x) (6 ∷ other ∷ []) is)
      ∙ and_from _ _ kept refl;
}

drop_key : (office : Office) (key : OfficeKey) → (1 == kind_of key) ≡ false → (6 == kind_of key) ≡ false → IsOffice office → IsOffice (without_record key office)
drop_key office key monitor event is =
    kept office (λ x. not (is_same (record_rank x) (key_numbers key))) (drops_itself key monitor event) (record {
      records = without_row-rises record_rank (key_numbers key) office.records is.keys_rise.records;
      observations = is.keys_rise.observations;
      loads = is.keys_rise.loads;
    }) is

drop-valid : (office : Office) (key : OfficeKey) → IsOffice office → is_line_value (OfOffice (Drop key)) ≡ true → IsOffice (without_key key office)
drop-valid office (MonitorKey id) is spelled = absurd (false≢true spelled)
drop-valid office (PrimaryKey site pollutant from) is spelled = drop_key office (PrimaryKey site pollutant from) refl refl is
drop-valid office (ScheduleKey site pollutant from) is spelled = drop_key office (ScheduleKey site pollutant from) refl refl is
drop-valid office (SeasonKey site year) is spelled = drop_key office (SeasonKey site year) refl refl is
drop-valid office (MakeupKey site missed) is spelled = drop_key office (MakeupKey site missed) refl refl is
drop-valid office (EventKey number) is spelled =
    let both_dropped = filter_twice (λ x. not (is_same (record_rank x) (6 ∷ number ∷ []))) (λ x. not (is_same (record_rank x) (7 ∷ number ∷ []))) office.records in
    let rise = KeysRise-changed office (OfOffice (Drop (EventKey number))) is.keys_rise in
    subst (λ rows. IsOffice (record office { records = rows })) (sym both_dropped)
    (kept office (λ x. not (is_same (record_rank x) (6 ∷ number ∷ [])) && not (is_same (record_rank x) (7 ∷ number ∷ []))) (drops_event number)
    (subst (λ rows. KeysRise (record office { records = rows })) both_dropped rise) is)
drop-valid office (ConcurrenceKey number) is spelled = absurd (false≢true spelled)
drop-valid office (ApprovedKey site day) is spelled = drop_key office (ApprovedKey site day) refl refl is
drop-valid office (CombinedKey site pollutant) is spelled = drop_key office (CombinedKey site pollutant) refl refl is

-- ---- the line

pub changed-valid : (office : Office) (value : LineValue) → IsOffice office → is_line_value value ≡ true → broken office value ≡ None → IsOffice (changed office value)
changed-valid office (OfRd value) is spelled unbroken = sample-valid office value is spelled unbroken
changed-valid office (OfOffice (Put r)) is spelled unbroken = put-valid office r is spelled unbroken
changed-valid office (OfOffice (Change r)) is spelled unbroken = change-valid office r is spelled unbroken
changed-valid office (OfOffice (Drop key)) is spelled unbroken = drop-valid office key is spelled

after-valid : (office : Office) (reading : Option Rule) (value : Option LineValue) → ((v : LineValue) → value ≡ Some v → is_line_value v ≡ true) → IsOffice office
    → IsOffice (cond (is_some (option_or reading (broken_by office value))) office (changed_by office value))
after-valid office (Some rule) value spelled is = is
after-valid office None None spelled is = is
after-valid office None (Some value) spelled is = choose (broken office value) refl
  where
    choose : (rule : Option Rule) → broken office value ≡ rule → IsOffice (cond (is_some rule) office (changed office value))
    choose (Some rule) refused = is
    choose None unbroken = changed-valid office value is (spelled value refl) unbroken

pub line_leaves_valid : (office : Office) (line : List ℕ) → IsOffice office → IsOffice (after office line)
line_leaves_valid office line is = after-valid office (reading_rule line) (line_value line) (line_valid line) is

pub lines_leave_valid : (office : Office) (lines : List NumberedLine) → IsOffice office → IsOffice (after_all office lines)
lines_leave_valid office [] is = is
lines_leave_valid office (line ∷ lines) is = lines_leave_valid (after office line.text) lines (line_leaves_valid office line.text is)
