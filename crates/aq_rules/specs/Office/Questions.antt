-- What is asked of the office's records, each answer a search of their list (own). The list rises by the keys of its records, so the first record that is found is the least one.
use Rattle.std.specs.Prelude.{ℕ, Bool, true, ◌&&◌, ◌==◌, nat_lt, nat_le, if◌then◌else◌, Option, Some, None, List, find, filter_map, slice_get}
use Rattle.aq_base.specs.Site.{Site}
use Rattle.aq_base.specs.declared.monitor.Pollutant.{Pollutant}
use Rattle.aq_base.specs.declared.monitor.Duration.{Duration}
use Rattle.aq_base.specs.declared.monitor.MonitorId.{MonitorId}
use Rattle.aq_base.specs.declared.office.OfficeRecord.{OfficeRecord}
use Rattle.aq_base.specs.declared.office.OfficeRecord.TheVariants.{Monitor, Makeup, Event, Combined}
use Rattle.aq_base.specs.declared.office.OfficeKey.{OfficeKey}
use Rattle.aq_rules.specs.Office.Office.{key_numbers, record_rank, row_at, comes_before, site_numbers}
use Rattle.aq_rules.specs.Office.Monitors.{is_same_site, is_same_pollutant, is_same_monitor}

-- the first of the answers that the records give
abbrev pub first_given : {X : Type 0} → (OfficeRecord → Option X) → List OfficeRecord → Option X
first_given answer records = slice_get (filter_map answer records) 0

-- ---- records by their keys

abbrev pub record_of : List OfficeRecord → OfficeKey → Option OfficeRecord
record_of records key = row_at record_rank (key_numbers key) records

-- whether the record comes after the key, or after none
abbrev pub comes_after : Option OfficeKey → OfficeRecord → Bool
comes_after None r = true
comes_after (Some key) r = comes_before (key_numbers key) (record_rank r)

-- the record that follows a key, whether or not one has the key; of none the first
unfoldable pub following : List OfficeRecord → Option OfficeKey → Option OfficeRecord
following records key = find (comes_after key) records

-- ---- monitors and sites

-- how long a monitor's samples last, and whether its values count
pub record Registered : Type 0 where
  pub duration : Duration
  pub eligible : Bool

abbrev pub registration_by : MonitorId → OfficeRecord → Option Registered
registration_by monitor (Monitor id duration eligible) =
    if is_same_monitor id monitor then Some (record { duration = duration; eligible = eligible }) else None
registration_by monitor _ = None

unfoldable pub registration_of : List OfficeRecord → MonitorId → Option Registered
registration_of records monitor = first_given (registration_by monitor) records

-- a registered POC of the site and pollutant above the given one
abbrev pub poc_above : Site → Pollutant → ℕ → OfficeRecord → Option ℕ
poc_above site pollutant after (Monitor id duration eligible) =
    if is_same_site id.site site && is_same_pollutant id.pollutant pollutant && nat_lt after id.poc then Some id.poc else None
poc_above site pollutant after _ = None

unfoldable pub next_poc : List OfficeRecord → Site → Pollutant → ℕ → Option ℕ
next_poc records site pollutant after = first_given (poc_above site pollutant after) records

-- whether a site comes after another, or after none
abbrev pub is_site_after : Option Site → Site → Bool
is_site_after None site = true
is_site_after (Some other) site = comes_before (site_numbers other) (site_numbers site)

-- the registered site that comes after the given one; of none the first
abbrev pub site_above : Option Site → OfficeRecord → Option Site
site_above after (Monitor id duration eligible) = if is_site_after after id.site then Some id.site else None
site_above after _ = None

unfoldable pub next_site : List OfficeRecord → Option Site → Option Site
next_site records after = first_given (site_above after) records

-- ---- make-up samples

-- the day of the sample that makes up for a missed day of the site
abbrev pub makeup_for : Site → ℕ → OfficeRecord → Option ℕ
makeup_for site day (Makeup other missed makeup) = if is_same_site other site && (missed == day) then Some makeup else None
makeup_for site day _ = None

unfoldable pub makeup_of : List OfficeRecord → Site → ℕ → Option ℕ
makeup_of records site missed = first_given (makeup_for site missed) records

-- the missed day for which the sample of a day of the site makes up
abbrev pub missed_for : Site → ℕ → OfficeRecord → Option ℕ
missed_for site day (Makeup other missed makeup) = if is_same_site other site && (makeup == day) then Some missed else None
missed_for site day _ = None

unfoldable pub missed_of : List OfficeRecord → Site → ℕ → Option ℕ
missed_of records site makeup = first_given (missed_for site makeup) records

-- ---- combined sites

-- the site that is joined to another one for a pollutant, and from which day on
pub record Joined : Type 0 where
  pub site : Site
  pub from : ℕ

abbrev pub joined_by : Site → Pollutant → OfficeRecord → Option Joined
joined_by site pollutant (Combined other kind from joined) =
    if is_same_site other site && is_same_pollutant kind pollutant then Some (record { site = joined; from = from }) else None
joined_by site pollutant _ = None

-- none if the site is not the first one of a combination of the pollutant
unfoldable pub combined : List OfficeRecord → Site → Pollutant → Option Joined
combined records site pollutant = first_given (joined_by site pollutant) records

-- ---- events

-- whether the event of this number holds the hour in its span
abbrev pub coverage_by : ℕ → ℕ → OfficeRecord → Option Bool
coverage_by number hour (Event other site pollutant first last code) =
    if other == number then Some (nat_le first hour && nat_le hour last) else None
coverage_by number hour _ = None

-- none if no such event stands
unfoldable pub covers : List OfficeRecord → ℕ → ℕ → Option Bool
covers records number hour = first_given (coverage_by number hour) records
