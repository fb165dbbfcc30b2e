-- Which office rules a line's value breaks, found by searching the lists of the office (own).
use Rattle.std.specs.Prelude.{ℕ, Bool, true, false, not, ◌&&◌, ◌||◌, nat_le, nat_lt, Option, Some, is_some, is_none, List, [], ◌∷◌, length, find}
use Rattle.std.specs.List.{list_any}
use Rattle.aq_base.specs.Calendar.{day_of_hour, hour_number}
use Rattle.aq_base.specs.declared.monitor.Duration.{Duration}
use Rattle.aq_base.specs.declared.monitor.Duration.TheVariants.{Hour, Day}
use Rattle.aq_base.specs.declared.monitor.MonitorId.{MonitorId}
use Rattle.aq_base.specs.declared.observation.ObsKey.{ObsKey}
use Rattle.aq_base.specs.declared.office.OfficeRecord.{OfficeRecord}
use Rattle.aq_base.specs.declared.office.OfficeRecord.TheVariants.{Monitor, Primary, Schedule, Season, Makeup, Event, Concurrence, Approved, Combined}
use Rattle.aq_base.specs.declared.office.OfficeKey.{OfficeKey}
use Rattle.aq_base.specs.declared.office.OfficeKey.TheVariants.{Monitor as MonitorKey, Event as EventKey, Concurrence as ConcurrenceKey}
use Rattle.aq_base.specs.declared.office.OfficeLine.TheVariants.{Put, Change, Drop}
use Rattle.aq_base.specs.declared.rule.Rule.{Rule}
use Rattle.aq_base.specs.declared.rule.Rule.TheVariants.{UnknownMonitor, WrongDuration, AlreadyThere, NotThere, ObservationsFull, SitesFull, MonitorsFull, MakeupsFull, UnknownEvent, EventsFull, ListFull, PairTaken}
use Rattle.aq_rules.specs.Limits.{MOST_OBSERVATIONS, MOST_SITES}
use Rattle.aq_rules.specs.Lines.RdForm.{Put as PutSample, Delete as DeleteSample}
use Rattle.aq_rules.specs.Lines.Reading.{LineValue, OfRd, OfOffice}
use Rattle.aq_rules.specs.Office.Office.{Office, key_of, record_at, observation_at, duration_at, is_same, site_numbers, sites_of, group_size, most_in_group, makeups_on, combinations_of, has_its_monitor, event_stands}

-- ---- samples

abbrev pub kept_at : Option Duration → ℕ → ℕ
kept_at (Some Day) hour = hour_number (day_of_hour hour) 0
kept_at _ hour = hour

-- where a sample stands: that of a 24-hour monitor at hour 00 of its date, whatever start time its line names
abbrev pub kept_key : Office → MonitorId → ℕ → ObsKey
kept_key office monitor hour =
    record { monitor = monitor; hour = kept_at (duration_at office monitor) hour }

abbrev pub sample_stands : Office → MonitorId → ℕ → Bool
sample_stands office monitor hour = is_some (observation_at office (kept_key office monitor hour))

abbrev pub is_other_duration : Option Duration → Duration → Bool
is_other_duration (Some Hour) Day = true
is_other_duration (Some Day) Hour = true
is_other_duration _ duration = false

-- ---- the rules

abbrev pub lacks_monitor : Office → LineValue → Bool
lacks_monitor office (OfRd (PutSample update monitor duration hour content)) = is_none (duration_at office monitor)
lacks_monitor office (OfRd (DeleteSample monitor hour)) = is_none (duration_at office monitor)
lacks_monitor office (OfOffice (Put r)) = not (has_its_monitor office r)
lacks_monitor office (OfOffice (Change (Monitor id duration eligible))) = is_none (duration_at office id)
lacks_monitor office value = false

abbrev pub has_wrong_duration : Office → LineValue → Bool
has_wrong_duration office (OfRd (PutSample update monitor duration hour content)) =
    is_other_duration (duration_at office monitor) duration
has_wrong_duration office (OfOffice (Change (Monitor id duration eligible))) =
    is_other_duration (duration_at office id) duration
has_wrong_duration office value = false

abbrev pub key_stands : Office → OfficeKey → Bool
key_stands office key = is_some (record_at office key)

-- a make-up day makes up for one missed day alone
abbrev pub is_taken : Office → OfficeRecord → Bool
is_taken office (Makeup site missed makeup) = nat_lt 0 (makeups_on office site makeup)
is_taken office r = false

abbrev pub is_there : Office → LineValue → Bool
is_there office (OfRd (PutSample update monitor duration hour content)) = sample_stands office monitor hour
is_there office (OfRd (DeleteSample monitor hour)) = sample_stands office monitor hour
is_there office (OfOffice (Put r)) = key_stands office (key_of r) || is_taken office r
is_there office (OfOffice (Change r)) = key_stands office (key_of r)
is_there office (OfOffice (Drop key)) = key_stands office key

-- a new site if as many are registered as there may be
abbrev pub is_new_site : Office → LineValue → Bool
is_new_site office (OfOffice (Put (Monitor id duration eligible))) =
    not (list_any (λ site. is_same (site_numbers site) (site_numbers id.site)) (sites_of office.records))
is_new_site office value = false

-- as many records stand beside this one as may
abbrev pub is_full : Office → LineValue → Bool
is_full office (OfOffice (Put r)) = nat_le (most_in_group r) (group_size office r)
is_full office value = false

abbrev pub lacks_event : Office → LineValue → Bool
lacks_event office (OfOffice (Change (Concurrence number agreed))) = not (event_stands office number)
lacks_event office (OfOffice (Drop (EventKey number))) = not (event_stands office number)
lacks_event office value = false

-- one of the two sites stands in a combination of the pollutant, in either part
abbrev pub is_combined : Office → OfficeRecord → Bool
is_combined office (Combined site pollutant from joined) = nat_lt 0 (combinations_of office site joined pollutant)
is_combined office r = false

abbrev pub has_combined_site : Office → LineValue → Bool
has_combined_site office (OfOffice (Put r)) = is_combined office r
has_combined_site office value = false

-- whether the value breaks the rule; the rules of full lists differ in the form that meets them
abbrev pub breaks_office : Rule → Office → LineValue → Bool
breaks_office UnknownMonitor office value = lacks_monitor office value
breaks_office WrongDuration office value = has_wrong_duration office value
breaks_office AlreadyThere office value = is_there office value
breaks_office NotThere office value = not (is_there office value)
breaks_office ObservationsFull office value = nat_le MOST_OBSERVATIONS (length office.observations)
breaks_office SitesFull office value = is_new_site office value && nat_le MOST_SITES (length (sites_of office.records))
breaks_office MonitorsFull office value = is_full office value
breaks_office MakeupsFull office value = is_full office value
breaks_office UnknownEvent office value = lacks_event office value
breaks_office EventsFull office value = is_full office value
breaks_office ListFull office value = is_full office value
breaks_office PairTaken office value = has_combined_site office value
breaks_office rule office value = false

-- ---- the rules that a value meets, in rising number

abbrev pub rules_of_new : OfficeRecord → List Rule
rules_of_new (Monitor id duration eligible) = AlreadyThere ∷ SitesFull ∷ MonitorsFull ∷ []
rules_of_new (Primary site pollutant from poc) = UnknownMonitor ∷ AlreadyThere ∷ ListFull ∷ []
rules_of_new (Schedule site pollutant from interval anchor) = UnknownMonitor ∷ AlreadyThere ∷ ListFull ∷ []
rules_of_new (Season site year first last) = UnknownMonitor ∷ AlreadyThere ∷ []
rules_of_new (Makeup site missed makeup) = UnknownMonitor ∷ AlreadyThere ∷ MakeupsFull ∷ []
rules_of_new (Event number site pollutant first last code) = UnknownMonitor ∷ AlreadyThere ∷ EventsFull ∷ []
rules_of_new (Concurrence number agreed) = []
rules_of_new (Approved site day) = UnknownMonitor ∷ AlreadyThere ∷ []
rules_of_new (Combined site pollutant from joined) = UnknownMonitor ∷ AlreadyThere ∷ PairTaken ∷ []

abbrev pub rules_of_change : OfficeRecord → List Rule
rules_of_change (Monitor id duration eligible) = UnknownMonitor ∷ WrongDuration ∷ []
rules_of_change (Concurrence number agreed) = UnknownEvent ∷ []
rules_of_change r = []

abbrev pub rules_of_deletion : OfficeKey → List Rule
rules_of_deletion (MonitorKey id) = []
rules_of_deletion (EventKey number) = UnknownEvent ∷ []
rules_of_deletion (ConcurrenceKey number) = []
rules_of_deletion key = NotThere ∷ []

abbrev pub office_rules : LineValue → List Rule
office_rules (OfRd (PutSample false monitor duration hour content)) =
    UnknownMonitor ∷ WrongDuration ∷ AlreadyThere ∷ ObservationsFull ∷ []
office_rules (OfRd (PutSample true monitor duration hour content)) =
    UnknownMonitor ∷ WrongDuration ∷ NotThere ∷ []
office_rules (OfRd (DeleteSample monitor hour)) = UnknownMonitor ∷ NotThere ∷ []
office_rules (OfOffice (Put r)) = rules_of_new r
office_rules (OfOffice (Change r)) = rules_of_change r
office_rules (OfOffice (Drop key)) = rules_of_deletion key

-- the least office rule that a value breaks
abbrev pub broken : Office → LineValue → Option Rule
broken office value = find (λ rule. breaks_office rule office value) (office_rules value)
