-- What holds of the records of every registry, and what its answers read of one record.
use Rattle.std.specs.Prelude.{◌≡◌, ◌==◌, if◌then◌else◌, ℕ, Bool, false, not, ◌&&◌, nat_le, Option, Some, None, List, [], ◌∷◌, length, count_by, filter_map}
use Rattle.aq_base.specs.Site.{Site}
use Rattle.aq_base.specs.declared.monitor.Duration.{Duration}
use Rattle.aq_base.specs.declared.monitor.Pollutant.{Pollutant}
use Rattle.aq_base.specs.declared.office.OfficeRecord.{OfficeRecord}
use Rattle.aq_base.specs.declared.office.OfficeRecord.TheVariants.{Monitor, Primary, Schedule, Season, Makeup, Event, Concurrence, Combined}
use Rattle.aq_base.specs.declared.office.OfficeKey.{OfficeKey}
use Rattle.aq_base.specs.declared.office.OfficeKey.TheVariants.{Event as EventKey}
use Rattle.aq_registry.specs.declared.agreed.Span.{Span}
use Rattle.aq_registry.specs.Agreed.{AreAgreedOf}
use Rattle.aq_rules.specs.Lists.{latest}
use Rattle.aq_rules.specs.Office.Refusal.{key_stands}
use Rattle.aq_rules.specs.Office.Office.{Office, IsOffice, group_of, is_same, sites_of}
use Rattle.aq_rules.specs.Office.Questions.{Registered, Joined}
use Rattle.aq_rules.specs.Office.Season.{Season as Days}
use Rattle.aq_rules.specs.Office.Designation.{Designation}
use Rattle.aq_rules.specs.Office.Schedule.{Schedule as Sampling, schedule_by}

-- an office of these records alone
abbrev pub office_with : List OfficeRecord → Office
office_with records = record { records = records; observations = []; loads = [] }

-- how many events stand
abbrev pub events_in : List OfficeRecord → ℕ
events_in records = count_by (λ r. is_same (group_of r) (6 ∷ [])) records

-- whether a record is an event whose number is new
abbrev pub adds_event : List OfficeRecord → OfficeRecord → Bool
adds_event records (Event number site pollutant first last code) = not (key_stands (office_with records) (EventKey number))
adds_event records r = false

-- whether a key is that of an event that stands
abbrev pub drops_event : List OfficeRecord → OfficeKey → Bool
drops_event records (EventKey number) = key_stands (office_with records) (EventKey number)
drops_event records key = false

-- the records are those of a valid office, its sites and events are counted, and its agreed events are those of the index
pub record IsRegistry (records : List OfficeRecord) (sites events : ℕ) (agreed : List Span) : Type 0 where
  pub office : IsOffice (office_with records)
  pub sites_counted : sites ≡ length (sites_of records)
  pub events_counted : events ≡ events_in records
  pub agreed_held : AreAgreedOf records agreed

-- the schedule in force on a day: the one with the greatest start date not after it
unfoldable pub schedule_on : List OfficeRecord → Site → Pollutant → ℕ → Option Sampling
schedule_on records site pollutant day = latest (λ (s : Sampling). s.from) (filter_map (schedule_by site pollutant day) records)

-- ---- what a record says

abbrev pub registration_in : OfficeRecord → Option Registered
registration_in (Monitor id duration eligible) = Some (record { duration = duration; eligible = eligible })
registration_in r = None

-- a registration as the registry answers it
abbrev pub pair_of : Registered → Duration × Bool
pair_of registered = (registered.duration, registered.eligible)

abbrev pub poc_in : OfficeRecord → Option ℕ
poc_in (Monitor id duration eligible) = Some id.poc
poc_in r = None

abbrev pub site_in : OfficeRecord → Option Site
site_in (Monitor id duration eligible) = Some id.site
site_in r = None

abbrev pub season_in : OfficeRecord → Option Days
season_in (Season site year first last) = Some (record { first = first; last = last })
season_in r = None

abbrev pub days_of : Days → ℕ × ℕ
days_of season = (season.first, season.last)

abbrev pub makeup_in : OfficeRecord → Option ℕ
makeup_in (Makeup site missed makeup) = Some makeup
makeup_in r = None

abbrev pub joined_in : OfficeRecord → Option Joined
joined_in (Combined site pollutant from joined) = Some (record { site = joined; from = from })
joined_in r = None

-- a joined site as the registry answers it
abbrev pub joined_from : Joined → Site × ℕ
joined_from joined = (joined.site, joined.from)

abbrev pub coverage_in : ℕ → OfficeRecord → Option Bool
coverage_in hour (Event number site pollutant first last code) = Some (nat_le first hour && nat_le hour last)
coverage_in hour r = None

abbrev pub designation_in : OfficeRecord → Option Designation
designation_in (Primary site pollutant from poc) = Some (record { from = from; poc = poc })
designation_in r = None

abbrev pub schedule_in : OfficeRecord → Option Sampling
schedule_in (Schedule site pollutant from interval anchor) = Some (record { from = from; interval = interval; anchor = anchor })
schedule_in r = None

-- the missed day for which the sample of a day makes up
abbrev pub missed_by : ℕ → OfficeRecord → Option ℕ
missed_by day (Makeup site missed makeup) = if makeup == day then Some missed else None
missed_by day r = None

abbrev pub agreement_in : OfficeRecord → Bool
agreement_in (Concurrence number agreed) = agreed
agreement_in r = false
