-- The key under which a record of the office is kept (own).
use Rattle.aq_base.specs.declared.office.OfficeRecord.{OfficeRecord}
use Rattle.aq_base.specs.declared.office.OfficeRecord.TheVariants.{Monitor, Primary, Schedule, Season, Makeup, Event, Concurrence, Approved, Combined}
use Rattle.aq_base.specs.declared.office.OfficeKey.{OfficeKey}
use Rattle.aq_base.specs.declared.office.OfficeKey.TheVariants.{Monitor as MonitorKey, Primary as PrimaryKey, Schedule as ScheduleKey, Season as SeasonKey, Makeup as MakeupKey, Event as EventKey, Concurrence as ConcurrenceKey, Approved as ApprovedKey, Combined as CombinedKey}

abbrev pub key_of : OfficeRecord → OfficeKey
key_of (Monitor id duration eligible) = MonitorKey id
key_of (Primary site pollutant from poc) = PrimaryKey site pollutant from
key_of (Schedule site pollutant from interval anchor) = ScheduleKey site pollutant from
key_of (Season site year first last) = SeasonKey site year
key_of (Makeup site missed makeup) = MakeupKey site missed
key_of (Event number site pollutant first last code) = EventKey number
key_of (Concurrence number agreed) = ConcurrenceKey number
key_of (Approved site day) = ApprovedKey site day
key_of (Combined site pollutant from joined) = CombinedKey site pollutant
