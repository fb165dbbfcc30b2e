-- The rules of the office in the order in which they are tested, and what they read.
use Rattle.std.specs.Prelude.{ℕ, Bool, not, ◌||◌, ◌&&◌, nat_le, if◌then◌else◌, ◌==◌, is_some, is_none, Option, Some, None, [], ◌∷◌, ◌++◌, length}
use Rattle.aq_base.specs.Calendar.{quarter_of}
use Rattle.aq_base.specs.Site.{Site}
use Rattle.aq_base.specs.declared.monitor.Pollutant.{Pollutant}
use Rattle.aq_base.specs.declared.office.OfficeRecord.{OfficeRecord}
use Rattle.aq_base.specs.declared.office.OfficeRecord.TheVariants.{Monitor, Primary, Schedule, Makeup, Event, Concurrence}
use Rattle.aq_base.specs.declared.office.OfficeKey.{OfficeKey}
use Rattle.aq_base.specs.declared.office.OfficeKey.TheVariants.{Event as EventKey}
use Rattle.aq_base.specs.declared.office.OfficeLine.TheVariants.{Put}
use Rattle.aq_base.specs.declared.rule.Rule.{Rule}
use Rattle.aq_base.specs.declared.rule.Rule.TheVariants.{UnknownMonitor, WrongDuration, AlreadyThere, NotThere, SitesFull, MonitorsFull, MakeupsFull, UnknownEvent, EventsFull, ListFull, PairTaken}
use Rattle.aq_rules.specs.Lines.Spellings.{◌>>=◌}
use Rattle.aq_base.specs.declared.monitor.Duration.{Duration}
use Rattle.aq_rules.specs.Limits.{MOST_SITES}
use Rattle.aq_rules.specs.Lines.Reading.{OfOffice}
use Rattle.aq_rules.specs.Office.Office.{Office, key_of, site_numbers, sites_of, is_same, group_of, group_size, most_in_group, has_monitor, has_its_monitor, duration_at, monitor_duration}
use Rattle.aq_rules.specs.Office.Refusal.{key_stands, is_taken, is_combined, is_new_site, is_other_duration}

-- the rule of a full list, if as many stand as may
abbrev pub rule_where_full : ℕ → ℕ → Rule → Option Rule
rule_where_full count most rule = if nat_le most count then Some rule else None

-- the rule, if as many records stand beside this one as may
abbrev pub rule_if_full : Office → OfficeRecord → Rule → Option Rule
rule_if_full office r rule = rule_where_full (group_size office r) (most_in_group r) rule

-- the rule of the list that a new record joins, if it is full
abbrev pub full_rule : Office → OfficeRecord → Option Rule
full_rule office (Monitor id duration eligible) = rule_if_full office (Monitor id duration eligible) MonitorsFull
full_rule office (Primary site pollutant from poc) = rule_if_full office (Primary site pollutant from poc) ListFull
full_rule office (Schedule site pollutant from interval anchor) =
    rule_if_full office (Schedule site pollutant from interval anchor) ListFull
full_rule office (Makeup site missed makeup) = rule_if_full office (Makeup site missed makeup) MakeupsFull
full_rule office (Event number site pollutant first last code) =
    rule_if_full office (Event number site pollutant first last code) EventsFull
full_rule office r = None

-- a monitor of a new site if as many sites are registered as may
abbrev pub lacks_site_room : Office → OfficeRecord → Bool
lacks_site_room office r = is_new_site office (OfOffice (Put r)) && nat_le MOST_SITES (length (sites_of office.records))

-- the rule that a new record breaks
abbrev pub new_rule : Office → OfficeRecord → Option Rule
new_rule office r =
    if not (has_its_monitor office r) then Some UnknownMonitor
    else (if key_stands office (key_of r) || is_taken office r then Some AlreadyThere
    else (if lacks_site_room office r then Some SitesFull
    else (if is_combined office r then Some PairTaken else full_rule office r)))

-- the rule that a changed record breaks
abbrev pub change_rule : Office → OfficeRecord → Option Rule
change_rule office (Monitor id duration eligible) =
    if is_none (duration_at office id) then Some UnknownMonitor
    else (if is_other_duration (duration_at office id) duration then Some WrongDuration else None)
change_rule office (Concurrence number agreed) = if key_stands office (EventKey number) then None else Some UnknownEvent
change_rule office r = None

-- the rule of a key that does not stand
abbrev pub absent_rule : OfficeKey → Rule
absent_rule (EventKey number) = UnknownEvent
absent_rule key = NotThere

abbrev pub drop_rule : Office → OfficeKey → Option Rule
drop_rule office key = if key_stands office key then None else Some (absent_rule key)

-- a monitor's duration
abbrev pub duration_in : Option OfficeRecord → Option Duration
duration_in o = o >>= monitor_duration

-- the monitor that a designation needs: the one that it names, or any of the pollutant
abbrev pub has_designated : Office → Site → Pollutant → ℕ → Bool
has_designated office site pollutant poc =
    if poc == 0 then has_monitor office site pollutant
    else is_some (duration_at office (record { site = site; pollutant = pollutant; poc = poc }))

-- a make-up sample of the site whose missed day lies in the quarter of a day
abbrev pub makes_up_in : Site → ℕ → OfficeRecord → Bool
makes_up_in site missed other = is_same (group_of other) (5 ∷ site_numbers site ++ quarter_of missed ∷ [])
