-- The record that an office line spells, and the key that a line of deletion spells, form by form (own).
use Rattle.std.specs.Prelude.{ℕ, ◌+◌, Bool, not, ◌&&◌, ◌==◌, nat_le, nat_lt, if◌then◌else◌, Option, Some, None, List}
use Rattle.aq_base.specs.Calendar.{hour_number, year_of, quarter_of}
use Rattle.aq_base.specs.Site.{Site}
use Rattle.aq_base.specs.declared.office.OfficeRecord.{OfficeRecord}
use Rattle.aq_base.specs.declared.office.OfficeRecord.TheVariants.{Monitor, Primary, Schedule, Season, Makeup, Event, Concurrence, Approved, Combined}
use Rattle.aq_base.specs.declared.office.OfficeKey.{OfficeKey}
use Rattle.aq_base.specs.declared.office.OfficeKey.TheVariants.{Primary as PrimaryKey, Schedule as ScheduleKey, Season as SeasonKey, Makeup as MakeupKey, Event as EventKey, Approved as ApprovedKey, Combined as CombinedKey}
use Rattle.aq_base.specs.declared.office.OfficeLine.{OfficeLine}
use Rattle.aq_base.specs.declared.office.OfficeLine.TheVariants.{Put, Change, Drop}
use Rattle.aq_rules.specs.Lines.Forms.{SampleDuration, Date, Eligible, PrimaryPoc, Interval, Anchor, Year, FirstDay, LastDay, MissedDay, MakeupDay, EventNumber, FirstDate, FirstTime, LastDate, LastTime, EventCode, Agreed, text_of, site_of, pollutant_of, joined_of}
use Rattle.aq_rules.specs.Limits.{MOST_EVENT_HOURS}
use Rattle.aq_rules.specs.Lines.RdForm.{monitor_in}
use Rattle.aq_rules.specs.Office.Monitors.{is_same_site}
use Rattle.aq_rules.specs.Lines.Spellings.{◌>>=◌, Tag, Rd, Xm, Xp, Xs, Xo, Xu, Xe, Xc, Xa, Xb, Action, Insert, Update, Delete, primary_in, duration_in, date_in, year_in, time_in, interval_in, truth_in, event_number_in, event_code_in}

-- a date and a time, in two fields
abbrev pub hour_in : List ℕ → List ℕ → Option ℕ
hour_in date time = do
  day ← date_in date
  hour ← time_in time
  Some (hour_number day hour)

-- a season's first and last day lie in its year, in this order
abbrev pub is_season : ℕ → ℕ → ℕ → Bool
is_season year first last = (year_of first == year) && (year_of last == year) && nat_le first last

-- a make-up day comes after the missed day, in its quarter, at most seven days later
abbrev pub is_makeup : ℕ → ℕ → Bool
is_makeup missed makeup = nat_lt missed makeup && (quarter_of makeup == quarter_of missed) && nat_le makeup (missed + 7)

-- an event has its last hour at or after its first, and not too many hours
abbrev pub is_span : ℕ → ℕ → Bool
is_span first last = nat_le first last && nat_lt last (first + MOST_EVENT_HOURS)

-- a site is combined with another one
abbrev pub is_pair : Site → Site → Bool
is_pair site joined = not (is_same_site site joined)

-- XM: a monitor
unfoldable pub xm_record : List (List ℕ) → Option OfficeRecord
xm_record texts = do
  id ← monitor_in Xm texts
  duration ← duration_in id.pollutant (text_of Xm SampleDuration texts)
  eligible ← truth_in (text_of Xm Eligible texts)
  Some (Monitor id duration eligible)

-- XP: the designation of a primary monitor
unfoldable pub xp_record : List (List ℕ) → Option OfficeRecord
xp_record texts = do
  site ← site_of Xp texts
  pollutant ← pollutant_of Xp texts
  poc ← primary_in (text_of Xp PrimaryPoc texts)
  from ← date_in (text_of Xp Date texts)
  Some (Primary site pollutant from poc)

unfoldable pub xp_key : List (List ℕ) → Option OfficeKey
xp_key texts = do
  site ← site_of Xp texts
  pollutant ← pollutant_of Xp texts
  from ← date_in (text_of Xp Date texts)
  Some (PrimaryKey site pollutant from)

-- XS: a sampling schedule
unfoldable pub xs_record : List (List ℕ) → Option OfficeRecord
xs_record texts = do
  site ← site_of Xs texts
  pollutant ← pollutant_of Xs texts
  from ← date_in (text_of Xs Date texts)
  anchor ← date_in (text_of Xs Anchor texts)
  interval ← interval_in (text_of Xs Interval texts)
  Some (Schedule site pollutant from interval anchor)

unfoldable pub xs_key : List (List ℕ) → Option OfficeKey
xs_key texts = do
  site ← site_of Xs texts
  pollutant ← pollutant_of Xs texts
  from ← date_in (text_of Xs Date texts)
  Some (ScheduleKey site pollutant from)

-- XO: an ozone season
unfoldable pub xo_record : List (List ℕ) → Option OfficeRecord
xo_record texts = do
  site ← site_of Xo texts
  year ← year_in (text_of Xo Year texts)
  first ← date_in (text_of Xo FirstDay texts)
  last ← date_in (text_of Xo LastDay texts)
  if is_season year first last then Some (Season site year first last) else None

unfoldable pub xo_key : List (List ℕ) → Option OfficeKey
xo_key texts = do
  site ← site_of Xo texts
  year ← year_in (text_of Xo Year texts)
  Some (SeasonKey site year)

-- XU: a make-up sample, of PM2.5 alone
unfoldable pub xu_record : List (List ℕ) → Option OfficeRecord
xu_record texts = do
  site ← site_of Xu texts
  _ ← pollutant_of Xu texts
  missed ← date_in (text_of Xu MissedDay texts)
  makeup ← date_in (text_of Xu MakeupDay texts)
  if is_makeup missed makeup then Some (Makeup site missed makeup) else None

unfoldable pub xu_key : List (List ℕ) → Option OfficeKey
xu_key texts = do
  site ← site_of Xu texts
  _ ← pollutant_of Xu texts
  missed ← date_in (text_of Xu MissedDay texts)
  Some (MakeupKey site missed)

-- XE: an exceptional event
unfoldable pub xe_record : List (List ℕ) → Option OfficeRecord
xe_record texts = do
  site ← site_of Xe texts
  pollutant ← pollutant_of Xe texts
  first ← hour_in (text_of Xe FirstDate texts) (text_of Xe FirstTime texts)
  last ← hour_in (text_of Xe LastDate texts) (text_of Xe LastTime texts)
  number ← event_number_in (text_of Xe EventNumber texts)
  code ← event_code_in (text_of Xe EventCode texts)
  if is_span first last then Some (Event number site pollutant first last code) else None

unfoldable pub xe_key : List (List ℕ) → Option OfficeKey
xe_key texts = do
  number ← event_number_in (text_of Xe EventNumber texts)
  Some (EventKey number)

-- XC: a concurrence
unfoldable pub xc_record : List (List ℕ) → Option OfficeRecord
xc_record texts = do
  number ← event_number_in (text_of Xc EventNumber texts)
  agreed ← truth_in (text_of Xc Agreed texts)
  Some (Concurrence number agreed)

-- XA: an approved ozone day
unfoldable pub xa_record : List (List ℕ) → Option OfficeRecord
xa_record texts = do
  site ← site_of Xa texts
  day ← date_in (text_of Xa Date texts)
  Some (Approved site day)

unfoldable pub xa_key : List (List ℕ) → Option OfficeKey
xa_key texts = do
  site ← site_of Xa texts
  day ← date_in (text_of Xa Date texts)
  Some (ApprovedKey site day)

-- XB: a site that is combined with another one; both sites are read first
unfoldable pub xb_record : List (List ℕ) → Option OfficeRecord
xb_record texts = do
  site ← site_of Xb texts
  joined ← joined_of Xb texts
  pollutant ← pollutant_of Xb texts
  from ← date_in (text_of Xb Date texts)
  if is_pair site joined then Some (Combined site pollutant from joined) else None

unfoldable pub xb_key : List (List ℕ) → Option OfficeKey
xb_key texts = do
  site ← site_of Xb texts
  pollutant ← pollutant_of Xb texts
  Some (CombinedKey site pollutant)

-- the record of an insertion or update
abbrev pub record_in : Tag → List (List ℕ) → Option OfficeRecord
record_in Rd texts = None
record_in Xm texts = xm_record texts
record_in Xp texts = xp_record texts
record_in Xs texts = xs_record texts
record_in Xo texts = xo_record texts
record_in Xu texts = xu_record texts
record_in Xe texts = xe_record texts
record_in Xc texts = xc_record texts
record_in Xa texts = xa_record texts
record_in Xb texts = xb_record texts

-- the key of a deletion, which the forms XM and XC do not have
abbrev pub key_in : Tag → List (List ℕ) → Option OfficeKey
key_in Rd texts = None
key_in Xm texts = None
key_in Xp texts = xp_key texts
key_in Xs texts = xs_key texts
key_in Xo texts = xo_key texts
key_in Xu texts = xu_key texts
key_in Xe texts = xe_key texts
key_in Xc texts = None
key_in Xa texts = xa_key texts
key_in Xb texts = xb_key texts

abbrev pub office_line_in : Tag → Action → List (List ℕ) → Option OfficeLine
office_line_in tag Insert texts = record_in tag texts >>= λ r. Some (Put r)
office_line_in tag Update texts = record_in tag texts >>= λ r. Some (Change r)
office_line_in tag Delete texts = key_in tag texts >>= λ key. Some (Drop key)
