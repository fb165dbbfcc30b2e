-- An office line as it is read: each field is tested in the order of the rules, and the first one that breaks its rule refuses the line.
use Rattle.std.specs.Prelude.{ℕ, Bool, true, false, if◌then◌else◌, Option, Some, None, Result, Ok, Err, List}
use Rattle.std.specs.Option.{ok_or}
use Rattle.aq_base.specs.Calendar.{hour_number}
use Rattle.aq_base.specs.Site.{Site}
use Rattle.aq_base.specs.declared.monitor.Pollutant.{Pollutant}
use Rattle.aq_base.specs.declared.office.OfficeRecord.{OfficeRecord}
use Rattle.aq_base.specs.declared.office.OfficeRecord.TheVariants.{Monitor, Primary, Schedule, Season, Makeup, Event, Concurrence, Approved, Combined}
use Rattle.aq_base.specs.declared.office.OfficeKey.{OfficeKey}
use Rattle.aq_base.specs.declared.office.OfficeKey.TheVariants.{Primary as PrimaryKey, Schedule as ScheduleKey, Season as SeasonKey, Makeup as MakeupKey, Event as EventKey, Approved as ApprovedKey, Combined as CombinedKey}
use Rattle.aq_base.specs.declared.office.OfficeLine.{OfficeLine}
use Rattle.aq_base.specs.declared.office.OfficeLine.TheVariants.{Put, Change, Drop}
use Rattle.aq_base.specs.declared.rule.Rule.{Rule}
use Rattle.aq_base.specs.declared.rule.Rule.TheVariants.{BadBytes, BadTag, FieldCount, BadAction, BadSite, ParameterOutOfProfile, BadPoc, BadDuration, BadDate, BadTime, BadSpan, BadInterval, BadSeason, BadMakeup, BadCode, BadPair}
use Rattle.aq_rd.specs.RdReading.{◌>>=◌}
use Rattle.aq_rules.specs.Lines.Fields.{fields, field}
use Rattle.aq_rules.specs.Lines.OfficeForms.{is_season, is_makeup, is_span, is_pair}
use Rattle.aq_rules.specs.Lines.Reading.{is_plain, tag_of, is_deletion, has_wrong_count, action_for}
use Rattle.aq_rules.specs.Lines.Spellings.{Tag, Rd, Xm, Xp, Xs, Xo, Xu, Xe, Xc, Xa, Xb, Action, Insert, Update, Delete, site_in, parameter_in, parameter_of, poc_in, primary_in, duration_in, date_in, year_in, time_in, interval_in, truth_in, event_number_in, event_code_in}

-- XM: a monitor
unfoldable pub xm_reading : List (List ℕ) → Result OfficeRecord Rule
xm_reading texts = do
  site ← ok_or (site_in (field 3 texts) (field 4 texts) (field 5 texts)) BadSite
  pollutant ← ok_or (parameter_in (field 6 texts)) ParameterOutOfProfile
  poc ← ok_or (poc_in (field 7 texts)) BadPoc
  duration ← ok_or (duration_in pollutant (field 8 texts)) BadDuration
  eligible ← ok_or (truth_in (field 9 texts)) BadCode
  Ok (Monitor (record { site = site; pollutant = pollutant; poc = poc }) duration eligible)

-- XP: the designation of a primary monitor
unfoldable pub xp_reading : List (List ℕ) → Result OfficeRecord Rule
xp_reading texts = do
  site ← ok_or (site_in (field 3 texts) (field 4 texts) (field 5 texts)) BadSite
  pollutant ← ok_or (parameter_of Xp (field 6 texts)) ParameterOutOfProfile
  poc ← ok_or (primary_in (field 8 texts)) BadPoc
  from ← ok_or (date_in (field 7 texts)) BadDate
  Ok (Primary site pollutant from poc)

unfoldable pub xp_key_reading : List (List ℕ) → Result OfficeKey Rule
xp_key_reading texts = do
  site ← ok_or (site_in (field 3 texts) (field 4 texts) (field 5 texts)) BadSite
  pollutant ← ok_or (parameter_of Xp (field 6 texts)) ParameterOutOfProfile
  from ← ok_or (date_in (field 7 texts)) BadDate
  Ok (PrimaryKey site pollutant from)

-- XS: a sampling schedule
unfoldable pub xs_reading : List (List ℕ) → Result OfficeRecord Rule
xs_reading texts = do
  site ← ok_or (site_in (field 3 texts) (field 4 texts) (field 5 texts)) BadSite
  pollutant ← ok_or (parameter_of Xs (field 6 texts)) ParameterOutOfProfile
  from ← ok_or (date_in (field 7 texts)) BadDate
  anchor ← ok_or (date_in (field 9 texts)) BadDate
  interval ← ok_or (interval_in (field 8 texts)) BadInterval
  Ok (Schedule site pollutant from interval anchor)

unfoldable pub xs_key_reading : List (List ℕ) → Result OfficeKey Rule
xs_key_reading texts = do
  site ← ok_or (site_in (field 3 texts) (field 4 texts) (field 5 texts)) BadSite
  pollutant ← ok_or (parameter_of Xs (field 6 texts)) ParameterOutOfProfile
  from ← ok_or (date_in (field 7 texts)) BadDate
  Ok (ScheduleKey site pollutant from)

-- XO: an ozone season
unfoldable pub xo_reading : List (List ℕ) → Result OfficeRecord Rule
xo_reading texts = do
  site ← ok_or (site_in (field 3 texts) (field 4 texts) (field 5 texts)) BadSite
  year ← ok_or (year_in (field 6 texts)) BadDate
  first ← ok_or (date_in (field 7 texts)) BadDate
  last ← ok_or (date_in (field 8 texts)) BadDate
  if is_season year first last then Ok (Season site year first last) else Err BadSeason

unfoldable pub xo_key_reading : List (List ℕ) → Result OfficeKey Rule
xo_key_reading texts = do
  site ← ok_or (site_in (field 3 texts) (field 4 texts) (field 5 texts)) BadSite
  year ← ok_or (year_in (field 6 texts)) BadDate
  Ok (SeasonKey site year)

-- XU: a make-up sample, of PM2.5 alone
unfoldable pub xu_reading : List (List ℕ) → Result OfficeRecord Rule
xu_reading texts = do
  site ← ok_or (site_in (field 3 texts) (field 4 texts) (field 5 texts)) BadSite
  pollutant ← ok_or (parameter_of Xu (field 6 texts)) ParameterOutOfProfile
  missed ← ok_or (date_in (field 7 texts)) BadDate
  makeup ← ok_or (date_in (field 8 texts)) BadDate
  if is_makeup missed makeup then Ok (Makeup site missed makeup) else Err BadMakeup

unfoldable pub xu_key_reading : List (List ℕ) → Result OfficeKey Rule
xu_key_reading texts = do
  site ← ok_or (site_in (field 3 texts) (field 4 texts) (field 5 texts)) BadSite
  pollutant ← ok_or (parameter_of Xu (field 6 texts)) ParameterOutOfProfile
  missed ← ok_or (date_in (field 7 texts)) BadDate
  Ok (MakeupKey site missed)

-- XE: an exceptional event, of which the site, the pollutant and the hours are read first
unfoldable pub event_reading : List (List ℕ) → Site → Pollutant → ℕ → ℕ → Result OfficeRecord Rule
event_reading texts site pollutant first last =
    if is_span first last then (do
      number ← ok_or (event_number_in (field 3 texts)) BadCode
      code ← ok_or (event_code_in (field 12 texts)) BadCode
      Ok (Event number site pollutant first last code))
    else Err BadSpan

unfoldable pub xe_reading : List (List ℕ) → Result OfficeRecord Rule
xe_reading texts = do
  site ← ok_or (site_in (field 4 texts) (field 5 texts) (field 6 texts)) BadSite
  pollutant ← ok_or (parameter_of Xe (field 7 texts)) ParameterOutOfProfile
  first_day ← ok_or (date_in (field 8 texts)) BadDate
  last_day ← ok_or (date_in (field 10 texts)) BadDate
  first_time ← ok_or (time_in (field 9 texts)) BadTime
  last_time ← ok_or (time_in (field 11 texts)) BadTime
  event_reading texts site pollutant (hour_number first_day first_time) (hour_number last_day last_time)

unfoldable pub xe_key_reading : List (List ℕ) → Result OfficeKey Rule
xe_key_reading texts = do
  number ← ok_or (event_number_in (field 3 texts)) BadCode
  Ok (EventKey number)

-- XC: a concurrence
unfoldable pub xc_reading : List (List ℕ) → Result OfficeRecord Rule
xc_reading texts = do
  number ← ok_or (event_number_in (field 3 texts)) BadCode
  agreed ← ok_or (truth_in (field 4 texts)) BadCode
  Ok (Concurrence number agreed)

-- XA: an approved ozone day
unfoldable pub xa_reading : List (List ℕ) → Result OfficeRecord Rule
xa_reading texts = do
  site ← ok_or (site_in (field 3 texts) (field 4 texts) (field 5 texts)) BadSite
  day ← ok_or (date_in (field 6 texts)) BadDate
  Ok (Approved site day)

unfoldable pub xa_key_reading : List (List ℕ) → Result OfficeKey Rule
xa_key_reading texts = do
  site ← ok_or (site_in (field 3 texts) (field 4 texts) (field 5 texts)) BadSite
  day ← ok_or (date_in (field 6 texts)) BadDate
  Ok (ApprovedKey site day)

-- XB: a site that is combined with another one; both sites are read first
unfoldable pub xb_reading : List (List ℕ) → Result OfficeRecord Rule
xb_reading texts = do
  site ← ok_or (site_in (field 3 texts) (field 4 texts) (field 5 texts)) BadSite
  joined ← ok_or (site_in (field 8 texts) (field 9 texts) (field 10 texts)) BadSite
  pollutant ← ok_or (parameter_of Xb (field 6 texts)) ParameterOutOfProfile
  from ← ok_or (date_in (field 7 texts)) BadDate
  if is_pair site joined then Ok (Combined site pollutant from joined) else Err BadPair

unfoldable pub xb_key_reading : List (List ℕ) → Result OfficeKey Rule
xb_key_reading texts = do
  site ← ok_or (site_in (field 3 texts) (field 4 texts) (field 5 texts)) BadSite
  pollutant ← ok_or (parameter_of Xb (field 6 texts)) ParameterOutOfProfile
  Ok (CombinedKey site pollutant)

-- the record of an insertion or update
abbrev pub record_reading : Tag → List (List ℕ) → Result OfficeRecord Rule
record_reading Rd texts = Err BadTag
record_reading Xm texts = xm_reading texts
record_reading Xp texts = xp_reading texts
record_reading Xs texts = xs_reading texts
record_reading Xo texts = xo_reading texts
record_reading Xu texts = xu_reading texts
record_reading Xe texts = xe_reading texts
record_reading Xc texts = xc_reading texts
record_reading Xa texts = xa_reading texts
record_reading Xb texts = xb_reading texts

-- the key of a deletion, which the forms XM and XC do not have
abbrev pub key_reading : Tag → List (List ℕ) → Result OfficeKey Rule
key_reading Rd texts = Err BadTag
key_reading Xm texts = Err BadAction
key_reading Xp texts = xp_key_reading texts
key_reading Xs texts = xs_key_reading texts
key_reading Xo texts = xo_key_reading texts
key_reading Xu texts = xu_key_reading texts
key_reading Xe texts = xe_key_reading texts
key_reading Xc texts = Err BadAction
key_reading Xa texts = xa_key_reading texts
key_reading Xb texts = xb_key_reading texts

abbrev pub action_reading : Tag → Action → List (List ℕ) → Result OfficeLine Rule
action_reading tag Insert texts = record_reading tag texts >>= λ r. Ok (Put r)
action_reading tag Update texts = record_reading tag texts >>= λ r. Ok (Change r)
action_reading tag Delete texts = key_reading tag texts >>= λ key. Ok (Drop key)

unfoldable pub form_reading : Tag → List (List ℕ) → Result OfficeLine Rule
form_reading tag texts =
    if has_wrong_count tag (is_deletion texts) texts then Err FieldCount
    else (ok_or (action_for tag (field 2 texts)) BadAction >>= λ action. action_reading tag action texts)

unfoldable pub office_reading : List ℕ → Result OfficeLine Rule
office_reading line =
    if is_plain line then (ok_or (tag_of line) BadTag >>= λ tag. form_reading tag (fields line)) else Err BadBytes

abbrev pub is_rd : Option Tag → Bool
is_rd None = false
is_rd (Some Rd) = true
is_rd (Some tag) = false

-- a line of plain bytes whose first field is RD
abbrev pub has_rd_tag : List ℕ → Bool
has_rd_tag line = if is_plain line then is_rd (tag_of line) else false
