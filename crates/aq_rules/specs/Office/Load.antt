-- What a load's lines make of an office, its reply, and the rows that it changes (own).
use Rattle.std.specs.Prelude.{ℕ, ◌-◌, Bool, true, false, ◌&&◌, ◌==◌, nat_le, nat_lt, if◌then◌else◌, Option, Some, None, is_some, List, [], ◌∷◌, ◌++◌, length, take, drop, map, count_by, filter_map, bytes_eq, fold}
use Rattle.std.specs.Bool.{beq as is_same_truth}
use Rattle.std.specs.Option.{option_or, option_eq}
use Rattle.std.specs.Ordering.{int_eq}
use lib.Pointwise.{pointwise}
use Rattle.aq_base.specs.Quals.{is_same_code}
use Rattle.aq_base.specs.Rule.{rule_number, all_rules}
use Rattle.aq_base.specs.declared.observation.ObsKey.{ObsKey}
use Rattle.aq_base.specs.declared.observation.Observation.{Observation}
use Rattle.aq_base.specs.declared.monitor.Duration.{Duration}
use Rattle.aq_base.specs.declared.monitor.Duration.TheVariants.{Hour, Day}
use Rattle.aq_base.specs.declared.office.OfficeRecord.{OfficeRecord}
use Rattle.aq_base.specs.declared.office.OfficeRecord.TheVariants.{Monitor, Primary, Schedule, Season, Makeup, Event, Concurrence, Approved, Combined}
use Rattle.aq_base.specs.declared.office.OfficeKey.{OfficeKey}
use Rattle.aq_base.specs.declared.office.OfficeKey.TheVariants.{Event as EventKey, Concurrence as ConcurrenceKey}
use Rattle.aq_base.specs.declared.office.OfficeLine.TheVariants.{Put, Change, Drop}
use Rattle.aq_base.specs.declared.reply.LoadReply.{LoadReply}
use Rattle.aq_base.specs.declared.reply.ListedLine.{ListedLine}
use Rattle.aq_base.specs.declared.reply.RestRule.{RestRule}
use Rattle.aq_base.specs.declared.rule.Rule.{Rule}
use Rattle.aq_rules.specs.Limits.{MOST_LINES, MOST_LISTED, MOST_LOADS}
use Rattle.aq_rules.specs.Lines.Lines.{NumberedLine, line_count, body_lines}
use Rattle.aq_rules.specs.Lines.RdForm.{Put as PutSample, Delete as DeleteSample}
use Rattle.aq_rules.specs.Lines.Reading.{LineValue, OfRd, OfOffice, reading_rule, line_value}
use Rattle.aq_rules.specs.Office.Office.{Office, StoredLoad, key_of, key_numbers, observation_numbers, record_rank, observation_rank, load_rank, with_row, without_row, record_at, observation_at, load_at, observation_key}
use Rattle.aq_rules.specs.Office.Monitors.{is_same_site, is_same_pollutant, is_same_monitor}
use Rattle.aq_rules.specs.Office.Refusal.{kept_key, broken}

-- ---- one line

abbrev pub with_record : OfficeRecord → Office → Office
with_record r office = record office { records = with_row record_rank r office.records }

abbrev pub without_record : OfficeKey → Office → Office
without_record key office = record office { records = without_row record_rank (key_numbers key) office.records }

-- an event goes with its concurrence
abbrev pub without_key : OfficeKey → Office → Office
without_key (EventKey number) office = without_record (ConcurrenceKey number) (without_record (EventKey number) office)
without_key key office = without_record key office

-- the office with the row of a value added, replaced or dropped
abbrev pub changed : Office → LineValue → Office
changed office (OfRd (PutSample update monitor duration hour content)) =
    record office { observations = with_row observation_rank (kept_key office monitor hour, content) office.observations }
changed office (OfRd (DeleteSample monitor hour)) =
    record office { observations = without_row observation_rank (observation_numbers (kept_key office monitor hour)) office.observations }
changed office (OfOffice (Put r)) = with_record r office
changed office (OfOffice (Change r)) = with_record r office
changed office (OfOffice (Drop key)) = without_key key office

abbrev pub broken_by : Office → Option LineValue → Option Rule
broken_by office None = None
broken_by office (Some value) = broken office value

-- the rule under which a line is refused: the first one broken, the reading rules before those of the office
abbrev pub refusal : Office → List ℕ → Option Rule
refusal office line = option_or (reading_rule line) (broken_by office (line_value line))

abbrev pub changed_by : Office → Option LineValue → Office
changed_by office None = office
changed_by office (Some value) = changed office value

-- the office after a line, which is the same after a refused one
abbrev pub after : Office → List ℕ → Office
after office line = if is_some (refusal office line) then office else changed_by office (line_value line)

-- ---- a body

abbrev pub after_all : Office → List NumberedLine → Office
after_all office lines = fold (λ now line. after now line.text) office lines

abbrev pub listed_for : ℕ → Option Rule → List ListedLine
listed_for number None = []
listed_for number (Some rule) = record { line = number; rule = rule } ∷ []

-- the refused lines, each against the office as the lines before it left it
abbrev pub refusals : Office → List NumberedLine → List ListedLine
refusals office [] = []
refusals office (line ∷ lines) =
    listed_for line.number (refusal office line.text) ++ refusals (after office line.text) lines

-- ---- the reply

abbrev pub refused_under : Rule → List ListedLine → ℕ
refused_under rule refused = count_by (λ listed. rule_number listed.rule == rule_number rule) refused

abbrev pub rest_for : List ListedLine → Rule → Option RestRule
rest_for refused rule =
    if refused_under rule refused == 0 then None
    else Some (record { rule = rule; count = refused_under rule refused })

-- the refused lines beyond those that are listed, by rule in rising number
abbrev pub rest_of : List ListedLine → List RestRule
rest_of refused = filter_map (rest_for refused) all_rules

abbrev pub reply_for : ℕ → ℕ → ℕ → List ListedLine → LoadReply
reply_for number lines taken refused = record {
  number = number;
  lines = lines;
  accepted = taken - length refused;
  refused = length refused;
  listed = take MOST_LISTED refused;
  rest = rest_of (drop MOST_LISTED refused);
}

abbrev pub reply : Office → ℕ → List ℕ → LoadReply
reply office number body =
    reply_for number (line_count body) (length (body_lines body)) (refusals office (body_lines body))

-- ---- the load

abbrev pub with_load : StoredLoad → Office → Office
with_load load office =
    if load.number == 0 then office else record office { loads = with_row load_rank load office.loads }

-- a load as it is kept
abbrev pub stored : Office → ℕ → List ℕ → List ℕ → StoredLoad
stored office number digest body = record { number = number; digest = digest; reply = reply office number body }

-- the office after a load; one with the number 0 is not kept
abbrev pub load : Office → ℕ → List ℕ → List ℕ → Office
load office number digest body = with_load (stored office number digest body) (after_all office (body_lines body))

pub data Decision : Type 0 where
  Repeat Conflict Full New : Decision

abbrev pub decide_known : Option StoredLoad → List ℕ → Bool → Decision
decide_known (Some kept) digest is_full = if bytes_eq kept.digest digest then Repeat else Conflict
decide_known None digest is_full = if is_full then Full else New

-- whether a load acts: a known number with the same digest is a repeat, and with another a conflict
abbrev pub decide : Office → ℕ → List ℕ → Decision
decide office number digest = decide_known (load_at office number) digest (nat_le MOST_LOADS (length office.loads))

-- ---- what a posted load answers

pub data Posted : Type 0 where
  -- its body has too many lines
  TooManyLines : Posted
  -- its number is known with this body: the reply that is kept
  Repeated : (kept : LoadReply) → Posted
  -- its number is known with another body: the digest that is kept, and the one that was sent
  Differing : (kept sent : List ℕ) → Posted
  -- no further load can be kept
  NoRoom : Posted
  -- it is taken: its reply, and the office with it
  Taken : (reply : LoadReply) (office : Office) → Posted

abbrev pub posted_again : StoredLoad → List ℕ → Posted
posted_again kept digest = if bytes_eq kept.digest digest then Repeated kept.reply else Differing kept.digest digest

abbrev pub posted_anew : Office → ℕ → List ℕ → List ℕ → Posted
posted_anew office number digest body =
    if nat_le MOST_LOADS (length office.loads) then NoRoom
    else Taken (reply office number body) (load office number digest body)

abbrev pub posted_beside : Option StoredLoad → Office → ℕ → List ℕ → List ℕ → Posted
posted_beside (Some kept) office number digest body = posted_again kept digest
posted_beside None office number digest body = posted_anew office number digest body

-- the lines are counted before the number is looked up
abbrev pub posted : Office → ℕ → List ℕ → List ℕ → Posted
posted office number digest body =
    if nat_lt MOST_LINES (line_count body) then TooManyLines
    else posted_beside (load_at office number) office number digest body

-- the decision that an answer reports: none was made on a body of too many lines
abbrev pub decision_of : Posted → Option Decision
decision_of TooManyLines = None
decision_of (Repeated kept) = Some Repeat
decision_of (Differing kept sent) = Some Conflict
decision_of NoRoom = Some Full
decision_of (Taken answer office) = Some New

abbrev pub office_after : Posted → Office → Office
office_after (Taken answer now) office = now
office_after _ office = office

-- the office after a load is posted: it changes if the load is taken
abbrev pub post : Office → ℕ → List ℕ → List ℕ → Office
post office number digest body = office_after (posted office number digest body) office

-- ---- the batch

-- what may be done to an office's lists
pub data OfficeChange : Type 0 where
  PutRecord : (row : OfficeRecord) → OfficeChange
  DropRecord : (key : OfficeKey) → OfficeChange
  PutObservation : (key : ObsKey) (content : Observation) → OfficeChange
  DropObservation : (key : ObsKey) → OfficeChange
  PutLoad : (load : StoredLoad) → OfficeChange

-- the office with a change
abbrev pub with_change : Office → OfficeChange → Office
with_change office (PutRecord row) = with_record row office
with_change office (DropRecord key) = without_record key office
with_change office (PutObservation key content) =
    record office { observations = with_row observation_rank (key, content) office.observations }
with_change office (DropObservation key) =
    record office { observations = without_row observation_rank (observation_numbers key) office.observations }
with_change office (PutLoad load) = record office { loads = with_row load_rank load office.loads }

abbrev pub is_same_duration : Duration → Duration → Bool
is_same_duration Hour Hour = true
is_same_duration Day Day = true
is_same_duration _ _ = false

-- whether two records are equal
abbrev pub is_same_record : OfficeRecord → OfficeRecord → Bool
is_same_record (Monitor id duration eligible) (Monitor id2 duration2 eligible2) =
    is_same_monitor id id2 && is_same_duration duration duration2 && is_same_truth eligible eligible2
is_same_record (Primary site pollutant from poc) (Primary site2 pollutant2 from2 poc2) =
    is_same_site site site2 && is_same_pollutant pollutant pollutant2 && (from == from2) && (poc == poc2)
is_same_record (Schedule site pollutant from interval anchor) (Schedule site2 pollutant2 from2 interval2 anchor2) =
    is_same_site site site2 && is_same_pollutant pollutant pollutant2 && (from == from2) && (interval == interval2)
    && (anchor == anchor2)
is_same_record (Season site year first last) (Season site2 year2 first2 last2) =
    is_same_site site site2 && (year == year2) && (first == first2) && (last == last2)
is_same_record (Makeup site missed makeup) (Makeup site2 missed2 makeup2) =
    is_same_site site site2 && (missed == missed2) && (makeup == makeup2)
is_same_record (Event number site pollutant first last code) (Event number2 site2 pollutant2 first2 last2 code2) =
    (number == number2) && is_same_site site site2 && is_same_pollutant pollutant pollutant2 && (first == first2)
    && (last == last2) && is_same_code code code2
is_same_record (Concurrence number agreed) (Concurrence number2 agreed2) =
    (number == number2) && is_same_truth agreed agreed2
is_same_record (Approved site day) (Approved site2 day2) = is_same_site site site2 && (day == day2)
is_same_record (Combined site pollutant from joined) (Combined site2 pollutant2 from2 joined2) =
    is_same_site site site2 && is_same_pollutant pollutant pollutant2 && (from == from2) && is_same_site joined joined2
is_same_record _ _ = false

abbrev pub is_same_method : ℕ → ℕ → Bool
is_same_method a b = a == b

-- whether two observations have equal values, null codes, qualifiers and methods
abbrev pub is_same_content : Observation → Observation → Bool
is_same_content a b =
    option_eq int_eq a.value b.value && option_eq is_same_code a.null b.null && pointwise is_same_code a.quals b.quals
    && option_eq is_same_method a.method b.method

-- what becomes of a key's record: nothing, a put or a drop
abbrev pub record_change : OfficeKey → Option OfficeRecord → Option OfficeRecord → Option OfficeChange
record_change key None None = None
record_change key None (Some now) = Some (PutRecord now)
record_change key (Some before) None = Some (DropRecord key)
record_change key (Some before) (Some now) = if is_same_record before now then None else Some (PutRecord now)

abbrev pub observation_change : ObsKey → Option Observation → Option Observation → Option OfficeChange
observation_change key None None = None
observation_change key None (Some now) = Some (PutObservation key now)
observation_change key (Some before) None = Some (DropObservation key)
observation_change key (Some before) (Some now) =
    if is_same_content before now then None else Some (PutObservation key now)

-- the keys of either list, in their order and each once
abbrev pub keys_of_either : {K : Type 0} → (K → List ℕ) → List K → List K → List K
keys_of_either rank before now = fold (λ keys key. with_row rank key keys) before now

abbrev pub record_changes : Office → Office → List OfficeChange
record_changes before now =
    filter_map (λ key. record_change key (record_at before key) (record_at now key))
    (keys_of_either key_numbers (map key_of before.records) (map key_of now.records))

abbrev pub observation_changes : Office → Office → List OfficeChange
observation_changes before now =
    filter_map (λ key. observation_change key (observation_at before key) (observation_at now key))
    (keys_of_either observation_numbers (map observation_key before.observations) (map observation_key now.observations))

-- the row of the load itself, which a load with the number 0 does not have
abbrev pub load_change : StoredLoad → List OfficeChange
load_change load = if load.number == 0 then [] else PutLoad load ∷ []

-- the changes of a load, in the order of the tables and their keys, and its own row last
abbrev pub batch : Office → ℕ → List ℕ → List ℕ → List OfficeChange
batch office number digest body =
    record_changes office (after_all office (body_lines body))
    ++ observation_changes office (after_all office (body_lines body))
    ++ load_change (stored office number digest body)
