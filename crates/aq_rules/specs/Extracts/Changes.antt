-- What makes the standing observations of some monitors and days those of an extract of the AQS raw data transaction format (own).
use Rattle.std.specs.Prelude.{ℕ, Bool, true, false, not, ◌&&◌, nat_le, List, [], ◌∷◌, ◌++◌, map, filter, flat_map, find, bytes_eq, codes, Option, Some, None, is_some, is_none, fold, unwrap_or}
use Rattle.std.specs.List.{list_any}
use Rattle.std.specs.Option.{option_map_or}
use Rattle.aq_base.specs.Calendar.{day_of_hour}
use Rattle.aq_base.specs.declared.monitor.Duration.{Duration}
use Rattle.aq_base.specs.declared.monitor.Duration.TheVariants.{Hour}
use Rattle.aq_base.specs.declared.monitor.MonitorId.{MonitorId}
use Rattle.aq_base.specs.declared.observation.ObsKey.{ObsKey}
use Rattle.aq_base.specs.declared.observation.Observation.{Observation}
use Rattle.aq_base.specs.declared.rule.Rule.{Rule}
use Rattle.aq_base.specs.declared.rule.Rule.TheVariants.{BadBytes, BadTag, FieldCount, BadAction, BadDate, UnknownMonitor, WrongDuration, AlreadyThere}
use Rattle.aq_rules.specs.Lines.Canonical.{canonical_rd}
use Rattle.aq_rules.specs.Lines.Fields.{fields, field}
use Rattle.aq_rules.specs.Lines.Forms.{ACTION_PLACE}
use Rattle.aq_rules.specs.Lines.Lines.{NumberedLine, body_lines}
use Rattle.aq_rules.specs.Lines.RdForm.{RdValue, Put, Delete}
use Rattle.aq_rules.specs.Lines.Reading.{LineValue, OfRd, tag_of, breaks, rules_of, line_value}
use Rattle.aq_rules.specs.Lines.Spellings.{Tag, Rd}
use Rattle.aq_rules.specs.Office.Load.{is_same_content}
use Rattle.aq_rules.specs.Office.Office.{Office, observation_numbers, observation_rank, row_at, with_row, observation_at, duration_at}
use Rattle.aq_rules.specs.Office.Refusal.{kept_key, is_other_duration}
use Rattle.aq_rules.specs.Listed.Places.{is_of_monitor}

-- ---- the lines of an extract

abbrev pub is_rd : Option Tag → Bool
is_rd (Some Rd) = true
is_rd _ = false

-- an extract has insertions of the form RD alone
abbrev pub breaks_extract : List ℕ → Rule → Bool
breaks_extract line BadTag = not (is_rd (tag_of line))
breaks_extract line BadAction = not (bytes_eq (field ACTION_PLACE (fields line)) (codes "I"))
breaks_extract line rule = breaks rule line

-- the least reading rule that a line of an extract breaks
abbrev pub extract_rule : List ℕ → Option Rule
extract_rule line = find (breaks_extract line) (BadBytes ∷ BadTag ∷ FieldCount ∷ BadAction ∷ rules_of Rd false)

-- the first and the last day of an extract
pub record DaySpan : Type 0 where
  pub first : ℕ
  pub last : ℕ

abbrev pub is_in_span : DaySpan → ℕ → Bool
is_in_span span hour = nat_le span.first (day_of_hour hour) && nat_le (day_of_hour hour) span.last

-- a sample of an extract, as its line has it
pub record Sample : Type 0 where
  pub monitor : MonitorId
  pub duration : Duration
  pub hour : ℕ
  pub content : Observation

-- what the extract's lines so far say, by where each sample is to stand
abbrev pub says : List (ObsKey × Observation) → ObsKey → Option (ObsKey × Observation)
says rows key = row_at observation_rank (observation_numbers key) rows

-- whether a sample breaks the rule, beside the lines before it
abbrev pub breaks_beside : DaySpan → Office → List (ObsKey × Observation) → Sample → Rule → Bool
breaks_beside span office rows s BadDate = not (is_in_span span s.hour)
breaks_beside span office rows s UnknownMonitor = is_none (duration_at office s.monitor)
breaks_beside span office rows s WrongDuration = is_other_duration (duration_at office s.monitor) s.duration
breaks_beside span office rows s AlreadyThere = is_some (says rows (kept_key office s.monitor s.hour))
breaks_beside span office rows s rule = false

abbrev pub rule_beside : DaySpan → Office → List (ObsKey × Observation) → Sample → Option Rule
rule_beside span office rows s =
    find (breaks_beside span office rows s) (BadDate ∷ UnknownMonitor ∷ WrongDuration ∷ AlreadyThere ∷ [])

-- ---- the extract

-- the first line that breaks a rule, and the first rule that it breaks; or where each sample is to stand, in the order of keys
pub data Extract : Type 0 where
  Refused : (line : ℕ) (rule : Rule) → Extract
  Says : (rows : List (ObsKey × Observation)) → Extract

abbrev pub sample_of : Option LineValue → Option Sample
sample_of (Some (OfRd (Put update monitor duration hour content))) =
    Some (record { monitor = monitor; duration = duration; hour = hour; content = content })
sample_of _ = None

abbrev pub with_sample : Office → List (ObsKey × Observation) → Sample → List (ObsKey × Observation)
with_sample office rows s = with_row observation_rank (kept_key office s.monitor s.hour, s.content) rows

-- what a line makes of the rows so far: a refusal, or the rows with its sample
abbrev pub judged_sample : DaySpan → Office → List (ObsKey × Observation) → ℕ → Option Sample → Extract
judged_sample span office rows number None = Says rows
judged_sample span office rows number (Some s) =
    option_map_or (Refused number) (rule_beside span office rows s) (Says (with_sample office rows s))

abbrev pub judged_line : DaySpan → Office → List (ObsKey × Observation) → NumberedLine → Extract
judged_line span office rows line =
    option_map_or (Refused line.number) (extract_rule line.text) (judged_sample span office rows line.number (sample_of (line_value line.text)))

abbrev pub extract_after : DaySpan → Office → Extract → NumberedLine → Extract
extract_after span office (Refused line rule) next = Refused line rule
extract_after span office (Says rows) next = judged_line span office rows next

unfoldable pub extract_of : DaySpan → Office → List ℕ → Extract
extract_of span office body = fold (extract_after span office) (Says []) (body_lines body)

-- ---- the changes

-- whether the extract names the monitor
abbrev pub names : List (ObsKey × Observation) → MonitorId → Bool
names rows monitor = list_any (is_of_monitor monitor) rows

-- a standing observation of one of its monitors, in its days, of which it says nothing
abbrev pub is_dropped : DaySpan → List (ObsKey × Observation) → (ObsKey × Observation) → Bool
is_dropped span rows row = names rows row.0.monitor && is_in_span span row.0.hour && is_none (says rows row.0)

-- it stands, with another value, null code, method or other qualifiers
abbrev pub is_changed : Office → (ObsKey × Observation) → Bool
is_changed office row = option_map_or (λ content. not (is_same_content content row.1)) (observation_at office row.0) false

abbrev pub is_new : Office → (ObsKey × Observation) → Bool
is_new office row = is_none (observation_at office row.0)

abbrev pub deletion_of : (ObsKey × Observation) → RdValue
deletion_of row = Delete row.0.monitor row.0.hour

abbrev pub put_of : Bool → Office → (ObsKey × Observation) → RdValue
put_of update office row = Put update row.0.monitor (unwrap_or (duration_at office row.0.monitor) Hour) row.0.hour row.1

-- the deletions, then the updates, then the insertions, each in the order of keys
unfoldable pub change_values : DaySpan → Office → List (ObsKey × Observation) → List RdValue
change_values span office rows =
    map deletion_of (filter (is_dropped span rows) office.observations)
    ++ map (put_of true office) (filter (is_changed office) rows)
    ++ map (put_of false office) (filter (is_new office) rows)

abbrev pub change_text : RdValue → List ℕ
change_text value = canonical_rd value ++ codes "\n"

-- ---- what is answered

pub data ChangesAnswer : Type 0 where
  RefusedAt : (line : ℕ) (rule : Rule) → ChangesAnswer
  OfLines : (text : List ℕ) → ChangesAnswer

abbrev pub answer_for : DaySpan → Office → Extract → ChangesAnswer
answer_for span office (Refused line rule) = RefusedAt line rule
answer_for span office (Says rows) = OfLines (flat_map change_text (change_values span office rows))

unfoldable pub changes_answer : DaySpan → Office → List ℕ → ChangesAnswer
changes_answer span office body = answer_for span office (extract_of span office body)
