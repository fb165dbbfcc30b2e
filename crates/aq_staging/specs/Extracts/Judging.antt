-- How the lines of an extract are judged, as the code does it.
use Rattle.std.specs.Prelude.{◌≡◌, ℕ, if◌then◌else◌, Option, Some, None, Result, Ok, Err, is_some, List}
use Rattle.aq_base.specs.declared.monitor.Duration.{Duration}
use Rattle.aq_base.specs.declared.observation.ObsKey.{ObsKey}
use Rattle.aq_base.specs.declared.observation.Observation.{Observation}
use Rattle.aq_base.specs.declared.rule.Rule.{Rule}
use Rattle.aq_base.specs.declared.rule.Rule.TheVariants.{AlreadyThere, BadDate, UnknownMonitor, WrongDuration}
use Rattle.aq_staging.specs.declared.extracts.days.Days.{Days}
use Rattle.aq_staging.specs.declared.extracts.extract.ExtractFault.{ExtractFault}
use Rattle.aq_staging.specs.declared.extracts.extract.ExtractFault.TheVariants.{Refused, Memory}
use Rattle.aq_rules.specs.Extracts.Changes as changes
use Rattle.aq_rules.specs.Extracts.Changes.{is_in_span, says}
use Rattle.aq_rules.specs.Lines.Lines.{NumberedLine}
use Rattle.aq_rules.specs.Office.Load.{is_same_duration}
use Rattle.aq_rules.specs.Office.Office.{Office, duration_at, observation_rank, with_row}
use Rattle.aq_rules.specs.Office.Refusal.{kept_at}

-- the days of the definition
abbrev pub span_of : Days → changes.DaySpan
span_of days = record { first = days.first; last = days.last }

abbrev pub line_at : ℕ → List ℕ → NumberedLine
line_at number text = record { number = number; text = text }

-- the line and the rule are those that the extract is refused at; want of memory has no cause that is told
abbrev pub IsFault : changes.Extract → ExtractFault → Type 0
IsFault extract (Refused line rule) = extract ≡ changes.Refused line rule
IsFault extract Memory = Unit {0}

-- where a sample is to stand, or the first rule that it breaks, whatever the lines before it say

abbrev pub placed : changes.Sample → Option Duration → Result ObsKey Rule
placed s None = Err UnknownMonitor
placed s (Some duration) =
    if is_same_duration s.duration duration then Ok (record { monitor = s.monitor; hour = kept_at (Some duration) s.hour })
    else Err WrongDuration

abbrev pub place_of : changes.DaySpan → Office → changes.Sample → Result ObsKey Rule
place_of span office s = if is_in_span span s.hour then placed s (duration_at office s.monitor) else Err BadDate

-- the rows with one more, or a refusal where one is to stand already
abbrev pub put_at : ℕ → List (ObsKey × Observation) → (ObsKey × Observation) → changes.Extract
put_at number rows row =
    if is_some (says rows row.0) then changes.Refused number AlreadyThere else changes.Says (with_row observation_rank row rows)
