-- The value of an RD line: a sample to be inserted, updated or deleted (AQS raw data transaction format (RD)).
use Rattle.std.specs.Prelude.{ℕ, Bool, if◌then◌else◌, Option, Some, None, List, take}
use Rattle.aq_base.specs.Calendar.{hour_number}
use Rattle.aq_base.specs.declared.monitor.Pollutant.{Pollutant}
use Rattle.aq_base.specs.declared.monitor.Duration.{Duration}
use Rattle.aq_base.specs.declared.monitor.MonitorId.{MonitorId}
use Rattle.aq_base.specs.declared.observation.Observation.{Observation}
use Rattle.aq_base.specs.declared.quals.TheConstants.{MOST_QUALIFIERS}
use Rattle.aq_rules.specs.Lines.Fields.{is_empty}
use Rattle.aq_rules.specs.Lines.Forms.{Parameter, Poc, SampleDuration, Unit, Method, Date, StartTime, SampleValue, NullCode, Qualifiers, text_of, texts_from, site_of}
use Rattle.aq_rules.specs.Lines.Spellings.{◌>>=◌, Tag, Rd, parameter_in, poc_in, duration_in, unit_in, method_in, date_in, time_in, value_in, null_in, qualifiers_in}

-- the hour is the one that the line names, and the content has the line's method
pub data RdValue : Type 0 where
  Put : (update : Bool) (monitor : MonitorId) (duration : Duration) (hour : ℕ) (content : Observation) → RdValue
  Delete : (monitor : MonitorId) (hour : ℕ) → RdValue

-- as many fields as there may be qualifier codes
abbrev pub qualifier_fields : List (List ℕ) → List (List ℕ)
qualifier_fields texts = take MOST_QUALIFIERS (texts_from Rd Qualifiers texts)

-- the monitor that a line of RD or XM names
unfoldable pub monitor_in : Tag → List (List ℕ) → Option MonitorId
monitor_in tag texts = do
  site ← site_of tag texts
  pollutant ← parameter_in (text_of tag Parameter texts)
  poc ← poc_in (text_of tag Poc texts)
  Some (record { site = site; pollutant = pollutant; poc = poc })

unfoldable pub start_in : List (List ℕ) → Option ℕ
start_in texts = do
  day ← date_in (text_of Rd Date texts)
  hour ← time_in (text_of Rd StartTime texts)
  Some (hour_number day hour)

-- exactly one of a value and a null code, and the qualifier codes, by this method
unfoldable pub content_in : Pollutant → ℕ → ℕ → List (List ℕ) → Option Observation
content_in pollutant places method texts =
    if is_empty (text_of Rd SampleValue texts) then (do
      code ← null_in (text_of Rd NullCode texts)
      codes ← qualifiers_in (qualifier_fields texts)
      Some (record { value = None; null = Some code; quals = codes; method = Some method }))
    else (if is_empty (text_of Rd NullCode texts) then (do
      value ← value_in pollutant places (text_of Rd SampleValue texts)
      codes ← qualifiers_in (qualifier_fields texts)
      Some (record { value = Some value; null = None; quals = codes; method = Some method }))
    else None)

unfoldable pub put_in : Bool → List (List ℕ) → Option RdValue
put_in update texts = do
  monitor ← monitor_in Rd texts
  duration ← duration_in monitor.pollutant (text_of Rd SampleDuration texts)
  places ← unit_in monitor.pollutant (text_of Rd Unit texts)
  method ← method_in (text_of Rd Method texts)
  hour ← start_in texts
  content ← content_in monitor.pollutant places method texts
  Some (Put update monitor duration hour content)

-- of a deletion, only the monitor and the start are read
unfoldable pub delete_in : List (List ℕ) → Option RdValue
delete_in texts = do
  monitor ← monitor_in Rd texts
  hour ← start_in texts
  Some (Delete monitor hour)
