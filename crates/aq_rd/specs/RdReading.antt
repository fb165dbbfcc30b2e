-- An RD line as it is read: each field is tested in the order of the rules, and the first one that breaks its rule refuses the line.
use Rattle.std.specs.Prelude.{◌≡◌, ℕ, Bool, true, false, if◌then◌else◌, Some, None, Result, Ok, Err, ℤ, List, codes, bytes_eq, IfOk, IfErr, IsTrue, OnOk, OnErr}
use Rattle.std.specs.Option.{ok_or}
use Rattle.aq_base.specs.Calendar.{hour_number}
use Rattle.aq_base.specs.Decimal.{is_decimal}
use Rattle.aq_base.specs.declared.monitor.Pollutant.{Pollutant}
use Rattle.aq_base.specs.declared.monitor.MonitorId.{MonitorId}
use Rattle.aq_base.specs.declared.observation.Observation.{Observation}
use Rattle.aq_base.specs.declared.rule.Rule.{Rule}
use Rattle.aq_base.specs.declared.rule.Rule.TheVariants.{BadBytes, BadTag, FieldCount, BadAction, BadSite, ParameterOutOfProfile, BadPoc, BadDuration, BadUnit, BadMethod, BadDate, BadTime, ValueAndNull, NeitherValueNorNull, BadValue, ValueOutOfRange, BadNull, BadQualifier}
use Rattle.aq_rules.specs.Lines.Canonical.{is_line_value}
use Rattle.aq_rules.specs.Lines.Fields.{fields, field}
use Rattle.aq_rules.specs.Lines.Spellings.{Rd, site_in, parameter_in, poc_in, duration_in, unit_in, method_in, date_in, time_in, value_in, null_in, qualifiers_in}
use Rattle.aq_rules.specs.Lines.RdForm.{RdValue, Put as PutSample, Delete as DeleteSample, qualifier_fields}
use Rattle.aq_rules.specs.Lines.Reading.{LineValue, OfRd, line_value, reading_rule, is_plain, is_deletion, has_wrong_count, has_value, has_null}
use Rattle.aq_rd.specs.declared.line.RdLine.{RdLine}
use Rattle.aq_rd.specs.declared.line.RdLine.TheVariants.{Put, Delete}

-- the value of the definition
abbrev pub value_of : RdLine → RdValue
value_of (Put update monitor duration hour content) = PutSample update monitor duration hour content
value_of (Delete monitor hour) = DeleteSample monitor hour

abbrev pub line_of : RdLine → LineValue
line_of x = OfRd (value_of x)

-- what is read is the value that the line spells, and else the rule is named that it breaks first
pub record ReadsLine {A : Type 0} (as_value : A → LineValue) (line : List ℕ) (reading : Result A Rule) : Type 0 where
  pub ok : IfOk reading (λ x. line_value line ≡ Some (as_value x))
  pub unbroken : OnOk reading (reading_rule line ≡ None)
  pub rule : IfErr reading (λ broken. reading_rule line ≡ Some broken)
  pub refused : OnErr reading (line_value line ≡ None)
  pub spelled : IfOk reading (λ x. IsTrue (is_line_value (as_value x)))

infixl 10 ◌>>=◌
abbrev pub ◌>>=◌ : {A B : Type 0} → Result A Rule → (A → Result B Rule) → Result B Rule
(Ok x) >>= next = next x
(Err rule) >>= next = Err rule

unfoldable pub monitor_reading : List (List ℕ) → Result MonitorId Rule
monitor_reading texts = do
  site ← ok_or (site_in (field 3 texts) (field 4 texts) (field 5 texts)) BadSite
  pollutant ← ok_or (parameter_in (field 6 texts)) ParameterOutOfProfile
  poc ← ok_or (poc_in (field 7 texts)) BadPoc
  Ok (record { site = site; pollutant = pollutant; poc = poc })

unfoldable pub start_reading : List (List ℕ) → Result ℕ Rule
start_reading texts = do
  day ← ok_or (date_in (field 11 texts)) BadDate
  hour ← ok_or (time_in (field 12 texts)) BadTime
  Ok (hour_number day hour)

unfoldable pub value_reading : Pollutant → ℕ → List ℕ → Result ℤ Rule
value_reading pollutant places text =
    if is_decimal text then ok_or (value_in pollutant places text) ValueOutOfRange else Err BadValue

unfoldable pub valued_reading : Pollutant → ℕ → ℕ → List (List ℕ) → Result Observation Rule
valued_reading pollutant places method texts = do
  value ← value_reading pollutant places (field 13 texts)
  codes ← ok_or (qualifiers_in (qualifier_fields texts)) BadQualifier
  Ok (record { value = Some value; null = None; quals = codes; method = Some method })

unfoldable pub null_reading : ℕ → List (List ℕ) → Result Observation Rule
null_reading method texts = do
  code ← ok_or (null_in (field 14 texts)) BadNull
  codes ← ok_or (qualifiers_in (qualifier_fields texts)) BadQualifier
  Ok (record { value = None; null = Some code; quals = codes; method = Some method })

unfoldable pub content_reading : Pollutant → ℕ → ℕ → List (List ℕ) → Result Observation Rule
content_reading pollutant places method texts =
    if has_value texts
    then (if has_null texts then Err ValueAndNull else valued_reading pollutant places method texts)
    else (if has_null texts then null_reading method texts else Err NeitherValueNorNull)

unfoldable pub put_reading : Bool → List (List ℕ) → Result RdLine Rule
put_reading update texts = do
  monitor ← monitor_reading texts
  duration ← ok_or (duration_in monitor.pollutant (field 8 texts)) BadDuration
  places ← ok_or (unit_in monitor.pollutant (field 9 texts)) BadUnit
  method ← ok_or (method_in (field 10 texts)) BadMethod
  hour ← start_reading texts
  content ← content_reading monitor.pollutant places method texts
  Ok (Put update monitor duration hour content)

unfoldable pub delete_reading : List (List ℕ) → Result RdLine Rule
delete_reading texts = do
  monitor ← monitor_reading texts
  hour ← start_reading texts
  Ok (Delete monitor hour)

unfoldable pub form_reading : List (List ℕ) → Result RdLine Rule
form_reading texts =
    if has_wrong_count Rd (is_deletion texts) texts then Err FieldCount
    else (if bytes_eq (field 2 texts) (codes "I") then put_reading false texts
    else (if bytes_eq (field 2 texts) (codes "U") then put_reading true texts
    else (if bytes_eq (field 2 texts) (codes "D") then delete_reading texts else Err BadAction)))

unfoldable pub rd_reading : List ℕ → Result RdLine Rule
rd_reading line =
    if is_plain line
    then (if bytes_eq (field 1 (fields line)) (codes "RD") then form_reading (fields line) else Err BadTag)
    else Err BadBytes
