-- Where the samples of an extract are to stand: in rising order of their keys, each at a monitor that it fits, in the days of the extract, by a method.
use Rattle.std.proofs.Common.{◌≡◌, ℕ, ◌+◌, ◌*◌, ◌/◌, Bool, true, false, ◌&&◌, List, [], ◌∷◌, Some, None, Option, is_some, refl, ◌∙◌, arith, subst}
use Rattle.std.specs.Prelude.{⊤, fold, nat_le}
use Rattle.std.specs.List.{list_all}
use Rattle.std.specs.Option.{option_map_or}
use Rattle.std.proofs.lemmas.Bool.{and_from, and_parts}
use Rattle.aq_base.specs.Calendar.{day_of_hour}
use Rattle.aq_base.specs.declared.day.TheConstants.{LAST_HOUR}
use Rattle.aq_base.specs.declared.monitor.Duration.{Duration}
use Rattle.aq_base.specs.declared.monitor.Duration.TheVariants.{Hour, Day}
use Rattle.aq_base.specs.declared.observation.ObsKey.{ObsKey}
use Rattle.aq_base.specs.declared.observation.Observation.{Observation}
use Rattle.aq_base.specs.declared.rule.Rule.{Rule}
use Rattle.aq_base.specs.declared.rule.Rule.TheVariants.{BadDate, UnknownMonitor, WrongDuration, AlreadyThere}
use Rattle.aq_rules.specs.Extracts.Changes.{DaySpan, Extract, Refused, Says, Sample, breaks_beside, extract_after, extract_of, extract_rule, is_in_span, judged_line, judged_sample, rule_beside, sample_of, with_sample}
use Rattle.aq_rules.specs.Lines.Canonical.{is_rd_value}
use Rattle.aq_rules.specs.Lines.Lines.{NumberedLine, body_lines}
use Rattle.aq_rules.specs.Lines.RdForm.{Put, Delete}
use Rattle.aq_rules.specs.Lines.Reading.{LineValue, OfRd, OfOffice, line_value}
use Rattle.aq_rules.specs.Office.Office.{Office, duration_at, fits_monitors, is_content, observation_rank, rises}
use Rattle.aq_rules.specs.Office.RowOrder.{with_row-rises}
use Rattle.aq_rules.specs.Office.Refusal.{kept_at, kept_key}
use Rattle.aq_rules.proofs.RowsPlaced.{with_row-all}
use Rattle.aq_rules.proofs.ValidAfter.{none_of_four, sample_fits, untrue}
use Rattle.aq_rules.proofs.ValidLines.{line_valid}

abbrev pub is_row : DaySpan → Office → (ObsKey × Observation) → Bool
is_row span office row = fits_monitors office row && is_some row.1.method && is_in_span span row.0.hour

pub record AreRows (span : DaySpan) (office : Office) (rows : List (ObsKey × Observation)) : Type 0 where
  pub rising : rises observation_rank rows ≡ true
  pub each : list_all (is_row span office) rows ≡ true

abbrev IfSays : (List (ObsKey × Observation) → Type 0) → Extract → Type 0
IfSays P (Refused line rule) = ⊤
IfSays P (Says rows) = P rows

-- the kept hour of a sample is on its day
kept_day : (o : Option Duration) (hour : ℕ) → day_of_hour (kept_at o hour) ≡ day_of_hour hour
kept_day None hour = refl
kept_day (Some Hour) hour = refl
kept_day (Some Day) hour = same hour
  where
    same : (hour : ℕ) → (24 * (hour / 24) + 0) / 24 ≡ hour / 24
    same hour = omega arith

module _ (span : DaySpan) (office : Office) where
  sample-row : (rows : List (ObsKey × Observation)) (s : Sample) → is_rd_value (Put false s.monitor s.duration s.hour s.content) ≡ true → rule_beside span office rows s ≡ None
      → is_row span office (kept_key office s.monitor s.hour, s.content) ≡ true
  sample-row rows s spelled none =
      let tests = none_of_four (breaks_beside span office rows s) BadDate UnknownMonitor WrongDuration AlreadyThere none in
      let a = and_parts _ (is_content s.monitor.pollutant s.content) spelled in
      let b = and_parts _ (nat_le s.hour LAST_HOUR) a.0 in
      let c = and_parts _ (is_some s.content.method) b.0 in
      let known = untrue (is_some (duration_at office s.monitor)) tests.1 in
      let day = kept_day (duration_at office s.monitor) s.hour in
      and_from _ (is_in_span span (kept_at (duration_at office s.monitor) s.hour))
      (and_from (fits_monitors office (kept_key office s.monitor s.hour, s.content)) (is_some s.content.method)
      (sample_fits office s.monitor s.hour s.content known b.1 a.1) c.1)
      ((λ i. nat_le span.first (day i) && nat_le (day i) span.last) ∙ untrue (is_in_span span s.hour) tests.0)

  with-sample : (rows : List (ObsKey × Observation)) (s : Sample) → AreRows span office rows → is_rd_value (Put false s.monitor s.duration s.hour s.content) ≡ true
      → rule_beside span office rows s ≡ None → AreRows span office (with_sample office rows s)
  with-sample rows s are spelled none = record {
    rising = with_row-rises observation_rank (kept_key office s.monitor s.hour, s.content) rows are.rising;
    each = with_row-all observation_rank (is_row span office) (kept_key office s.monitor s.hour, s.content) rows (sample-row rows s spelled none) are.each;
  }

  unless : (number : ℕ) (o : Option Rule) (next : Extract) → (o ≡ None → IfSays (AreRows span office) next) → IfSays (AreRows span office) (option_map_or (Refused number) o next)
  unless number None next go = go refl
  unless number (Some rule) next go = tt

  value-keeps : (rows : List (ObsKey × Observation)) (number : ℕ) (text : List ℕ) (value : Option LineValue) → line_value text ≡ value → AreRows span office rows
      → IfSays (AreRows span office) (judged_sample span office rows number (sample_of value))
  value-keeps rows number text None is are = are
  value-keeps rows number text (Some (OfOffice line)) is are = are
  value-keeps rows number text (Some (OfRd (Delete monitor hour))) is are = are
  value-keeps rows number text (Some (OfRd (Put update monitor duration hour content))) is are =
      let s : Sample = record { monitor = monitor; duration = duration; hour = hour; content = content } in
      let spelled = line_valid text (OfRd (Put update monitor duration hour content)) is in
      unless number (rule_beside span office rows s) (Says (with_sample office rows s)) (λ none. with-sample rows s are spelled none)

  line-keeps : (rows : List (ObsKey × Observation)) (line : NumberedLine) → AreRows span office rows → IfSays (AreRows span office) (judged_line span office rows line)
  line-keeps rows line are =
      unless line.number (extract_rule line.text) (judged_sample span office rows line.number (sample_of (line_value line.text)))
      (λ none. value-keeps rows line.number line.text (line_value line.text) refl are)

  lines-keep : (lines : List NumberedLine) (now : Extract) → IfSays (AreRows span office) now → IfSays (AreRows span office) (fold (extract_after span office) now lines)
  lines-keep [] now h = h
  lines-keep (line ∷ lines) (Refused number rule) h = lines-keep lines (Refused number rule) tt
  lines-keep (line ∷ lines) (Says rows) h = lines-keep lines (judged_line span office rows line) (line-keeps rows line h)

  pub extract-rows : (body : List ℕ) (rows : List (ObsKey × Observation)) → extract_of span office body ≡ Says rows → AreRows span office rows
  unfolding extract_of
  extract-rows body rows is =
      subst (IfSays (AreRows span office)) is (lines-keep (body_lines body) (Says []) (record { rising = refl; each = refl }))

-- an extract is judged by the records alone
pub extract-same : (span : DaySpan) (office : Office) (body : List ℕ) (observations : List (ObsKey × Observation))
    → extract_of span (record office { observations = observations }) body ≡ extract_of span office body
unfolding extract_of
extract-same span office body observations = refl
