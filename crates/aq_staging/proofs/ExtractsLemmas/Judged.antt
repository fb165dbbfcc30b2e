-- A line of an extract, and the lines after it.
use Rattle.std.proofs.Common.{◌≡◌, ℕ, Bool, true, false, cond, not, List, [], ◌∷◌, Some, None, Option, Ok, Err, Result, refl, sym, ap, subst, ◌∙◌}
use Rattle.std.specs.Prelude.{IfOk, IsSome, fold, is_none, is_some, option_map}
use Rattle.std.specs.Option.{option_map_or}
use Rattle.aq_base.specs.declared.monitor.Duration.{Duration}
use Rattle.aq_base.specs.declared.monitor.Duration.TheVariants.{Hour, Day}
use Rattle.aq_base.specs.declared.monitor.MonitorId.{MonitorId}
use Rattle.aq_base.specs.declared.rule.Rule.{Rule}
use Rattle.aq_base.specs.declared.rule.Rule.TheVariants.{AlreadyThere, BadDate, UnknownMonitor, WrongDuration}
use Rattle.aq_base.specs.declared.observation.ObsKey.{ObsKey}
use Rattle.aq_base.specs.declared.observation.Observation.{Observation}
use Rattle.aq_staging.specs.Extracts.Judging.{IsFault, place_of, placed, put_at}
use Rattle.aq_staging.specs.declared.extracts.extract.ExtractFault.{ExtractFault}
use Rattle.aq_staging.specs.declared.extracts.extract.ExtractFault.TheVariants as faults
use Rattle.aq_rules.specs.Extracts.Changes.{DaySpan, Extract, Refused, Says, Sample, extract_after, extract_rule, is_in_span, judged_line, judged_sample, sample_of, says}
use Rattle.aq_rules.specs.Lines.Lines.{NumberedLine}
use Rattle.aq_rules.specs.Lines.Reading.{line_value}
use Rattle.aq_rules.specs.Office.Office.{Office, duration_at, observation_rank, with_row}
use Rattle.aq_rules.specs.Office.Refusal.{is_other_duration, kept_at}

-- ---- a line

module _ (span : DaySpan) (office : Office) (rows : List (ObsKey × Observation)) (line : NumberedLine) where
  pub judged-sample : (s : Sample) → sample_of (line_value line.text) ≡ Some s → extract_rule line.text ≡ None → judged_line span office rows line ≡ judged_sample span office rows line.number (Some s)
  judged-sample s is none = λ i. option_map_or (Refused line.number) (none i) (judged_sample span office rows line.number (is i))

  pub judged-refused : (rule : Rule) → extract_rule line.text ≡ Some rule → judged_line span office rows line ≡ Refused line.number rule
  judged-refused rule is = ap (λ o. option_map_or (Refused line.number) o (judged_sample span office rows line.number (sample_of (line_value line.text)))) is

-- ---- a sample

abbrev chosen : ℕ → Bool → Bool → Bool → Bool → Extract → Extract
chosen number a b c d next =
    option_map_or (Refused number) (cond a (Some BadDate) (cond b (Some UnknownMonitor) (cond c (Some WrongDuration) (cond d (Some AlreadyThere) None)))) next

abbrev BySays : ℕ → List (ObsKey × Observation) → Observation → Extract → Result ObsKey Rule → Type 0
BySays number rows content judged (Ok key) = judged ≡ put_at number rows (key, content)
BySays number rows content judged (Err rule) = judged ≡ Refused number rule

put-chosen : (number : ℕ) (there : Bool) (next : Extract) → chosen number false false false there next ≡ cond there (Refused number AlreadyThere) next
put-chosen number true next = refl
put-chosen number false next = refl

module _ (number : ℕ) (rows : List (ObsKey × Observation)) (monitor : MonitorId) (hour : ℕ) (content : Observation) where
  abbrev at : Option Duration → ObsKey
  at o = record { monitor = monitor; hour = kept_at o hour }

  abbrev sample : Duration → Sample
  sample duration = record { monitor = monitor; duration = duration; hour = hour; content = content }

  by-place : (in_span : Bool) (o : Option Duration) (duration : Duration)
      → BySays number rows content
      (chosen number (not in_span) (is_none o) (is_other_duration o duration) (is_some (says rows (at o))) (Says (with_row observation_rank (at o, content) rows)))
      (cond in_span (placed (sample duration) o) (Err BadDate))
  by-place false o duration = refl
  by-place true None duration = refl
  by-place true (Some Hour) Hour = put-chosen number (is_some (says rows (at (Some Hour)))) _
  by-place true (Some Hour) Day = refl
  by-place true (Some Day) Hour = refl
  by-place true (Some Day) Day = put-chosen number (is_some (says rows (at (Some Day)))) _

module _ (span : DaySpan) (office : Office) (rows : List (ObsKey × Observation)) (number : ℕ) (s : Sample) where
  by-says : BySays number rows s.content (judged_sample span office rows number (Some s)) (place_of span office s)
  by-says = by-place number rows s.monitor s.hour s.content (is_in_span span s.hour) (duration_at office s.monitor) s.duration

  pub judged-placed : (key : ObsKey) → place_of span office s ≡ Ok key → judged_sample span office rows number (Some s) ≡ put_at number rows (key, s.content)
  judged-placed key is = subst (BySays number rows s.content (judged_sample span office rows number (Some s))) is by-says

  pub judged-unplaced : (rule : Rule) → place_of span office s ≡ Err rule → judged_sample span office rows number (Some s) ≡ Refused number rule
  judged-unplaced rule is = subst (BySays number rows s.content (judged_sample span office rows number (Some s))) is by-says

pub none-mapped : {A B : Type 0} (f : A → B) (o : Option A) → option_map f o ≡ None → is_some o ≡ false
none-mapped f None h = refl
none-mapped f (Some x) h = ap is_some h

pub some-mapped : {A B : Type 0} (f : A → B) (o : Option A) → IsSome (option_map f o) → is_some o ≡ true
some-mapped f None h = cc
some-mapped f (Some x) h = refl

-- ---- the lines after it

-- after a refusal nothing is read
refused-stays : (span : DaySpan) (office : Office) (number : ℕ) (rule : Rule) (lines : List NumberedLine) → fold (extract_after span office) (Refused number rule) lines ≡ Refused number rule
refused-stays span office number rule [] = refl
refused-stays span office number rule (next ∷ lines) = refused-stays span office number rule lines

module _ (span : DaySpan) (office : Office) (rows : List (ObsKey × Observation)) (line : NumberedLine) (rest items : List NumberedLine) (all : Extract) where
  abbrev before : Type 0
  before = fold (extract_after span office) (Says rows) items ≡ all

  read-on : items ≡ line ∷ rest → before → fold (extract_after span office) (judged_line span office rows line) rest ≡ all
  read-on next so_far = ap (fold (extract_after span office) (Says rows)) (sym next) ∙ so_far

  pub next-taken : (now : List (ObsKey × Observation)) → items ≡ line ∷ rest → judged_line span office rows line ≡ Says now → before → fold (extract_after span office) (Says now) rest ≡ all
  next-taken now next is so_far = ap (λ e. fold (extract_after span office) e rest) (sym is) ∙ read-on next so_far

  pub next-refused : (fault : ExtractFault) → items ≡ line ∷ rest → IsFault (judged_line span office rows line) fault → before → IsFault all fault
  next-refused (faults.Refused number rule) next is so_far =
      sym (read-on next so_far) ∙ ap (λ e. fold (extract_after span office) e rest) is ∙ refused-stays span office number rule rest
  next-refused faults.Memory next is so_far = tt

pub all-taken : (span : DaySpan) (office : Office) (rows : List (ObsKey × Observation)) (items : List NumberedLine) (all : Extract) → items ≡ [] → fold (extract_after span office) (Says rows) items ≡ all → all ≡ Says rows
all-taken span office rows items all end so_far = sym so_far ∙ ap (fold (extract_after span office) (Says rows)) end

pub if_ok : {T E : Type 0} {P Q : T → Type 0} (r : Result T E) → ((x : T) → P x → Q x) → IfOk r P → IfOk r Q
if_ok (Ok x) f h = f x h
if_ok (Err e) f h = tt
