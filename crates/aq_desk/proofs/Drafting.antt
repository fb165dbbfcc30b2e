-- What an input would make of an office.
use Rattle.std.proofs.Common.{◌≡◌, ℕ, List, [], ◌∷◌, Option, Some, None, refl, sym, ap, subst, ◌∙◌}
use Rattle.std.specs.Prelude.{Result, IfOk, fold}
use Rattle.std.specs.Option.{option_map_or}
use Rattle.aq_base.specs.declared.observation.ObsKey.{ObsKey}
use Rattle.aq_base.specs.declared.observation.Observation.{Observation}
use Rattle.aq_base.specs.declared.office.OfficeRecord.{OfficeRecord}
use Rattle.aq_book.proofs.Loadless.{with_loads}
use Rattle.aq_staging.specs.Extracts.Answers.{answer_in}
use Rattle.aq_staging.specs.declared.extracts.answer.ChangesAnswer as answers
use Rattle.aq_rules.specs.Extracts.Changes.{ChangesAnswer, DaySpan, Extract, Refused, Sample, Says, answer_for, changes_answer, change_values, extract_after, extract_of, extract_rule, judged_sample, sample_of}
use Rattle.aq_rules.specs.Lines.Lines.{NumberedLine, body_lines}
use Rattle.aq_rules.specs.Lines.Reading.{line_value}
use Rattle.aq_rules.specs.Office.Office.{Office, StoredLoad}
use Rattle.aq_words.specs.declared.words.Draft.TheVariants.{Changes}
use Rattle.aq_desk.specs.Draft.{changes_printout, draft_printout}

-- ---- the lines for an extract do not hang on the loads

module _ (loads : List StoredLoad) (office : Office) (span : DaySpan) where
  sample-loads : (rows : List (ObsKey × Observation)) (number : ℕ) (sample : Option Sample) → judged_sample span (with_loads loads office) rows number sample ≡ judged_sample span office rows number sample
  sample-loads rows number None = refl
  sample-loads rows number (Some sample) = refl

  after-loads : (so_far : Extract) (line : NumberedLine) → extract_after span (with_loads loads office) so_far line ≡ extract_after span office so_far line
  after-loads (Refused number rule) line = refl
  after-loads (Says rows) line = ap (option_map_or (Refused line.number) (extract_rule line.text)) (sample-loads rows line.number (sample_of (line_value line.text)))

  lines-loads : (lines : List NumberedLine) (so_far : Extract) → fold (extract_after span (with_loads loads office)) so_far lines ≡ fold (extract_after span office) so_far lines
  lines-loads [] so_far = refl
  lines-loads (line ∷ lines) so_far =
      ap (λ (e : Extract). fold (extract_after span (with_loads loads office)) e lines) (after-loads so_far line) ∙ lines-loads lines (extract_after span office so_far line)

  answer-loads : (extract : Extract) → answer_for span (with_loads loads office) extract ≡ answer_for span office extract
  unfolding change_values
  answer-loads (Refused line rule) = refl
  answer-loads (Says rows) = refl

  changes-loads : (body : List ℕ) → changes_answer span (with_loads loads office) body ≡ changes_answer span office body
  unfolding changes_answer extract_of
  changes-loads body = ap (answer_for span (with_loads loads office)) (lines-loads (body_lines body) (Says [])) ∙ answer-loads (extract_of span office body)

-- so the answer over what a book lends is that over its office
pub over_book : {E : Type 0} (span : DaySpan) (office : Office) (body : List ℕ) (shelf : List (ObsKey × Observation)) (registry : List OfficeRecord) (answer : Result answers.ChangesAnswer E) → shelf ≡ office.observations → registry ≡ office.records
    → IfOk answer (λ found. answer_in found ≡ changes_answer span (record { records = registry; observations = shelf; loads = [] }) body) → IfOk answer (λ found. answer_in found ≡ changes_answer span office body)
over_book span office body shelf registry answer same_rows same_records is =
    let P = λ (made : ChangesAnswer). IfOk answer (λ found. answer_in found ≡ made) in
    let lent = λ (o : Office). changes_answer span o body in
    subst P (ap lent (λ i. record { records = same_records i; observations = same_rows i; loads = [] }) ∙ changes-loads [] office span body) is

-- ---- and are printed

pub changes_are : (first last : ℕ) (body : List ℕ) (office : Office) (found kind : answers.ChangesAnswer) → answer_in found ≡ changes_answer (record { first = first; last = last }) office body → found ≡ kind
    → draft_printout (Changes first last) body office ≡ changes_printout (answer_in kind)
unfolding draft_printout
changes_are first last body office found kind is same = ap changes_printout (sym is ∙ ap answer_in same)
