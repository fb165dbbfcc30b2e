-- What a line and a load make of an office's records and observations does not hang on its loads.
use Rattle.std.proofs.Common.{◌≡◌, ℕ, Bool, true, false, cond, Option, Some, None, is_some, List, [], ◌∷◌, ◌++◌, length, refl, ap, ◌∙◌}
use Rattle.std.specs.Option.{option_or}
use Rattle.aq_base.specs.declared.office.OfficeRecord.TheVariants.{Monitor, Primary, Schedule, Season, Makeup, Event, Concurrence, Approved, Combined}
use Rattle.aq_base.specs.declared.office.OfficeKey.TheVariants as keys
use Rattle.aq_base.specs.declared.office.OfficeLine.TheVariants.{Put, Change, Drop}
use Rattle.aq_base.specs.declared.reply.ListedLine.{ListedLine}
use Rattle.aq_base.specs.declared.rule.Rule.{Rule}
use Rattle.aq_rules.specs.Lines.Lines.{NumberedLine, body_lines, line_count}
use Rattle.aq_rules.specs.Lines.RdForm.{Put as PutSample, Delete as DeleteSample}
use Rattle.aq_rules.specs.Lines.Reading.{LineValue, OfRd, OfOffice, line_value, reading_rule}
use Rattle.aq_rules.specs.Office.Office.{Office, StoredLoad}
use Rattle.aq_rules.specs.Office.Refusal.{broken}
use Rattle.aq_rules.specs.Office.Load.{after, after_all, broken_by, changed, changed_by, listed_for, refusal, refusals, reply, reply_for}

-- the office with these loads in place of its own
abbrev pub with_loads : List StoredLoad → Office → Office
with_loads loads office = record office { loads = loads }

module _ (loads : List StoredLoad) (office : Office) where
  broken_loads : (value : LineValue) → broken (with_loads loads office) value ≡ broken office value
  broken_loads (OfRd (PutSample true monitor duration hour content)) = refl
  broken_loads (OfRd (PutSample false monitor duration hour content)) = refl
  broken_loads (OfRd (DeleteSample monitor hour)) = refl
  broken_loads (OfOffice (Put (Monitor id duration eligible))) = refl
  broken_loads (OfOffice (Put (Primary site pollutant from poc))) = refl
  broken_loads (OfOffice (Put (Schedule site pollutant from interval anchor))) = refl
  broken_loads (OfOffice (Put (Season site year first last))) = refl
  broken_loads (OfOffice (Put (Makeup site missed makeup))) = refl
  broken_loads (OfOffice (Put (Event number site pollutant first last code))) = refl
  broken_loads (OfOffice (Put (Concurrence number agreed))) = refl
  broken_loads (OfOffice (Put (Approved site day))) = refl
  broken_loads (OfOffice (Put (Combined site pollutant from joined))) = refl
  broken_loads (OfOffice (Change (Monitor id duration eligible))) = refl
  broken_loads (OfOffice (Change (Concurrence number agreed))) = refl
  broken_loads (OfOffice (Change r)) = refl
  broken_loads (OfOffice (Drop (keys.Monitor id))) = refl
  broken_loads (OfOffice (Drop (keys.Event number))) = refl
  broken_loads (OfOffice (Drop (keys.Concurrence number))) = refl
  broken_loads (OfOffice (Drop key)) = refl

  changed_loads : (value : LineValue) → changed (with_loads loads office) value ≡ with_loads loads (changed office value)
  changed_loads (OfRd (PutSample update monitor duration hour content)) = refl
  changed_loads (OfRd (DeleteSample monitor hour)) = refl
  changed_loads (OfOffice (Put r)) = refl
  changed_loads (OfOffice (Change r)) = refl
  changed_loads (OfOffice (Drop (keys.Event number))) = refl
  changed_loads (OfOffice (Drop key)) = refl

  broken_by_loads : (value : Option LineValue) → broken_by (with_loads loads office) value ≡ broken_by office value
  broken_by_loads None = refl
  broken_by_loads (Some value) = broken_loads value

  changed_by_loads : (value : Option LineValue) → changed_by (with_loads loads office) value ≡ with_loads loads (changed_by office value)
  changed_by_loads None = refl
  changed_by_loads (Some value) = changed_loads value

  refusal_loads : (line : List ℕ) → refusal (with_loads loads office) line ≡ refusal office line
  refusal_loads line = ap (λ (o : Option Rule). option_or (reading_rule line) o) (broken_by_loads (line_value line))

  after_loads : (line : List ℕ) → after (with_loads loads office) line ≡ with_loads loads (after office line)
  after_loads line =
      ap (λ (o : Option Rule). cond (is_some o) (with_loads loads office) (changed_by (with_loads loads office) (line_value line))) (refusal_loads line)
      ∙ ap (λ (o : Office). cond (is_some (refusal office line)) (with_loads loads office) o) (changed_by_loads (line_value line))
      ∙ by (is_some (refusal office line))
    where
      by : (b : Bool) → cond b (with_loads loads office) (with_loads loads (changed_by office (line_value line))) ≡ with_loads loads (cond b office (changed_by office (line_value line)))
      by true = refl
      by false = refl

module _ (loads : List StoredLoad) where
  pub after_all_loads : (lines : List NumberedLine) (office : Office) → after_all (with_loads loads office) lines ≡ with_loads loads (after_all office lines)
  after_all_loads [] office = refl
  after_all_loads (line ∷ lines) office =
      ap (λ (o : Office). after_all o lines) (after_loads loads office line.text) ∙ after_all_loads lines (after office line.text)

  pub refusals_loads : (lines : List NumberedLine) (office : Office) → refusals (with_loads loads office) lines ≡ refusals office lines
  refusals_loads [] office = refl
  refusals_loads (line ∷ lines) office =
      ap (λ (o : Option Rule). listed_for line.number o ++ refusals (after (with_loads loads office) line.text) lines) (refusal_loads loads office line.text)
      ∙ ap (λ (o : Office). listed_for line.number (refusal office line.text) ++ refusals o lines) (after_loads loads office line.text)
      ∙ ap (λ (l : List ListedLine). listed_for line.number (refusal office line.text) ++ l) (refusals_loads lines (after office line.text))

  pub reply_loads : (office : Office) (number : ℕ) (body : List ℕ) → reply (with_loads loads office) number body ≡ reply office number body
  reply_loads office number body =
      ap (λ (l : List ListedLine). reply_for number (line_count body) (length (body_lines body)) l) (refusals_loads (body_lines body) office)
