-- The rows of an office that lines left are rows that lines can spell.
use Rattle.std.proofs.Common.{◌≡◌, ℕ, Bool, true, false, cond, not, List, [], ◌∷◌, refl}
use Rattle.std.specs.Prelude.{Option, Some, None, is_some, filter}
use Rattle.std.proofs.lemmas.Bool.{and_parts}
use Rattle.aq_base.specs.declared.office.OfficeRecord.{OfficeRecord}
use Rattle.aq_base.specs.declared.office.OfficeRecord.TheVariants.{Monitor, Concurrence}
use Rattle.aq_base.specs.declared.office.OfficeKey.{OfficeKey}
use Rattle.aq_base.specs.declared.office.OfficeKey.TheVariants.{Event as EventKey, Concurrence as ConcurrenceKey}
use Rattle.aq_base.specs.declared.office.OfficeLine.TheVariants.{Put, Change, Drop}
use Rattle.aq_rules.specs.Lines.Lines.{NumberedLine}
use Rattle.aq_rules.specs.Lines.RdForm.{Put as PutSample, Delete as DeleteSample}
use Rattle.aq_rules.specs.Lines.Reading.{LineValue, OfRd, OfOffice, line_value}
use Rattle.aq_rules.specs.Lines.Canonical.{is_line_value, is_office_line}
use Rattle.aq_rules.specs.Office.Office.{Office, IsOffice, comes_before, is_same, record_rank, observation_rank, key_numbers, observation_numbers, is_site, is_content, is_record, fits_records, fits_monitors, with_row, without_row}
use Rattle.aq_rules.specs.Office.Refusal.{kept_key}
use Rattle.aq_rules.specs.Office.Load.{with_record, without_record, without_key, changed, changed_by, refusal, after, after_all}
use Rattle.aq_rules.proofs.Elements.{Every}
use Rattle.aq_rules.proofs.ValidLines.{line_valid}
use Rattle.aq_rules.proofs.OfficeBack.{IsSpelled, fitting-is_spelled, is_record-of, every-from}

pub record AllSpelled (office : Office) : Type 0 where
  pub records : Every (λ r. is_record r ≡ true) office.records
  pub observations : Every IsSpelled office.observations

pub valid-spelled : (office : Office) → IsOffice office → AllSpelled office
valid-spelled office valid = record {
  records = every-from (fits_records office) (λ r. is_record r ≡ true) (is_record-of office) office.records valid.records_fit;
  observations = every-from (fits_monitors office) IsSpelled (λ o fits. fitting-is_spelled office o valid fits) office.observations valid.observations_fit;
}

-- ---- rows put and dropped

module _ {X : Type 0} (P : X → Type 0) (rank : X → List ℕ) where
  pub every-with : (row : X) (rows : List X) → P row → Every P rows → Every P (with_row rank row rows)
  every-with row [] here every = (here, tt)
  every-with row (first ∷ rows) here every = by_tests (comes_before (rank row) (rank first)) (is_same (rank row) (rank first)) (every-with row rows here every.1)
    where
      by_tests : (b s : Bool) → Every P (with_row rank row rows) → Every P (cond b (row ∷ first ∷ rows) (cond s (row ∷ rows) (first ∷ with_row rank row rows)))
      by_tests true s rest = (here, every)
      by_tests false true rest = (here, every.1)
      by_tests false false rest = (every.0, rest)

  every-filter : (keep : X → Bool) (rows : List X) → Every P rows → Every P (filter keep rows)
  every-filter keep [] every = tt
  every-filter keep (first ∷ rows) every = by_test (keep first) (every-filter keep rows every.1)
    where
      by_test : (b : Bool) → Every P (filter keep rows) → Every P (cond b (first ∷ filter keep rows) (filter keep rows))
      by_test true rest = (every.0, rest)
      by_test false rest = rest

  pub every-without : (key : List ℕ) (rows : List X) → Every P rows → Every P (without_row rank key rows)
  every-without key rows every = every-filter (λ row. not (is_same (rank row) key)) rows every

-- ---- what a line leaves

spelled-without : (key : OfficeKey) (office : Office) → AllSpelled office → AllSpelled (without_record key office)
spelled-without key office all = record {
  records = every-without (λ r. is_record r ≡ true) record_rank (key_numbers key) office.records all.records;
  observations = all.observations;
}

spelled-without_key : (key : OfficeKey) (office : Office) → AllSpelled office → AllSpelled (without_key key office)
spelled-without_key (EventKey number) office all = spelled-without (ConcurrenceKey number) (without_record (EventKey number) office) (spelled-without (EventKey number) office all)
spelled-without_key key office all = spelled-without key office all

spelled-with : (r : OfficeRecord) (office : Office) → is_record r ≡ true → AllSpelled office → AllSpelled (with_record r office)
spelled-with r office is all = record {
  records = every-with (λ s. is_record s ≡ true) record_rank r office.records is all.records;
  observations = all.observations;
}

put-record : (r : OfficeRecord) → is_office_line (Put r) ≡ true → is_record r ≡ true
put-record (Concurrence number agreed) h = cc
put-record r h = h

changed-record : (r : OfficeRecord) → is_office_line (Change r) ≡ true → is_record r ≡ true
changed-record (Monitor id duration eligible) h = h
changed-record (Concurrence number agreed) h = h
changed-record r h = cc

spelled-changed : (office : Office) (value : LineValue) → is_line_value value ≡ true → AllSpelled office → AllSpelled (changed office value)
spelled-changed office (OfRd (PutSample update monitor duration hour content)) is all =
    let e = and_parts _ (is_content monitor.pollutant content) is in
    let d = and_parts _ _ e.0 in
    let c = and_parts _ _ d.0 in
    let b = and_parts _ _ c.0 in
    let a = and_parts (is_site monitor.site) _ b.0 in
    record {
      records = all.records;
      observations = every-with IsSpelled observation_rank (kept_key office monitor hour, content) office.observations (record { site = a.0; content = e.1 }) all.observations;
    }
spelled-changed office (OfRd (DeleteSample monitor hour)) is all = record {
  records = all.records;
  observations = every-without IsSpelled observation_rank (observation_numbers (kept_key office monitor hour)) office.observations all.observations;
}
spelled-changed office (OfOffice (Put r)) is all = spelled-with r office (put-record r is) all
spelled-changed office (OfOffice (Change r)) is all = spelled-with r office (changed-record r is) all
spelled-changed office (OfOffice (Drop key)) is all = spelled-without_key key office all

spelled-changed_by : (office : Office) (value : Option LineValue) → ((v : LineValue) → value ≡ Some v → is_line_value v ≡ true) → AllSpelled office → AllSpelled (changed_by office value)
spelled-changed_by office None is all = all
spelled-changed_by office (Some value) is all = spelled-changed office value (is value refl) all

spelled-if : (refused : Bool) (office now : Office) → AllSpelled office → AllSpelled now → AllSpelled (cond refused office now)
spelled-if true office now all later = all
spelled-if false office now all later = later

pub spelled-after : (office : Office) (line : List ℕ) → AllSpelled office → AllSpelled (after office line)
spelled-after office line all =
    spelled-if (is_some (refusal office line)) office (changed_by office (line_value line)) all
    (spelled-changed_by office (line_value line) (line_valid line) all)

pub spelled-after_all : (lines : List NumberedLine) (office : Office) → AllSpelled office → AllSpelled (after_all office lines)
spelled-after_all [] office all = all
spelled-after_all (line ∷ lines) office all = spelled-after_all lines (after office line.text) (spelled-after office line.text all)
