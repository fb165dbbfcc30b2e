-- What a line changes is among the touched records.
use Rattle.std.proofs.Common.{◌≡◌, ℕ, Bool, true, false, cond, Option, Some, None, List, refl, ap, sym, subst, ◌∙◌}
use Rattle.std.specs.Prelude.{option_map}
use Rattle.std.specs.Option.{option_or}
use Rattle.std.proofs.lemmas.Slice.Eq.{bytes_eq-Decides}
use Rattle.aq_base.specs.declared.office.OfficeKey.{OfficeKey}
use Rattle.aq_base.specs.declared.office.OfficeKey.TheVariants.{Event as EventKey, Concurrence as ConcurrenceKey}
use Rattle.aq_base.specs.declared.office.OfficeLine.{OfficeLine}
use Rattle.aq_base.specs.declared.office.OfficeLine.TheVariants.{Put, Change, Drop}
use Rattle.aq_base.specs.declared.office.OfficeRecord.{OfficeRecord}
use Rattle.aq_rules.proofs.BatchDone.{HasKey, found-key}
use Rattle.aq_rules.specs.Lines.Reading.{OfOffice}
use Rattle.aq_rules.specs.Office.Load.{changed}
use Rattle.aq_rules.specs.Office.Office.{is_same, key_numbers, record_rank, rises, row_at, with_row, without_row}
use Rattle.aq_rules.specs.Office.Questions.{record_of}
use Rattle.aq_rules.specs.Office.RowOrder.{with_row-rises}
use Rattle.aq_registry.specs.Changes.{changes_of, dropping}
use Rattle.aq_registry.specs.Registry.{office_with}
use Rattle.aq_registry.specs.declared.changes.Changes.{Changes}
use Rattle.aq_registry.specs.declared.changes.RecordChange.{RecordChange}
use Rattle.aq_staging.specs.Touched.{AreTouched, noted, noted_change, noted_row, noted_second}
use Rattle.aq_rules.proofs.Lookups.{found-with, found-without}

abbrev at : List ℕ → List OfficeRecord → Option OfficeRecord
at q rows = row_at record_rank q rows

has_key : (q : List ℕ) (rows : List OfficeRecord) (row : OfficeRecord) → at q rows ≡ Some row → record_rank row ≡ q
unfolding HasKey
has_key q rows row found = subst (HasKey record_rank q) found (found-key record_rank q rows)

some_or : (b : Bool) (row : OfficeRecord) (o : Option OfficeRecord) → cond b (Some row) o ≡ None → (b ≡ false) × (o ≡ None)
some_or true row o h = cc
some_or false row o h = (refl, h)

-- ---- the order, and what was noted before

noted_row-rises : (row : Option OfficeRecord) (touched : List OfficeRecord) → rises record_rank touched ≡ true → rises record_rank (noted_row row touched) ≡ true
noted_row-rises None touched rising = rising
noted_row-rises (Some row) touched rising = with_row-rises record_rank row touched rising

noted_second-rises : (second : Option RecordChange) (touched : List OfficeRecord) → rises record_rank touched ≡ true → rises record_rank (noted_second second touched) ≡ true
noted_second-rises None touched rising = rising
noted_second-rises (Some change) touched rising = noted_row-rises (option_or change.new change.old) touched rising

module _ (q : List ℕ) where
  none-before : (row : Option OfficeRecord) (touched : List OfficeRecord) → at q (noted_row row touched) ≡ None → at q touched ≡ None
  none-before None touched none = none
  none-before (Some row) touched none =
      (some_or (is_same (record_rank row) q) row (at q touched) (sym (found-with record_rank q row touched) ∙ none)).1

  none-first : (second : Option RecordChange) (touched : List OfficeRecord) → at q (noted_second second touched) ≡ None → at q touched ≡ None
  none-first None touched none = none
  none-first (Some change) touched none = none-before (option_or change.new change.old) touched none

  -- a row that was noted is there
  never : (row : OfficeRecord) (touched : List OfficeRecord) → record_rank row ≡ q → at q (with_row record_rank row touched) ≡ None → ⊥
  never row touched is none =
      let there = ap (λ b. cond b (Some row) (at q touched)) ((bytes_eq-Decides (record_rank row) q).1 is) in
      let no : Some row ≡ None = sym there ∙ sym (found-with record_rank q row touched) ∙ none in
      cc

  -- if neither the record before nor the one after was noted, there is none
  both_none : (old new : Option OfficeRecord) (before after touched : List OfficeRecord) → at q before ≡ old → at q after ≡ new → at q (noted_row (option_or new old) touched) ≡ None → at q before ≡ at q after
  both_none None None before after touched was is none = was ∙ sym is
  both_none old (Some row) before after touched was is none = absurd (never row touched (has_key q after row is) none)
  both_none (Some row) None before after touched was is none = absurd (never row touched (has_key q before row was) none)

-- ---- one line

-- the rows that a line leaves
abbrev rows_after : List OfficeRecord → OfficeLine → List OfficeRecord
rows_after rows line = (changed (office_with rows) (OfOffice line)).records

module _ (q : List ℕ) (rows touched : List OfficeRecord) where
  -- under each key but one the record is the same, and the one of this key is noted
  noted_first : (key : List ℕ) (after : List OfficeRecord) → (is_same key q ≡ false → at q rows ≡ at q after) → at q (noted_row (option_or (at key after) (at key rows)) touched) ≡ None → at q rows ≡ at q after
  noted_first key after others none = by_test (is_same key q) refl
    where
      by_test : (b : Bool) → is_same key q ≡ b → at q rows ≡ at q after
      by_test true same =
          let is = (bytes_eq-Decides key q).0 same in
          both_none q (at key rows) (at key after) rows after touched (ap (λ l. at l rows) (sym is)) (ap (λ l. at l after) (sym is)) none
      by_test false other = others other

  others_put : (row : OfficeRecord) → is_same (record_rank row) q ≡ false → at q rows ≡ at q (with_row record_rank row rows)
  others_put row other = sym (found-with record_rank q row rows ∙ ap (λ b. cond b (Some row) (at q rows)) other)

  others_drop : (key : OfficeKey) → is_same (key_numbers key) q ≡ false → at q rows ≡ at q (without_row record_rank (key_numbers key) rows)
  others_drop key other = sym (found-without record_rank q (key_numbers key) rows ∙ ap (λ b. cond b None (at q rows)) other)

  drop-noted : (key : OfficeKey) → let after = without_row record_rank (key_numbers key) rows in at q (noted_row (option_or (record_of after key) (record_of rows key)) touched) ≡ None → at q rows ≡ at q after
  drop-noted key none = noted_first (key_numbers key) (without_row record_rank (key_numbers key) rows) (others_drop key) none

module _ (q : List ℕ) (rows touched : List OfficeRecord) (number : ℕ) where
  abbrev event : List ℕ
  event = key_numbers (EventKey number)

  abbrev concurrence : List ℕ
  concurrence = key_numbers (ConcurrenceKey number)

  abbrev whole : List OfficeRecord
  whole = without_row record_rank concurrence (without_row record_rank event rows)

  abbrev first_noted : List OfficeRecord
  first_noted = noted_row (option_or (at event whole) (at event rows)) touched

  not_event : at q (noted_second (option_map dropping (at concurrence rows)) first_noted) ≡ None → is_same event q ≡ false → at q rows ≡ at q whole
  not_event none other = by_test (is_same concurrence q) refl
    where
      found : at q whole ≡ cond (is_same concurrence q) None (at q rows)
      found =
          found-without record_rank q concurrence (without_row record_rank event rows)
          ∙ ap (cond (is_same concurrence q) None) (sym (others_drop q rows touched (EventKey number) other))

      dropped : (o : Option OfficeRecord) → at q rows ≡ o → at q (noted_second (option_map dropping o) first_noted) ≡ None → at q rows ≡ None
      dropped None was none = was
      dropped (Some row) was none = absurd (never q row first_noted (has_key q rows row was) none)

      by_test : (b : Bool) → is_same concurrence q ≡ b → at q rows ≡ at q whole
      by_test true same =
          let is = (bytes_eq-Decides concurrence q).0 same in
          dropped (at concurrence rows) (ap (λ l. at l rows) (sym is)) none
          ∙ sym (found ∙ ap (λ b. cond b None (at q rows)) same)
      by_test false apart = sym (found ∙ ap (λ b. cond b None (at q rows)) apart)

  event-noted : at q (noted_second (option_map dropping (at concurrence rows)) first_noted) ≡ None → at q rows ≡ at q whole
  event-noted none =
      noted_first q rows touched event whole (not_event none) (none-first q (option_map dropping (at concurrence rows)) first_noted none)

line-noted : (q : List ℕ) (rows touched : List OfficeRecord) (line : OfficeLine) → at q (noted (changes_of rows (rows_after rows line) line) touched) ≡ None → at q rows ≡ at q (rows_after rows line)
line-noted q rows touched (Put row) none =
    noted_first q rows touched (record_rank row) (with_row record_rank row rows) (others_put q rows touched row) none
line-noted q rows touched (Change row) none =
    noted_first q rows touched (record_rank row) (with_row record_rank row rows) (others_put q rows touched row) none
line-noted q rows touched (Drop (EventKey number)) none = event-noted q rows touched number none
line-noted q rows touched (Drop key) none = drop-noted q rows touched key none

pub AreTouched-line : (before rows after touched new : List OfficeRecord) (line : OfficeLine) (changes : Changes) → after ≡ rows_after rows line → changes ≡ changes_of rows after line → new ≡ noted changes touched → AreTouched before rows touched → AreTouched before after new
AreTouched-line before rows after touched new line changes is told put are =
    let all : new ≡ noted (changes_of rows (rows_after rows line) line) touched =
    put ∙ ap (λ (c : Changes). noted c touched) (told ∙ ap (λ (rs : List OfficeRecord). changes_of rows rs line) is)
    in
    let first = changes_of rows (rows_after rows line) line in
    let whole : AreTouched before (rows_after rows line) (noted first touched) = record {
      rising = noted_second-rises first.second (noted_change first.first touched) (noted_row-rises (option_or first.first.new first.first.old) touched are.rising);
      others = λ q none.
          are.others q (none-before q (option_or first.first.new first.first.old) touched (none-first q first.second (noted_change first.first touched) none))
          ∙ line-noted q rows touched line none;
    } in
    subst (λ (rs : List OfficeRecord). AreTouched before rs new) (sym is) (subst (λ (ts : List OfficeRecord). AreTouched before (rows_after rows line) ts) (sym all) whole)
