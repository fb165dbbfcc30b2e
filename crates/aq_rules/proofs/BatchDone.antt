-- The batch of a load, done to the office before it, gives the office after it.
use Rattle.std.proofs.Common.{◌≡◌, ℕ, Bool, true, false, cond, List, [], ◌∷◌, ◌++◌, map, refl, sym, ap, ◌∙◌}
use Rattle.std.specs.Prelude.{Option, Some, None, is_some, fold, option_map, ◌==◌}
use Rattle.std.proofs.lemmas.List.Sums.{fold-append}
use Rattle.aq_base.specs.declared.observation.ObsKey.{ObsKey}
use Rattle.aq_base.specs.declared.observation.Observation.{Observation}
use Rattle.aq_base.specs.declared.office.OfficeRecord.{OfficeRecord}
use Rattle.aq_base.specs.declared.office.OfficeKey.{OfficeKey}
use Rattle.aq_base.specs.declared.office.OfficeKey.TheVariants.{Event as EventKey}
use Rattle.aq_base.specs.declared.office.OfficeLine.TheVariants.{Put, Change, Drop}
use Rattle.aq_rules.specs.Lines.Lines.{NumberedLine, body_lines}
use Rattle.aq_rules.specs.Lines.RdForm.{Put as PutSample, Delete as DeleteSample}
use Rattle.aq_rules.specs.Lines.Reading.{LineValue, OfRd, OfOffice, line_value}
use Rattle.aq_rules.specs.Office.Office.{Office, StoredLoad, KeysRise, is_same, key_of, key_numbers, observation_numbers, observation_key, content_of, record_rank, observation_rank, load_rank, rises, row_at, with_row, without_row, record_at, observation_at}
use Rattle.aq_rules.specs.Office.Load.{keys_of_either, OfficeChange, PutRecord, DropRecord, PutObservation, DropObservation, PutLoad, with_change, is_same_record, is_same_content, record_change, observation_change, record_changes, observation_changes, load_change, batch, stored, load, changed, changed_by, refusal, after, after_all}
use Rattle.aq_rules.proofs.Loads.{KeysRise-after_all}
use Rattle.aq_rules.specs.Office.RowOrder.{with_row-rises, without_row-rises}
use Rattle.aq_rules.proofs.SameRows.{record-same, content-same}
use Rattle.aq_rules.proofs.Lookups.{same-is, found-with, found-without}
use Rattle.aq_rules.proofs.OneKey.{one_observation_key}
use Rattle.aq_rules.proofs.Changes.{GoodChange, done_if, changes-done, idle}

-- ---- one list after the other

records_with : List OfficeRecord → OfficeChange → List OfficeRecord
records_with rows (PutRecord row) = with_row record_rank row rows
records_with rows (DropRecord key) = without_row record_rank (key_numbers key) rows
records_with rows (PutObservation key content) = rows
records_with rows (DropObservation key) = rows
records_with rows (PutLoad stored) = rows

observations_with : List (ObsKey × Observation) → OfficeChange → List (ObsKey × Observation)
observations_with rows (PutRecord row) = rows
observations_with rows (DropRecord key) = rows
observations_with rows (PutObservation key content) = with_row observation_rank (key, content) rows
observations_with rows (DropObservation key) = without_row observation_rank (observation_numbers key) rows
observations_with rows (PutLoad stored) = rows

loads_with : List StoredLoad → OfficeChange → List StoredLoad
loads_with rows (PutRecord row) = rows
loads_with rows (DropRecord key) = rows
loads_with rows (PutObservation key content) = rows
loads_with rows (DropObservation key) = rows
loads_with rows (PutLoad stored) = with_row load_rank stored rows

office-parts : (office : Office) (change : OfficeChange) → with_change office change
    ≡ record { records = records_with office.records change; observations = observations_with office.observations change; loads = loads_with office.loads change }
unfolding records_with observations_with loads_with
office-parts office (PutRecord row) = refl
office-parts office (DropRecord key) = refl
office-parts office (PutObservation key content) = refl
office-parts office (DropObservation key) = refl
office-parts office (PutLoad stored) = refl

in-parts : (changes : List OfficeChange) (office : Office) → fold with_change office changes
    ≡ record { records = fold records_with office.records changes; observations = fold observations_with office.observations changes; loads = fold loads_with office.loads changes }
in-parts [] office = refl
in-parts (change ∷ changes) office = ap (λ o. fold with_change o changes) (office-parts office change)
    ∙ in-parts changes (record { records = records_with office.records change; observations = observations_with office.observations change; loads = loads_with office.loads change })

-- ---- records

module _ {X : Type 0} (rank : X → List ℕ) where
  -- what is found has the key
  unfoldable pub HasKey : List ℕ → Option X → Type 0
  HasKey key None = Unit {0}
  HasKey key (Some row) = rank row ≡ key

  pub found-key : (key : List ℕ) (rows : List X) → HasKey key (row_at rank key rows)
  unfolding HasKey
  found-key key [] = tt
  found-key key (row ∷ rows) = by_test (is_same (rank row) key) refl (found-key key rows)
    where
      by_test : (b : Bool) → is_same (rank row) key ≡ b → HasKey key (row_at rank key rows) → HasKey key (cond b (Some row) (row_at rank key rows))
      by_test true e rest = same-is (rank row) key e
      by_test false e rest = rest

  -- if the row found at a key is as it was, nothing is to be done
  pub as-before : (key at : List ℕ) (rows : List X) (row : Option X) → row_at rank key rows ≡ row → row_at rank at rows ≡ cond (is_same key at) row (row_at rank at rows)
  as-before key at rows row here = by_test (is_same key at) refl
    where
      by_test : (b : Bool) → is_same key at ≡ b → row_at rank at rows ≡ cond b row (row_at rank at rows)
      by_test true e = ap (λ l. row_at rank l rows) (sym (same-is key at e)) ∙ here
      by_test false e = refl

  pub put-found : (key at : List ℕ) (row : X) (rows : List X) → rank row ≡ key
      → row_at rank at (with_row rank row rows) ≡ cond (is_same key at) (Some row) (row_at rank at rows)
  put-found key at row rows is = found-with rank at row rows ∙ ap (λ l. cond (is_same l at) (Some row) (row_at rank at rows)) is

record-found : (key : OfficeKey) (at : List ℕ) (rows : List OfficeRecord) (old new : Option OfficeRecord)
    → HasKey record_rank (key_numbers key) new → row_at record_rank (key_numbers key) rows ≡ old
    → row_at record_rank at (done_if records_with rows (record_change key old new)) ≡ cond (is_same (key_numbers key) at) new (row_at record_rank at rows)
unfolding records_with HasKey
record-found key at rows None None has here = as-before record_rank (key_numbers key) at rows None here
record-found key at rows None (Some new) has here = put-found record_rank (key_numbers key) at new rows has
record-found key at rows (Some old) None has here = found-without record_rank at (key_numbers key) rows
record-found key at rows (Some old) (Some new) has here = by_test (is_same_record old new) refl
  where
    by_test : (b : Bool) → is_same_record old new ≡ b
        → row_at record_rank at (done_if records_with rows (cond b None (Some (PutRecord new)))) ≡ cond (is_same (key_numbers key) at) (Some new) (row_at record_rank at rows)
    by_test true e = as-before record_rank (key_numbers key) at rows (Some new) (here ∙ ap (λ (r : OfficeRecord). Some r) (record-same old new e))
    by_test false e = put-found record_rank (key_numbers key) at new rows has

records-rise : (rows : List OfficeRecord) (change : Option OfficeChange) → rises record_rank rows ≡ true → rises record_rank (done_if records_with rows change) ≡ true
unfolding records_with
records-rise rows None rising = rising
records-rise rows (Some (PutRecord row)) rising = with_row-rises record_rank row rows rising
records-rise rows (Some (DropRecord key)) rising = without_row-rises record_rank (key_numbers key) rows rising
records-rise rows (Some (PutObservation key content)) rising = rising
records-rise rows (Some (DropObservation key)) rising = rising
records-rise rows (Some (PutLoad stored)) rising = rising

-- ---- observations

abbrev Entry : Type 0
Entry = ObsKey × Observation

observation-found : (key : ObsKey) (at : List ℕ) (rows : List Entry) (old new : Option Entry)
    → HasKey observation_rank (observation_numbers key) old → HasKey observation_rank (observation_numbers key) new → row_at observation_rank (observation_numbers key) rows ≡ old
    → row_at observation_rank at (done_if observations_with rows (observation_change key (option_map content_of old) (option_map content_of new)))
    ≡ cond (is_same (observation_numbers key) at) new (row_at observation_rank at rows)
unfolding observations_with HasKey
observation-found key at rows None None had has here = as-before observation_rank (observation_numbers key) at rows None here
observation-found key at rows None (Some new) had has here =
    let whole : (key, new.1) ≡ new = λ i. (one_observation_key key new.0 (sym has) i, new.1) in
    put-found observation_rank (observation_numbers key) at (key, new.1) rows refl
    ∙ ap (λ (r : Entry). cond (is_same (observation_numbers key) at) (Some r) (row_at observation_rank at rows)) whole
observation-found key at rows (Some old) None had has here = found-without observation_rank at (observation_numbers key) rows
observation-found key at rows (Some old) (Some new) had has here = by_test (is_same_content old.1 new.1) refl
  where
    by_test : (b : Bool) → is_same_content old.1 new.1 ≡ b
        → row_at observation_rank at (done_if observations_with rows (cond b None (Some (PutObservation key new.1)))) ≡ cond (is_same (observation_numbers key) at) (Some new) (row_at observation_rank at rows)
    by_test true e =
        let content = content-same old.1 new.1 e in
        let place = one_observation_key old.0 new.0 (had ∙ sym has) in
        let entry : old ≡ new = λ i. (place i, content i) in
        as-before observation_rank (observation_numbers key) at rows (Some new) (here ∙ ap (λ (r : Entry). Some r) entry)
    by_test false e =
        let whole : (key, new.1) ≡ new = λ i. (one_observation_key key new.0 (sym has) i, new.1) in
        put-found observation_rank (observation_numbers key) at (key, new.1) rows refl
        ∙ ap (λ (r : Entry). cond (is_same (observation_numbers key) at) (Some r) (row_at observation_rank at rows)) whole

observations-rise : (rows : List Entry) (change : Option OfficeChange) → rises observation_rank rows ≡ true → rises observation_rank (done_if observations_with rows change) ≡ true
unfolding observations_with
observations-rise rows None rising = rising
observations-rise rows (Some (PutRecord row)) rising = rising
observations-rise rows (Some (DropRecord key)) rising = rising
observations-rise rows (Some (PutObservation key content)) rising = with_row-rises observation_rank (key, content) rows rising
observations-rise rows (Some (DropObservation key)) rising = without_row-rises observation_rank (observation_numbers key) rows rising
observations-rise rows (Some (PutLoad stored)) rising = rising

-- ---- a load's changes

module _ (before now : Office) where
  abbrev record_at_key : OfficeKey → Option OfficeChange
  record_at_key key = record_change key (record_at before key) (record_at now key)

  abbrev observation_at_key : ObsKey → Option OfficeChange
  observation_at_key key = observation_change key (observation_at before key) (observation_at now key)

  good-records : GoodChange key_of key_numbers record_at_key records_with before.records now.records
  good-records = record {
    rising = λ k rows rise. records-rise rows (record_at_key k) rise;
    found = λ k at rows here.
        record-found k at rows (record_at before k) (record_at now k) (found-key record_rank (key_numbers k) now.records) here;
  }

  good-observations : GoodChange observation_key observation_numbers observation_at_key observations_with before.observations now.observations
  good-observations = record {
    rising = λ k rows rise. observations-rise rows (observation_at_key k) rise;
    found = λ k at rows here.
        observation-found k at rows (row_at observation_rank (observation_numbers k) before.observations) (row_at observation_rank (observation_numbers k) now.observations)
        (found-key observation_rank (observation_numbers k) before.observations) (found-key observation_rank (observation_numbers k) now.observations) here;
  }

  records-done : rises record_rank before.records ≡ true → rises record_rank now.records ≡ true → fold records_with before.records (record_changes before now) ≡ now.records
  records-done was is = changes-done key_of key_numbers record_at_key records_with before.records now.records good-records is was

  observations-done : rises observation_rank before.observations ≡ true → rises observation_rank now.observations ≡ true
      → fold observations_with before.observations (observation_changes before now) ≡ now.observations
  observations-done was is = changes-done observation_key observation_numbers observation_at_key observations_with before.observations now.observations good-observations is was

-- the changes of one list leave the others
module _ {X : Type 0} (apply : List X → OfficeChange → List X) where
  record-idle : ((rows : List X) (r : OfficeRecord) → apply rows (PutRecord r) ≡ rows) → ((rows : List X) (key : OfficeKey) → apply rows (DropRecord key) ≡ rows)
      → (key : OfficeKey) (old new : Option OfficeRecord) (rows : List X) → done_if apply rows (record_change key old new) ≡ rows
  record-idle put drop key None None rows = refl
  record-idle put drop key None (Some new) rows = put rows new
  record-idle put drop key (Some old) None rows = drop rows key
  record-idle put drop key (Some old) (Some new) rows = by_test (is_same_record old new)
    where
      by_test : (b : Bool) → done_if apply rows (cond b None (Some (PutRecord new))) ≡ rows
      by_test true = refl
      by_test false = put rows new

  observation-idle : ((rows : List X) (key : ObsKey) (content : Observation) → apply rows (PutObservation key content) ≡ rows) → ((rows : List X) (key : ObsKey) → apply rows (DropObservation key) ≡ rows)
      → (key : ObsKey) (old new : Option Observation) (rows : List X) → done_if apply rows (observation_change key old new) ≡ rows
  observation-idle put drop key None None rows = refl
  observation-idle put drop key None (Some new) rows = put rows key new
  observation-idle put drop key (Some old) None rows = drop rows key
  observation-idle put drop key (Some old) (Some new) rows = by_test (is_same_content old new)
    where
      by_test : (b : Bool) → done_if apply rows (cond b None (Some (PutObservation key new))) ≡ rows
      by_test true = refl
      by_test false = put rows key new

  record_changes-idle : ((rows : List X) (r : OfficeRecord) → apply rows (PutRecord r) ≡ rows) → ((rows : List X) (key : OfficeKey) → apply rows (DropRecord key) ≡ rows)
      → (before now : Office) (rows : List X) → fold apply rows (record_changes before now) ≡ rows
  record_changes-idle put drop before now rows =
      idle apply (record_at_key before now) (λ k rows. record-idle put drop k (record_at before k) (record_at now k) rows)
      (keys_of_either key_numbers (map key_of before.records) (map key_of now.records)) rows

  observation_changes-idle : ((rows : List X) (key : ObsKey) (content : Observation) → apply rows (PutObservation key content) ≡ rows) → ((rows : List X) (key : ObsKey) → apply rows (DropObservation key) ≡ rows)
      → (before now : Office) (rows : List X) → fold apply rows (observation_changes before now) ≡ rows
  observation_changes-idle put drop before now rows =
      idle apply (observation_at_key before now) (λ k rows. observation-idle put drop k (observation_at before k) (observation_at now k) rows)
      (keys_of_either observation_numbers (map observation_key before.observations) (map observation_key now.observations)) rows

  fold-three : (rows : List X) (a b c : List OfficeChange) → fold apply rows (a ++ b ++ c) ≡ fold apply (fold apply (fold apply rows a) b) c
  fold-three rows a b c = fold-append apply rows (a ++ b) c ∙ ap (λ l. fold apply l c) (fold-append apply rows a b)

-- ---- the loads

loads-changed : (office : Office) (value : LineValue) → (changed office value).loads ≡ office.loads
loads-changed office (OfRd (PutSample update monitor duration hour content)) = refl
loads-changed office (OfRd (DeleteSample monitor hour)) = refl
loads-changed office (OfOffice (Put r)) = refl
loads-changed office (OfOffice (Change r)) = refl
loads-changed office (OfOffice (Drop (EventKey number))) = refl
loads-changed office (OfOffice (Drop key)) = refl

loads-changed_by : (office : Office) (value : Option LineValue) → (changed_by office value).loads ≡ office.loads
loads-changed_by office None = refl
loads-changed_by office (Some value) = loads-changed office value

loads-if : (refused : Bool) (office now : Office) → now.loads ≡ office.loads → (cond refused office now).loads ≡ office.loads
loads-if true office now is = refl
loads-if false office now is = is

-- lines leave the loads
pub loads-after_all : (lines : List NumberedLine) (office : Office) → (after_all office lines).loads ≡ office.loads
loads-after_all [] office = refl
loads-after_all (line ∷ lines) office =
    loads-after_all lines (after office line.text)
    ∙ loads-if (is_some (refusal office line.text)) office (changed_by office (line_value line.text)) (loads-changed_by office (line_value line.text))

module _ (office : Office) (number : ℕ) (digest body : List ℕ) where
  abbrev now : Office
  now = after_all office (body_lines body)

  abbrev kept : StoredLoad
  kept = stored office number digest body

  with_load-parts : (zero : Bool)
      → record { records = fold records_with now.records (cond zero [] (PutLoad kept ∷ [])); observations = fold observations_with now.observations (cond zero [] (PutLoad kept ∷ [])); loads = fold loads_with office.loads (cond zero [] (PutLoad kept ∷ [])) }
      ≡ cond zero now (record now { loads = with_row load_rank kept now.loads })
  unfolding records_with observations_with loads_with
  with_load-parts true = λ i. record { records = now.records; observations = now.observations; loads = sym (loads-after_all (body_lines body) office) i }
  with_load-parts false = λ i. record { records = now.records; observations = now.observations; loads = with_row load_rank kept (sym (loads-after_all (body_lines body) office) i) }

  pub batch-done : KeysRise office → fold with_change office (batch office number digest body) ≡ load office number digest body
  unfolding records_with observations_with loads_with
  batch-done rise =
      let later = KeysRise-after_all office (body_lines body) rise in
      let rs = record_changes office now in
      let os = observation_changes office now in
      let ls = load_change kept in
      let records : fold records_with office.records (rs ++ os ++ ls) ≡ fold records_with now.records ls =
      fold-three records_with office.records rs os ls
      ∙ ap (λ l. fold records_with (fold records_with l os) ls) (records-done office now rise.records later.records)
      ∙ ap (λ l. fold records_with l ls) (observation_changes-idle records_with (λ rows key content. refl) (λ rows key. refl) office now now.records)
      in
      let observations : fold observations_with office.observations (rs ++ os ++ ls) ≡ fold observations_with now.observations ls =
      fold-three observations_with office.observations rs os ls
      ∙ ap (λ l. fold observations_with (fold observations_with l os) ls) (record_changes-idle observations_with (λ rows r. refl) (λ rows key. refl) office now office.observations)
      ∙ ap (λ l. fold observations_with l ls) (observations-done office now rise.observations later.observations)
      in
      let loads : fold loads_with office.loads (rs ++ os ++ ls) ≡ fold loads_with office.loads ls =
      fold-three loads_with office.loads rs os ls
      ∙ ap (λ l. fold loads_with (fold loads_with l os) ls) (record_changes-idle loads_with (λ rows r. refl) (λ rows key. refl) office now office.loads)
      ∙ ap (λ l. fold loads_with l ls) (observation_changes-idle loads_with (λ rows key content. refl) (λ rows key. refl) office now office.loads)
      in
      in-parts (rs ++ os ++ ls) office
      ∙ (λ i. record { records = records i; observations = observations i; loads = loads i })
      ∙ with_load-parts (number == 0)
