-- A cell that is not in reach reads no changed row. So under each key that it reads the same stands in both offices.
use Rattle.std.proofs.Common.{◌≡◌, ℕ, Bool, true, false, cond, ◌||◌, List, [], ◌∷◌, ◌++◌, map, refl, sym, ap, ◌∙◌, subst}
use Rattle.std.specs.Prelude.{Option, Some, None, is_none, option_map, find, flat_map}
use Rattle.std.specs.List.{list_any, filter_map, cons_option}
use Rattle.std.proofs.Math.Bool.{or-true}
use Rattle.std.proofs.lemmas.Bool.{false≢true, or_parts}
use Rattle.std.proofs.lemmas.Option.{none-some}
use Rattle.std.proofs.lemmas.List.Folds.{list_any-append}
use Rattle.aq_base.specs.declared.observation.ObsKey.{ObsKey}
use Rattle.aq_base.specs.declared.observation.Observation.{Observation}
use Rattle.aq_base.specs.declared.office.OfficeRecord.{OfficeRecord}
use Rattle.aq_base.specs.declared.office.OfficeKey.{OfficeKey}
use Rattle.aq_rules.specs.Office.Office.{Office, key_of, key_numbers, record_rank, record_at, observation_numbers, observation_rank, observation_key, observation_at, content_of, row_at, is_same}
use Rattle.aq_rules.specs.Office.Questions.{record_of}
use Rattle.aq_rules.specs.Office.Load.{OfficeChange, PutRecord, DropRecord, PutObservation, DropObservation, record_change, record_changes, observation_change, observation_changes, keys_of_either, is_same_record, is_same_content}
use Rattle.aq_rules.specs.Kept.Cells.{CellName, is_same_cell}
use Rattle.aq_rules.specs.Kept.Reach.{ChangedRow, ChangedObservation, ChangedRecord, changed_row, changed_rows, loads_not_in, cells_reading, reads, reach}
use Rattle.aq_rules.proofs.CellsOnce.{member, member-once}
use Rattle.aq_rules.proofs.Changes.{none-of_first, none-of_second}
use Rattle.aq_rules.proofs.Found.{some_is, find-passes}
use Rattle.aq_rules.proofs.Lookups.{same-is}
use Rattle.aq_rules.proofs.OneKey.{one_office_key, one_observation_key}
use Rattle.aq_rules.proofs.SameRows.{record-same, content-same}
use Rattle.aq_rules.proofs.Unreached.{is_new_in}

-- ---- tests of lists

any-flat_map : {X Y : Type 0} (p : Y → Bool) (f : X → List Y) (xs : List X) → list_any p (flat_map f xs) ≡ list_any (λ x. list_any p (f x)) xs
any-flat_map p f [] = refl
any-flat_map p f (x ∷ xs) = list_any-append p (f x) (flat_map f xs) ∙ ap (λ b. list_any p (f x) || b) (any-flat_map p f xs)

any-map : {X Y : Type 0} (p : Y → Bool) (f : X → Y) (xs : List X) → list_any p (map f xs) ≡ list_any (λ x. p (f x)) xs
any-map p f [] = refl
any-map p f (x ∷ xs) = ap (λ b. p (f x) || b) (any-map p f xs)

none-of_both : {X : Type 0} (p : X → Bool) (xs ys : List X) → list_any p (xs ++ ys) ≡ false → (list_any p xs ≡ false) × (list_any p ys ≡ false)
none-of_both p xs ys none = or_parts _ _ (sym (list_any-append p xs ys) ∙ none)

-- what a word gives of an item that is found passes a test, so one of all that it gives does
any-given : {X Y : Type 0} (at : X → Bool) (word : X → Option Y) (p : Y → Bool) (xs : List X) (x : X) (y : Y) → find at xs ≡ Some x → word x ≡ Some y → p y ≡ true
    → list_any p (filter_map word xs) ≡ true
any-given at word p [] x y found gives passes = absurd (none-some x found)
any-given {Y = Y} at word p (z ∷ xs) x y found gives passes = by (at z) (λ later. any-given at word p xs x y later gives passes) found
  where
    here : (o : Option Y) → o ≡ Some y → list_any p (cons_option o (filter_map word xs)) ≡ true
    here None e = absurd (none-some y e)
    here (Some w) e = rw (subst (λ v. p v ≡ true) (sym (some_is w y e)) passes) refl

    later : (o : Option Y) → list_any p (filter_map word xs) ≡ true → list_any p (cons_option o (filter_map word xs)) ≡ true
    later None any = any
    later (Some w) any = rw any (or-true (p w))

    by : (b : Bool) → (find at xs ≡ Some x → list_any p (filter_map word xs) ≡ true) → cond b (Some z) (find at xs) ≡ Some x → list_any p (cons_option (word z) (filter_map word xs)) ≡ true
    by true rest found = here (word z) (ap word (some_is z x found) ∙ gives)
    by false rest found = later (word z) (rest found)

-- ---- the changes of a list of rows

module _ {X K C : Type 0} (key : X → K) (numbers : K → List ℕ) (one_key : (a b : K) → numbers a ≡ numbers b → a ≡ b) (change : K → Option C) (before now : List X) where
  abbrev at : K → List X → Option X
  at k rows = row_at (λ row. numbers (key row)) (numbers k) rows

  abbrev all_keys : List K
  all_keys = keys_of_either numbers (map key before) (map key now)

  no-row : (k : K) (rows : List X) → row_at numbers (numbers k) (map key rows) ≡ None → at k rows ≡ None
  no-row k [] none = refl
  no-row k (x ∷ rows) none = by (is_same (numbers (key x)) (numbers k)) none (no-row k rows)
    where
      by : (b : Bool) → cond b (Some (key x)) (row_at numbers (numbers k) (map key rows)) ≡ None
          → (row_at numbers (numbers k) (map key rows) ≡ None → at k rows ≡ None) → cond b (Some x) (at k rows) ≡ None
      by true none rest = absurd (none-some (key x) (sym none))
      by false none rest = rest none

  -- if a key's change passes a test that no change of the lists passes, no row of either has the key
  key-of_neither : (test : C → Bool) → list_any test (filter_map change all_keys) ≡ false → (k : K) (c : C) → change k ≡ Some c → test c ≡ true → at k before ≡ at k now
  key-of_neither test none k c gives passes = by (row_at numbers (numbers k) all_keys) refl
    where
      by : (o : Option K) → row_at numbers (numbers k) all_keys ≡ o → at k before ≡ at k now
      by None is =
          no-row k before (none-of_first numbers (numbers k) (map key before) (map key now) is)
          ∙ sym (no-row k now (none-of_second numbers (numbers k) (map key before) (map key now) is))
      by (Some other) is =
          let same : other ≡ k = one_key other k (same-is (numbers other) (numbers k) (find-passes (λ row. is_same (numbers row) (numbers k)) all_keys other is)) in
          absurd (false≢true (sym none ∙ any-given (λ row. is_same (numbers row) (numbers k)) change test all_keys other c is (ap change same ∙ gives) passes))

-- ---- of a cell that reads no changed row

module _ (a b : Office) (cell : CellName) (records : List OfficeRecord) (unread : list_any (λ row. reads records cell row) (changed_rows a b) ≡ false) where
  abbrev reads_change : OfficeChange → Bool
  reads_change change = reads records cell (changed_row a change)

  changes-unread : (list_any reads_change (record_changes a b) ≡ false) × (list_any reads_change (observation_changes a b) ≡ false)
  unfolding changed_rows
  changes-unread =
      let test : ChangedRow → Bool = λ row. reads records cell row in
      let changed = map (changed_row a) (record_changes a b ++ observation_changes a b) in
      let rows = none-of_both test changed (loads_not_in a b) (none-of_both test (changed ++ loads_not_in a b) (loads_not_in b a) unread).0 in
      none-of_both reads_change (record_changes a b) (observation_changes a b) (sym (any-map test (changed_row a) (record_changes a b ++ observation_changes a b)) ∙ rows.0)

  -- ---- records

  module _ (key : OfficeKey) (is_read : reads records cell (ChangedRecord key (is_new_in a.records key)) ≡ true) where
    put-row : (r : OfficeRecord) → record_at b key ≡ Some r → changed_row a (PutRecord r) ≡ ChangedRecord key (is_new_in a.records key)
    put-row r now =
        ap (λ k. ChangedRecord k (is_none (record_at a k)))
        (one_office_key (key_of r) key (same-is (record_rank r) (key_numbers key) (find-passes (λ row. is_same (record_rank row) (key_numbers key)) b.records r now)))

    -- the changed row of the key's change
    row-of : (o p : Option OfficeRecord) (change : OfficeChange) → record_at a key ≡ o → record_at b key ≡ p → record_change key o p ≡ Some change
        → changed_row a change ≡ ChangedRecord key (is_new_in a.records key)
    row-of None None change is now gives = absurd (none-some change gives)
    row-of None (Some r) change is now gives = ap (changed_row a) (sym (some_is (PutRecord r) change gives)) ∙ put-row r now
    row-of (Some old) None change is now gives =
        ap (changed_row a) (sym (some_is (DropRecord key) change gives)) ∙ ap (λ (o : Option OfficeRecord). ChangedRecord key (is_none o)) (sym is)
    row-of (Some old) (Some r) change is now gives = by (is_same_record old r) gives
      where
        by : (t : Bool) → cond t None (Some (PutRecord r)) ≡ Some change → changed_row a change ≡ ChangedRecord key (is_new_in a.records key)
        by true gives = absurd (none-some change gives)
        by false gives = ap (changed_row a) (sym (some_is (PutRecord r) change gives)) ∙ put-row r now

    unchanged : (o p : Option OfficeRecord) → record_change key o p ≡ None → o ≡ p
    unchanged None None none = refl
    unchanged None (Some r) none = absurd (none-some (PutRecord r) (sym none))
    unchanged (Some old) None none = absurd (none-some (DropRecord key) (sym none))
    unchanged (Some old) (Some r) none = by (is_same_record old r) refl none
      where
        by : (t : Bool) → is_same_record old r ≡ t → cond t None (Some (PutRecord r)) ≡ None → Some old ≡ Some r
        by true same none = ap (λ (x : OfficeRecord). Some x) (record-same old r same)
        by false other none = absurd (none-some (PutRecord r) (sym none))

    pub record-unreached : record_of a.records key ≡ record_of b.records key
    record-unreached = by (record_change key (record_at a key) (record_at b key)) refl
      where
        by : (c : Option OfficeChange) → record_change key (record_at a key) (record_at b key) ≡ c → record_at a key ≡ record_at b key
        by None none = unchanged (record_at a key) (record_at b key) none
        by (Some change) gives =
            key-of_neither key_of key_numbers one_office_key (λ k. record_change k (record_at a k) (record_at b k)) a.records b.records
            reads_change changes-unread.0 key change gives
            (ap (reads records cell) (row-of (record_at a key) (record_at b key) change refl refl gives) ∙ is_read)

  -- ---- observations

  module _ (key : ObsKey) (is_read : reads records cell (ChangedObservation key) ≡ true) where
    place-of : (o p : Option Observation) (change : OfficeChange) → observation_change key o p ≡ Some change → changed_row a change ≡ ChangedObservation key
    place-of None None change gives = absurd (none-some change gives)
    place-of None (Some now) change gives = ap (changed_row a) (sym (some_is (PutObservation key now) change gives))
    place-of (Some old) None change gives = ap (changed_row a) (sym (some_is (DropObservation key) change gives))
    place-of (Some old) (Some now) change gives = by (is_same_content old now) gives
      where
        by : (t : Bool) → cond t None (Some (PutObservation key now)) ≡ Some change → changed_row a change ≡ ChangedObservation key
        by true gives = absurd (none-some change gives)
        by false gives = ap (changed_row a) (sym (some_is (PutObservation key now) change gives))

    unmoved : (o p : Option Observation) → observation_change key o p ≡ None → o ≡ p
    unmoved None None none = refl
    unmoved None (Some now) none = absurd (none-some (PutObservation key now) (sym none))
    unmoved (Some old) None none = absurd (none-some (DropObservation key) (sym none))
    unmoved (Some old) (Some now) none = by (is_same_content old now) refl none
      where
        by : (t : Bool) → is_same_content old now ≡ t → cond t None (Some (PutObservation key now)) ≡ None → Some old ≡ Some now
        by true same none = ap (λ (x : Observation). Some x) (content-same old now same)
        by false other none = absurd (none-some (PutObservation key now) (sym none))

    -- a row is its key and its content
    row-is : (rows : List (ObsKey × Observation)) → row_at observation_rank (observation_numbers key) rows ≡ option_map (λ content. (key, content)) (option_map content_of (row_at observation_rank (observation_numbers key) rows))
    row-is rows = by (row_at observation_rank (observation_numbers key) rows) refl
      where
        by : (o : Option (ObsKey × Observation)) → row_at observation_rank (observation_numbers key) rows ≡ o → o ≡ option_map (λ content. (key, content)) (option_map content_of o)
        by None is = refl
        by (Some r) is =
            let e : r.0 ≡ key = one_observation_key r.0 key (same-is (observation_rank r) (observation_numbers key) (find-passes (λ row. is_same (observation_rank row) (observation_numbers key)) rows r is)) in
            ap (λ (k : ObsKey). Some (k, r.1)) e

    pub row-unreached : row_at observation_rank (observation_numbers key) a.observations ≡ row_at observation_rank (observation_numbers key) b.observations
    row-unreached = by (observation_change key (observation_at a key) (observation_at b key)) refl
      where
        by : (c : Option OfficeChange) → observation_change key (observation_at a key) (observation_at b key) ≡ c
            → row_at observation_rank (observation_numbers key) a.observations ≡ row_at observation_rank (observation_numbers key) b.observations
        by None none =
            row-is a.observations
            ∙ ap (option_map (λ content. (key, content))) (unmoved (observation_at a key) (observation_at b key) none)
            ∙ sym (row-is b.observations)
        by (Some change) gives =
            key-of_neither observation_key observation_numbers one_observation_key (λ k. observation_change k (observation_at a k) (observation_at b k)) a.observations b.observations
            reads_change changes-unread.1 key change gives
            (ap (reads records cell) (place-of (observation_at a key) (observation_at b key) change gives) ∙ is_read)

-- ---- what is in reach

any-either : {X : Type 0} (p q : X → Bool) (xs : List X) → list_any (λ x. p x || q x) xs ≡ (list_any p xs || list_any q xs)
any-either p q [] = refl
any-either p q (x ∷ xs) = ap (λ b. (p x || q x) || b) (any-either p q xs) ∙ sorted (p x) (q x) (list_any p xs) (list_any q xs)
  where
    sorted : (a b c d : Bool) → ((a || b) || (c || d)) ≡ ((a || c) || (b || d))
    sorted true b c d = refl
    sorted false true c d = sym (or-true c)
    sorted false false c d = refl

-- a cell is in reach if it reads a changed row in the old office or in the new one, and no other is
pub reach-is : (a b : Office) (cell : CellName) → member cell (reach a b) ≡ list_any (λ row. reads a.records cell row || reads b.records cell row) (changed_rows a b)
unfolding reach reads
reach-is a b cell =
    let rows = changed_rows a b in
    let before = flat_map (cells_reading a.records) rows in
    let after = flat_map (cells_reading b.records) rows in
    member-once cell (before ++ after)
    ∙ list_any-append (is_same_cell cell) before after
    ∙ ap (λ x. x || list_any (is_same_cell cell) after) (any-flat_map (is_same_cell cell) (cells_reading a.records) rows)
    ∙ ap (λ x. list_any (λ row. list_any (is_same_cell cell) (cells_reading a.records row)) rows || x) (any-flat_map (is_same_cell cell) (cells_reading b.records) rows)
    ∙ sym (any-either (λ row. list_any (is_same_cell cell) (cells_reading a.records row)) (λ row. list_any (is_same_cell cell) (cells_reading b.records row)) rows)

-- a cell that is not in reach reads no changed row, in neither office
pub unread : (a b : Office) (cell : CellName) → member cell (reach a b) ≡ false
    → (list_any (λ row. reads a.records cell row) (changed_rows a b) ≡ false) × (list_any (λ row. reads b.records cell row) (changed_rows a b) ≡ false)
unread a b cell out =
    or_parts _ _ (sym (any-either (λ row. reads a.records cell row) (λ row. reads b.records cell row) (changed_rows a b)) ∙ sym (reach-is a b cell) ∙ out)
