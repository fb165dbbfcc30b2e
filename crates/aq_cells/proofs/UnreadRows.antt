-- If no changed row passes a test, the same record stands in both offices under each key whose changed row would pass it.
use Rattle.std.proofs.Common.{◌≡◌, Bool, true, false, cond, ◌&&◌, ◌||◌, List, [], ◌∷◌, ◌++◌, map, refl, sym, ap, ◌∙◌, subst}
use Rattle.std.specs.Prelude.{Option, Some, None, is_none, filter, find}
use Rattle.std.specs.List.{list_any, filter_map, cons_option}
use Rattle.std.proofs.Math.Bool.{or-true}
use Rattle.std.proofs.lemmas.Bool.{false≢true, or_parts}
use Rattle.std.proofs.lemmas.Option.{none-some}
use Rattle.std.proofs.lemmas.List.Folds.{list_any-append}
use Rattle.aq_base.specs.declared.office.OfficeRecord.{OfficeRecord}
use Rattle.aq_base.specs.declared.office.OfficeKey.{OfficeKey}
use Rattle.aq_rules.specs.Kept.Cells.{CellName}
use Rattle.aq_rules.specs.Kept.Reach.{ChangedRow, ChangedRecord, changed_row, changed_rows, loads_not_in, reads, reads_one}
use Rattle.aq_rules.specs.Office.Load.{OfficeChange, PutRecord, DropRecord, is_same_record, keys_of_either, observation_changes, record_change, record_changes}
use Rattle.aq_rules.specs.Office.Office.{Office, is_same, key_numbers, key_of, record_at, record_rank, row_at}
use Rattle.aq_rules.specs.Office.Questions.{record_of}
use Rattle.aq_rules.proofs.Changes.{none-of_first, none-of_second}
use Rattle.aq_rules.proofs.Found.{find-passes, some_is}
use Rattle.aq_rules.proofs.Lookups.{same-is}
use Rattle.aq_rules.proofs.OneKey.{one_office_key}
use Rattle.aq_rules.proofs.SameRows.{record-same}
use Rattle.aq_rules.proofs.Unreached.{is_new_in}

-- ---- tests of lists

any-map : {X Y : Type 0} (p : Y → Bool) (f : X → Y) (xs : List X) → list_any p (map f xs) ≡ list_any (λ x. p (f x)) xs
any-map p f [] = refl
any-map p f (x ∷ xs) = ap (λ b. p (f x) || b) (any-map p f xs)

any-kept : {X : Type 0} (p q : X → Bool) (xs : List X) → list_any p (filter q xs) ≡ list_any (λ x. q x && p x) xs
any-kept p q [] = refl
any-kept p q (x ∷ xs) = by (q x) (any-kept p q xs)
  where
    by : (b : Bool) → list_any p (filter q xs) ≡ list_any (λ x. q x && p x) xs
        → list_any p (cond b (x ∷ filter q xs) (filter q xs)) ≡ ((b && p x) || list_any (λ x. q x && p x) xs)
    by true rest = ap (λ b. p x || b) rest
    by false rest = rest

none-of_both : {X : Type 0} (p : X → Bool) (xs ys : List X) → list_any p (xs ++ ys) ≡ false → (list_any p xs ≡ false) × (list_any p ys ≡ false)
none-of_both p xs ys none = or_parts _ _ (sym (list_any-append p xs ys) ∙ none)

-- what a word gives of an item that is found passes a test, so one of all that it gives does
any-given : {X Y : Type 0} (at : X → Bool) (word : X → Option Y) (p : Y → Bool) (xs : List X) (x : X) (y : Y) → find at xs ≡ Some x → word x ≡ Some y → p y ≡ true
    → list_any p (filter_map word xs) ≡ true
any-given at word p [] x y found gives passes = absurd (none-some x found)
any-given {Y = Y} at word p (z ∷ xs) x y found gives passes = by (at z) (λ later. any-given at word p xs x y later gives passes) found
  where
    here : (o : Option Y) → o ≡ Some y → list_any p (cons_option o (filter_map word xs)) ≡ true
    here None e = absurd (none-some y e)
    here (Some w) e = rw (subst (λ v. p v ≡ true) (sym (some_is w y e)) passes) refl

    later : (o : Option Y) → list_any p (filter_map word xs) ≡ true → list_any p (cons_option o (filter_map word xs)) ≡ true
    later None any = any
    later (Some w) any = rw any (or-true (p w))

    by : (b : Bool) → (find at xs ≡ Some x → list_any p (filter_map word xs) ≡ true) → cond b (Some z) (find at xs) ≡ Some x → list_any p (cons_option (word z) (filter_map word xs)) ≡ true
    by true rest found = here (word z) (ap word (some_is z x found) ∙ gives)
    by false rest found = later (word z) (rest found)

-- ---- the change of a key

module _ (a b : Office) where
  abbrev change_of : OfficeKey → Option OfficeChange
  change_of key = record_change key (record_at a key) (record_at b key)

  abbrev all_keys : List OfficeKey
  all_keys = keys_of_either key_numbers (map key_of a.records) (map key_of b.records)

  no-row : (key : OfficeKey) (rows : List OfficeRecord) → row_at key_numbers (key_numbers key) (map key_of rows) ≡ None → record_of rows key ≡ None
  no-row key [] none = refl
  no-row key (r ∷ rows) none = by (is_same (key_numbers (key_of r)) (key_numbers key)) none (no-row key rows)
    where
      by : (t : Bool) → cond t (Some (key_of r)) (row_at key_numbers (key_numbers key) (map key_of rows)) ≡ None
          → (row_at key_numbers (key_numbers key) (map key_of rows) ≡ None → record_of rows key ≡ None) → cond t (Some r) (record_of rows key) ≡ None
      by true none rest = absurd (none-some (key_of r) (sym none))
      by false none rest = rest none

  module _ (key : OfficeKey) where
    -- the changed row of the key's change
    abbrev row : ChangedRow
    row = ChangedRecord key (is_new_in a.records key)

    put-row : (r : OfficeRecord) → record_at b key ≡ Some r → changed_row a (PutRecord r) ≡ row
    put-row r now =
        ap (λ k. ChangedRecord k (is_none (record_at a k)))
        (one_office_key (key_of r) key (same-is (record_rank r) (key_numbers key) (find-passes (λ s. is_same (record_rank s) (key_numbers key)) b.records r now)))

    row-of : (o p : Option OfficeRecord) (change : OfficeChange) → record_at a key ≡ o → record_at b key ≡ p → record_change key o p ≡ Some change → changed_row a change ≡ row
    row-of None None change is now gives = absurd (none-some change gives)
    row-of None (Some r) change is now gives = ap (changed_row a) (sym (some_is (PutRecord r) change gives)) ∙ put-row r now
    row-of (Some old) None change is now gives =
        ap (changed_row a) (sym (some_is (DropRecord key) change gives)) ∙ ap (λ (o : Option OfficeRecord). ChangedRecord key (is_none o)) (sym is)
    row-of (Some old) (Some r) change is now gives = by (is_same_record old r) gives
      where
        by : (t : Bool) → cond t None (Some (PutRecord r)) ≡ Some change → changed_row a change ≡ row
        by true gives = absurd (none-some change gives)
        by false gives = ap (changed_row a) (sym (some_is (PutRecord r) change gives)) ∙ put-row r now

    unchanged : (o p : Option OfficeRecord) → record_change key o p ≡ None → o ≡ p
    unchanged None None none = refl
    unchanged None (Some r) none = absurd (none-some (PutRecord r) (sym none))
    unchanged (Some old) None none = absurd (none-some (DropRecord key) (sym none))
    unchanged (Some old) (Some r) none = by (is_same_record old r) refl none
      where
        by : (t : Bool) → is_same_record old r ≡ t → cond t None (Some (PutRecord r)) ≡ None → Some old ≡ Some r
        by true same none = ap (λ (x : OfficeRecord). Some x) (record-same old r same)
        by false other none = absurd (none-some (PutRecord r) (sym none))

  -- ---- no changed row passes

  module _ (test : ChangedRow → Bool) (none : list_any test (changed_rows a b) ≡ false) where
    changes-none : list_any (λ change. test (changed_row a change)) (record_changes a b) ≡ false
    unfolding changed_rows
    changes-none =
        let changes = record_changes a b ++ observation_changes a b in
        let rows = none-of_both test (map (changed_row a) changes) (loads_not_in a b) (none-of_both test (map (changed_row a) changes ++ loads_not_in a b) (loads_not_in b a) none).0 in
        (none-of_both (λ change. test (changed_row a change)) (record_changes a b) (observation_changes a b) (sym (any-map test (changed_row a) changes) ∙ rows.0)).0

    pub record-alike : (key : OfficeKey) → test (ChangedRecord key (is_new_in a.records key)) ≡ true → record_of a.records key ≡ record_of b.records key
    record-alike key passes = by (change_of key) refl
      where
        in-keys : (change : OfficeChange) → change_of key ≡ Some change → (o : Option OfficeKey) → row_at key_numbers (key_numbers key) all_keys ≡ o → record_of a.records key ≡ record_of b.records key
        in-keys change gives None is =
            no-row key a.records (none-of_first key_numbers (key_numbers key) (map key_of a.records) (map key_of b.records) is)
            ∙ sym (no-row key b.records (none-of_second key_numbers (key_numbers key) (map key_of a.records) (map key_of b.records) is))
        in-keys change gives (Some other) is =
            let same : other ≡ key = one_office_key other key (same-is (key_numbers other) (key_numbers key) (find-passes (λ k. is_same (key_numbers k) (key_numbers key)) all_keys other is)) in
            let here : test (changed_row a change) ≡ true = ap test (row-of key (record_at a key) (record_at b key) change refl refl gives) ∙ passes in
            absurd
            (false≢true
            (sym changes-none
            ∙ any-given (λ k. is_same (key_numbers k) (key_numbers key)) change_of (λ c. test (changed_row a c)) all_keys other change is (ap change_of same ∙ gives) here))

        by : (c : Option OfficeChange) → change_of key ≡ c → record_of a.records key ≡ record_of b.records key
        by None stays = unchanged key (record_at a key) (record_at b key) stays
        by (Some change) gives = in-keys change gives (row_at key_numbers (key_numbers key) all_keys) refl

  -- ---- a cell reads no changed row of a kind

  module _ (cell : CellName) (kind : ChangedRow → Bool) (unread : reads_one a b cell (filter kind (changed_rows a b)) ≡ false) where
    abbrev is_read : ChangedRow → Bool
    is_read changed = reads a.records cell changed || reads b.records cell changed

    -- under each key of the kind that it reads in the old office the same stands in both
    pub kind-alike : (key : OfficeKey) → kind (ChangedRecord key (is_new_in a.records key)) ≡ true → reads a.records cell (ChangedRecord key (is_new_in a.records key)) ≡ true
        → record_of a.records key ≡ record_of b.records key
    kind-alike key of_kind here =
        record-alike (λ changed. kind changed && is_read changed) (sym (any-kept is_read kind (changed_rows a b)) ∙ unread) key
        (λ i. both (of_kind i) (here i))
      where
        both : Bool → Bool → Bool
        both k r = k && (r || reads b.records cell (ChangedRecord key (is_new_in a.records key)))
