-- What the statements on the tables do.
use Rattle.std.proofs.Common.{◌≡◌, ◌⊎◌, inl, inr, ℕ, ℤ, pos, List, [], ◌∷◌, Bool, true, false, ◌&&◌, map, Option, Some, None, IsSome, Result, Ok, Err, OnOk, Equal, refl, sym, ap, ap₂, ◌∙◌}
use Rattle.std.specs.List.{list_all}
use Rattle.std.specs.Ordering.{is_eq, int_cmp, int_eq, ordering_then}
use Rattle.std.proofs.lemmas.Bool.{false≢true, and_parts, false_from_ne_true}
use Rattle.std.proofs.lemmas.Bool.Decides.{Decides-int_eq}
use Rattle.sqlite.specs.declared.types.Value.TheVariants.{Null, Int, Text}
use Rattle.sqlite.specs.Order.{Row}
use Rattle.sqlite.specs.Ops.{binary}
use Rattle.sqlite.specs.Cast.{cast_row}
use Rattle.sqlite.specs.Term.{Term, holds}
use Rattle.sqlite.specs.Tree.{rowid}
use Rattle.sqlite.specs.Query.{Query, output, output_cmp}
use Rattle.sqlite.specs.State.{State, Executes}
use Rattle.sqlite.specs.Effect.{Database}
use Rattle.sqlite_value.specs.Order.{value_cmp, column, bytes}
use Rattle.sqlite_value.proofs.OrderLemmas.{value_cmp-Int, value_cmp-Text, then-Equal}
use Rattle.sqlite_rules.specs.Edit.{id_in, next_rowid}
use Rattle.aq_rules.specs.Kept.Rows as the_rows
use Rattle.aq_rules.specs.Kept.Rows.{ObsRow2, OfOfficeRow, OfObsRow, OfLoadRow, OfSecondRow}
use Rattle.aq_rules.specs.Kept.RowChanges.{RowKey, OfficeRowKey, ObsRowKey, LoadRowKey, SecondRowKey, PutRow, row_key, is_same_row_key, put_row, drop_row}
use Rattle.aq_tables.specs.declared.reading.Table.{Table}
use Rattle.aq_tables.specs.declared.reading.Table.TheVariants.{Records, Observations, Loads, Second, Third}
use Rattle.aq_tables.specs.Forms.{table_of}
use Rattle.sqlite_sql.specs.Numeral.{fits_i64}
use Rattle.aq_tables.specs.Number.{number_at, site_in, pollutant_in, poc_in, hour_in}
use Rattle.aq_tables.specs.Batch.{DropsKey, IsNumbered, PutsRow, is_of_first, table_at}
use Rattle.aq_tables.specs.Sixteen.{PutsAll}
use Rattle.aq_tables.specs.Standing.{HasTable}
use Rattle.aq_tables.specs.Texts.{drop_text, put_text, read_text}
use Rattle.aq_tables.specs.Told.{ours_of, key_values, row_values, records, observations, loads, third, record_values, observation_values, load_values, third_values, number_of, load_stored, cell, told, HaveNot, Turns, Runs}
use Rattle.aq_tables.specs.Queries.{Shows, shown_by}
use Rattle.aq_keeper.proofs.KeyOrder.{cmp-texts}
use Rattle.aq_tables.proofs.Cells.{one_kept, two_kept, four_kept, same-texts, cast_int, cast_null, cast_cell, optional_cell}
use Rattle.aq_tables.proofs.InOrder.{order}
use Rattle.aq_tables.proofs.Numbers.{key_in, number_of_itself, numbers_in_order, parts_of, same_numbers}
use Rattle.aq_tables.proofs.ThirdPut.{one_turns}
use Rattle.aq_tables.proofs.Scans.{scan}
use Rattle.aq_tables.proofs.Turning.{IsTyped, drops, drops_none, puts, reads}
use Rattle.aq_tables.proofs.TextsMeaning.{reads_mean, read_no_listing, project_of, by_place, order_of, drops_mean, is_number, is_place, tests_of, puts_mean, terms_of}

-- ---- the tests of a DELETE are that of the key

place_tests : (site pollutant poc hour id a b c d : ℤ) (more : Row)
    → list_all (holds ((Int site ∷ Int pollutant ∷ Int poc ∷ Int hour ∷ []) ∷ (Int id ∷ Int a ∷ Int b ∷ Int c ∷ Int d ∷ more) ∷ [])) is_place ≡ is_same_row_key (ObsRowKey a b c d) (ObsRowKey site pollutant poc hour)
unfolding binary
place_tests site pollutant poc hour id a b c d more =
    four_kept (is_eq (value_cmp (Int a) (Int site))) (is_eq (value_cmp (Int b) (Int pollutant))) (is_eq (value_cmp (Int c) (Int poc))) (is_eq (value_cmp (Int d) (Int hour)))
    ∙ (λ i. is_eq (value_cmp-Int a site i) && (is_eq (value_cmp-Int b pollutant i) && (is_eq (value_cmp-Int c poc i) && (is_eq (value_cmp-Int d hour i) && true))))

and_true : (b : Bool) → (b && true) ≡ b
and_true true = refl
and_true false = refl

same_int : (a b : ℤ) → int_eq a b ≡ true → a ≡ b
same_int a b h = (Decides-int_eq a b).0 h

-- a row with a key has that key's number
number_here : (site pollutant poc hour id : ℤ) → fits_i64 id ≡ true → is_same_row_key (key_in id) (SecondRowKey site pollutant poc hour) ≡ true → number_at site pollutant poc hour ≡ Some id
number_here site pollutant poc hour id fits same =
    let a = and_parts (int_eq (site_in id) site) (int_eq (pollutant_in id) pollutant && (int_eq (poc_in id) poc && (int_eq (hour_in id) hour && true))) same in
    let b = and_parts (int_eq (pollutant_in id) pollutant) (int_eq (poc_in id) poc && (int_eq (hour_in id) hour && true)) a.1 in
    let c = and_parts (int_eq (poc_in id) poc) (int_eq (hour_in id) hour && true) b.1 in
    let d = and_parts (int_eq (hour_in id) hour) true c.1 in
    (λ i. number_at (sym (same_int (site_in id) site a.0) i) (sym (same_int (pollutant_in id) pollutant b.0) i) (sym (same_int (poc_in id) poc c.0) i) (sym (same_int (hour_in id) hour d.0) i)) ∙ number_of_itself id fits

-- NULL equals no number
null_fails : (id : ℤ) (more : Row) → list_all (holds ((Null ∷ []) ∷ (Int id ∷ more) ∷ [])) is_number ≡ false
unfolding binary
null_fails id more = refl

number_tests : (id n : ℤ) (more : Row) → list_all (holds ((Int n ∷ []) ∷ (Int id ∷ more) ∷ [])) is_number ≡ is_eq (int_cmp id n)
unfolding binary
number_tests id n more = one_kept (is_eq (value_cmp (Int id) (Int n))) ∙ and_true _ ∙ ap is_eq (value_cmp-Int id n)

third_tests : (site pollutant poc hour id : ℤ) (more : Row) → fits_i64 id ≡ true
    → list_all (holds ((cell (number_at site pollutant poc hour) ∷ []) ∷ (Int id ∷ more) ∷ [])) is_number ≡ is_same_row_key (key_in id) (SecondRowKey site pollutant poc hour)
third_tests site pollutant poc hour id more fits = go (number_at site pollutant poc hour) refl
  where
    go : (o : Option ℤ) → number_at site pollutant poc hour ≡ o → list_all (holds ((cell o ∷ []) ∷ (Int id ∷ more) ∷ [])) is_number ≡ is_same_row_key (key_in id) (SecondRowKey site pollutant poc hour)
    go None is = null_fails id more ∙ sym (false_from_ne_true _ (λ same. let two = sym is ∙ number_here site pollutant poc hour id fits same in absurd cc))
    go (Some n) is =
        let parts = parts_of site pollutant poc hour n is in
        number_tests id n more ∙ same_numbers id n ∙ (λ i. is_same_row_key (key_in id) (SecondRowKey (parts.site_is i) (parts.pollutant_is i) (parts.poc_is i) (parts.hour_is i)))

-- the test of a DELETE of a row that is stored as what a row says
stored_tests : (key : RowKey) (r : Row) → (table_at key).fits (id_in (rowid r)) ≡ true
    → let id = id_in (rowid r) in list_all (holds (key_values key ∷ (table_at key).stored id ((table_at key).says r) ∷ [])) (tests_of key) ≡ is_same_row_key (row_key ((table_at key).says r)) key
unfolding binary
stored_tests (OfficeRowKey kind key) r fits =
    two_kept (is_eq (value_cmp (Int (id_in (column r 1))) (Int kind))) (is_eq (value_cmp (Text (bytes (column r 2))) (Text key)))
    ∙ ap₂ ◌&&◌ (ap is_eq (value_cmp-Int (id_in (column r 1)) kind)) (ap is_eq (value_cmp-Text (bytes (column r 2)) key) ∙ same-texts (bytes (column r 2)) key)
stored_tests (ObsRowKey site pollutant poc hour) r fits = place_tests site pollutant poc hour (id_in (rowid r)) (id_in (column r 1)) (id_in (column r 2)) (id_in (column r 3)) (id_in (column r 4)) []
stored_tests (SecondRowKey site pollutant poc hour) r fits = third_tests site pollutant poc hour (id_in (rowid r)) [] fits
stored_tests (LoadRowKey number) r fits = one_kept (is_eq (value_cmp (Int (id_in (column r 0))) (Int number))) ∙ ap (λ o. is_eq o && true) (value_cmp-Int (id_in (column r 0)) number)

tests : (key : RowKey) (r : Row) → IsTyped (table_at key) r → (table_at key).fits (id_in (rowid r)) ≡ true → list_all (holds (key_values key ∷ r ∷ [])) (tests_of key) ≡ is_same_row_key (row_key ((table_at key).says r)) key
tests key r typed fits = ap (λ (x : Row). list_all (holds (key_values key ∷ x ∷ [])) (tests_of key)) typed ∙ stored_tests key r fits

-- ---- the order of a SELECT is that of keys

abbrev query : Table → ℕ → Query
query t tree = scan tree [] (project_of t) (order_of t)

place_alike : (tree : ℕ) (project : List Term) (i a b c d j e f g h : ℤ) →
    let q = scan tree [] project by_place in
    output_cmp q (output q ([] ∷ (Int i ∷ Int a ∷ Int b ∷ Int c ∷ Int d ∷ []) ∷ [])) (output q ([] ∷ (Int j ∷ Int e ∷ Int f ∷ Int g ∷ Int h ∷ []) ∷ []))
    ≡ ordering_then (int_cmp a e) (ordering_then (int_cmp b f) (ordering_then (int_cmp c g) (ordering_then (int_cmp d h) Equal)))
place_alike tree project i a b c d j e f g h = λ k. ordering_then (value_cmp-Int a e k) (ordering_then (value_cmp-Int b f k) (ordering_then (value_cmp-Int c g k) (ordering_then (value_cmp-Int d h k) Equal)))

stored_alike : (t : Table) (tree : ℕ) (a b : Row) → let i = id_in (rowid a) in let j = id_in (rowid b) in
    output_cmp (query t tree) (output (query t tree) ([] ∷ (ours_of t).stored i ((ours_of t).says a) ∷ [])) (output (query t tree) ([] ∷ (ours_of t).stored j ((ours_of t).says b) ∷ [])) ≡ order ((ours_of t).says a) ((ours_of t).says b)
stored_alike Records tree a b =
    ap₂ ordering_then (value_cmp-Int (id_in (column a 1)) (id_in (column b 1)))
    (then-Equal (value_cmp (Text (bytes (column a 2))) (Text (bytes (column b 2)))) ∙ value_cmp-Text (bytes (column a 2)) (bytes (column b 2)) ∙ cmp-texts (bytes (column a 2)) (bytes (column b 2)))
stored_alike Observations tree a b =
    place_alike tree (project_of Observations) (id_in (rowid a)) (id_in (column a 1)) (id_in (column a 2)) (id_in (column a 3)) (id_in (column a 4)) (id_in (rowid b)) (id_in (column b 1)) (id_in (column b 2)) (id_in (column b 3)) (id_in (column b 4))
stored_alike Loads tree a b = ap (λ o. ordering_then o Equal) (value_cmp-Int (id_in (column a 0)) (id_in (column b 0)))
stored_alike Second tree a b =
    place_alike tree (project_of Second) (id_in (rowid a)) (id_in (column a 1)) (id_in (column a 2)) (id_in (column a 3)) (id_in (column a 4)) (id_in (rowid b)) (id_in (column b 1)) (id_in (column b 2)) (id_in (column b 3)) (id_in (column b 4))
stored_alike Third tree a b =
    then-Equal (value_cmp (Int (id_in (column a 0))) (Int (id_in (column b 0)))) ∙ value_cmp-Int (id_in (column a 0)) (id_in (column b 0)) ∙ numbers_in_order (id_in (column a 0)) (id_in (column b 0))

alike : (t : Table) (tree : ℕ) (a b : Row) → IsTyped (ours_of t) a → IsTyped (ours_of t) b
    → output_cmp (query t tree) (output (query t tree) ([] ∷ a ∷ [])) (output (query t tree) ([] ∷ b ∷ [])) ≡ order ((ours_of t).says a) ((ours_of t).says b)
alike t tree a b p q =
    ap₂ (λ (x y : Row). output_cmp (query t tree) (output (query t tree) ([] ∷ x ∷ [])) (output (query t tree) ([] ∷ y ∷ []))) p q ∙ stored_alike t tree a b

shown_says : (t : Table) (tree : ℕ) (r : Row) → shown_by t (output (query t tree) ([] ∷ r ∷ [])).1 ≡ (ours_of t).says r
shown_says Records tree r = refl
shown_says Observations tree r = refl
shown_says Loads tree r = refl
shown_says Second tree r = refl
shown_says Third tree r = refl

pub row_reads : (t : Table) (db : Database) (at tree : ℕ) → HasTable (ours_of t) db at tree → (shown : List Row) → Shows (read_text t) db shown → map (shown_by t) shown ≡ told (ours_of t) (db.trees tree)
row_reads t db at tree has shown h =
    reads (ours_of t) db at tree has (read_text t) (project_of t) (order_of t) _ (shown_by t) shown (reads_mean t db.schema at tree has.stands) (read_no_listing t db.schema at tree has.stands) (shown_says t tree) (alike t tree) h

-- ---- a row is put as it is, since a cast keeps it

-- what an INSERT puts, but for a rowid that it chooses; an observation is put under its number (ThirdPut)
abbrev source : the_rows.Row → Row
source (OfLoadRow row) = load_stored row
source row = Null ∷ row_values row

abbrev IsNoSecond : the_rows.Row → Type 0
IsNoSecond (OfSecondRow row) = ⊥
IsNoSecond row = Unit {0}

stays : (row : the_rows.Row) (tree : ℕ) → IsNoSecond row → cast_row (table_of (table_at (row_key row)).form tree) (source row) ≡ source row
stays (OfOfficeRow row) tree other = rw (cast_null, cast_int row.kind)
stays (OfObsRow row) tree other = rw (cast_null, cast_int row.site, cast_int row.pollutant, cast_int row.poc, cast_int row.hour, cast_cell row.value)
stays (OfLoadRow row) tree other = rw (cast_int row.number, cast_null, cast_int row.lines, cast_int row.accepted)
stays (OfSecondRow row) tree other = absurd other

-- ---- what a statement makes that ran within a transaction

module _ (old new : State) (at tree : ℕ) where
  row_drops : (key : RowKey) (count : ℕ) → Executes (drop_text key) (key_values key) old new (Ok count) → HasTable (table_at key) old.now at tree → Turns (table_at key) (drop_row key) old.now new.now at tree
  row_drops key count h has = drops (table_at key) old new at tree has key (drop_text key) (key_values key) (tests_of key) count (drops_mean key old.now.schema at tree has.stands) (tests key) h

  row_puts : (row : the_rows.Row) (count : ℕ) → IsNoSecond row → let ours = table_at (row_key row) in
      Executes (put_text (row_key row)) (row_values row) old new (Ok count) → HasTable ours old.now at tree → HaveNot (row_key row) (told ours (old.now.trees tree)) → Turns ours (put_row row) old.now new.now at tree
  row_puts (OfOfficeRow row) count other h has none =
      puts records old new at tree has (OfOfficeRow row) (put_text (row_key (OfOfficeRow row))) (record_values row) (terms_of (row_key (OfOfficeRow row))) 4 (source (OfOfficeRow row)) (next_rowid (old.now.trees tree)) count (puts_mean (row_key (OfOfficeRow row)) old.now.schema at tree has.stands) refl (stays (OfOfficeRow row) tree tt) refl refl refl refl none h
  row_puts (OfObsRow row) count other h has none =
      puts observations old new at tree has (OfObsRow row) (put_text (row_key (OfObsRow row))) (observation_values row) (terms_of (row_key (OfObsRow row))) 8 (source (OfObsRow row)) (next_rowid (old.now.trees tree)) count (puts_mean (row_key (OfObsRow row)) old.now.schema at tree has.stands) refl (stays (OfObsRow row) tree tt) refl refl refl (λ i. OfObsRow (record row { value = optional_cell row.value i })) none h
  row_puts (OfLoadRow row) count other h has none =
      puts loads old new at tree has (OfLoadRow row) (put_text (row_key (OfLoadRow row))) (load_values row) (terms_of (row_key (OfLoadRow row))) 7 (source (OfLoadRow row)) row.number count (puts_mean (row_key (OfLoadRow row)) old.now.schema at tree has.stands) refl (stays (OfLoadRow row) tree tt) refl refl refl refl none h
  row_puts (OfSecondRow row) count other h has none = absurd other

-- ---- within a transaction

pub dropped : {X E : Type 0} (first : Bool) (key : RowKey) (r : Result X E) (old new : State) → (is_of_first key ≡ false) ⊎ (first ≡ true) → OnOk r (Runs (drop_text key) (key_values key) old new) → OnOk r (DropsKey first key old new)
dropped first key (Err e) old new some h = tt
dropped first key (Ok x) old new some (count, ran) = record {
  was_open = ran.1.was_open;
  mode = rw ran.1.mode;
  committed = ran.1.committed_is;
  turns = λ _ at tree has. row_drops old new at tree key count ran.0 has;
  idle = λ of_first none. neither some of_first none;
}
  where
    neither : {X : Type 0} → (is_of_first key ≡ false) ⊎ (first ≡ true) → is_of_first key ≡ true → first ≡ false → X
    neither (inl other) of_first none = absurd (false≢true (sym other ∙ of_first))
    neither (inr known) of_first none = absurd (false≢true (sym none ∙ known))

-- the statements are the same for each key
abbrev any_third : RowKey
any_third = SecondRowKey (pos 0) (pos 0) (pos 0) (pos 0)

-- where the table that version 1 kept is missing no row of `observations3` is dropped
pub dropped_none : {X E : Type 0} (key : RowKey) (r : Result X E) (old new : State) → is_of_first key ≡ true → OnOk r (Runs (drop_text any_third) (Null ∷ []) old new) → OnOk r (DropsKey false key old new)
dropped_none key (Err e) old new of_first h = tt
dropped_none key (Ok x) old new of_first (count, ran) = record {
  was_open = ran.1.was_open;
  mode = rw ran.1.mode;
  committed = ran.1.committed_is;
  turns = λ some at tree has. none some;
  idle = λ _ _ at tree has. drops_none third old new at tree has (drop_text any_third) (Null ∷ []) is_number count (drops_mean any_third old.now.schema at tree has.stands) (fails) ran.0;
}
  where
    none : {X : Type 0} → (is_of_first key ≡ false) ⊎ (false ≡ true) → X
    none (inl other) = absurd (false≢true (sym other ∙ of_first))
    none (inr known) = absurd (false≢true known)

    fails : (r : Row) → IsTyped third r → list_all (holds ((Null ∷ []) ∷ r ∷ [])) is_number ≡ false
    fails r typed = ap (λ (x : Row). list_all (holds ((Null ∷ []) ∷ x ∷ [])) is_number) typed ∙ null_fails (id_in (rowid r)) []

pub put : {X E : Type 0} (first : Bool) (row : the_rows.Row) (r : Result X E) (old new : State) → IsNoSecond row → (is_of_first (row_key row) ≡ true → first ≡ true) → OnOk r (Runs (put_text (row_key row)) (row_values row) old new) → OnOk r (PutsRow first row old new)
put first row (Err e) old new other there h = tt
put first row (Ok x) old new other there (count, ran) = record {
  there = there;
  numbered = no_number row other;
  puts = record {
    was_open = ran.1.was_open;
    mode = rw ran.1.mode;
    committed = ran.1.committed_is;
    turns = λ at tree has free. row_puts old new at tree row count other ran.0 has free;
  };
}
  where
    no_number : (row : the_rows.Row) → IsNoSecond row → IsNumbered (PutRow row)
    no_number (OfOfficeRow row) other = tt
    no_number (OfObsRow row) other = tt
    no_number (OfLoadRow row) other = tt
    no_number (OfSecondRow row) other = absurd other

-- an observation that was put by itself
pub put_alone : {X E : Type 0} (row : ObsRow2) (r : Result X E) (old new : State) → IsSome (number_of row) → OnOk r (Runs (put_text (row_key (OfSecondRow row))) (third_values row) old new) → OnOk r (PutsAll (row ∷ []) old new)
put_alone row (Err e) old new some h = tt
put_alone row (Ok x) old new some (count, ran) =
    record { was_open = ran.1.was_open; mode = rw ran.1.mode; committed = ran.1.committed_is; numbered = (some, tt); puts = λ at tree has. one_turns old new at tree has row some count ran.0 }

-- and where none has its key
pub put_second : {X E : Type 0} (first : Bool) (row : ObsRow2) (r : Result X E) (old new : State) → OnOk r (PutsAll (row ∷ []) old new) → OnOk r (PutsRow first (OfSecondRow row) old new)
put_second first row (Err e) old new h = tt
put_second first row (Ok x) old new h = record {
  there = λ is. absurd (false≢true is);
  numbered = h.numbered.0;
  puts = record { was_open = h.was_open; mode = h.mode; committed = h.committed; turns = λ at tree has _. (h.puts at tree has).turns };
}
