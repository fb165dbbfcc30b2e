-- What an INSERT of rows does to `observations3`: each row is put, one after the other, under the number of its key.
use Rattle.std.proofs.Common.{◌≡◌, ℕ, zero, suc, ℤ, ◌+◌, ◌/◌, List, [], ◌∷◌, ◌++◌, length, map, true, Option, Some, None, IsSome, Ok, refl, sym, ap, ap₂, subst, ◌∙◌, append-nil, arith}
use Rattle.std.specs.List.{flat_map, range_with_len, AllByRecursion}
use Rattle.std.proofs.lemmas.Bool.{and_parts, not-true}
use Rattle.std.proofs.lemmas.List.{length-map}
use Rattle.std.proofs.lemmas.List.Sorted.{IsPermutation-sym}
use Rattle.sqlite.specs.declared.types.Value.TheVariants.{Null}
use Rattle.sqlite.specs.Order.{Row}
use Rattle.sqlite.specs.Term.{Term, lit, col}
use Rattle.sqlite.specs.Tree.{rowid, put_row as put_stored}
use Rattle.sqlite.specs.Command.TheVariants.{Insert}
use Rattle.sqlite.specs.Source.TheVariants.{Values}
use Rattle.sqlite.specs.Rowids.TheVariants.{Chosen}
use Rattle.sqlite.specs.Cast.{cast_row}
use Rattle.sqlite.specs.Effect.{value_rows}
use Rattle.sqlite.specs.State.{State, Executes, ExecutesInside}
use Rattle.sqlite.specs.Values.{bound}
use Rattle.sqlite_value.specs.declared.value.ValueRef.{ValueRef}
use Rattle.sqlite_value.specs.Order.{column}
use Rattle.sqlite_trees.specs.View.{is_int}
use Rattle.sqlite_trees.proofs.TreeLemmas.{all-put_row}
use Rattle.sqlite_rules.specs.Edit.{are_fresh, numbered, put_all}
use Rattle.sqlite_keyed.proofs.ListLemmas.{all_both, map-map, map_same, map-flat_map, flat_map-map}
use Rattle.sqlite_tied.specs.Compute.{everything}
use Rattle.aq_rules.specs.Kept.Rows as the_rows
use Rattle.aq_rules.specs.Kept.Rows.{ObsRow2, OfSecondRow}
use Rattle.aq_rules.specs.Kept.RowChanges.{row_key, put_row, with_row_changes}
use Rattle.aq_tables.specs.Forms.{table_of, third_form}
use Rattle.aq_tables.specs.Standing.{IsStored, HasTable, HaveOtherRowids, HaveOtherKeys, Stands}
use Rattle.aq_tables.specs.Sixteen.{AreNumbered, PutsAll, PutsThird, put_sixteen, puts_of}
use Rattle.aq_tables.specs.Texts.{put_text}
use Rattle.aq_tables.specs.Told.{told, number_of, third, third_stored, third_values}
use Rattle.aq_tables.proofs.Cells.{cast_null, cast_cell, optional_cell}
use Rattle.aq_tables.proofs.Numbers.{HasParts, parts_of}
use Rattle.aq_tables.proofs.OurTables.{other_thirds}
use Rattle.aq_tables.proofs.Parsing.{Means}
use Rattle.aq_tables.proofs.Taking.{other_rowids}
use Rattle.aq_tables.proofs.TextsMeaning.{puts_mean}
use Rattle.aq_tables.proofs.Turning.{IsTyped, inserts, other_ids, other_keys, pairs-permute, told-put, tree-permutes}
use Rattle.aq_tables.proofs.WriteMeaning.{IsPutText, put_means}

-- ---- one row

-- a row that is stored under the number of its key says that row
says_third : (number : ℤ) (row : ObsRow2) → HasParts row.site row.pollutant row.poc row.hour number → third.says (third_stored number row) ≡ OfSecondRow row
says_third number row parts = λ i. OfSecondRow (record row { site = parts.site_is i; pollutant = parts.pollutant_is i; poc = parts.poc_is i; hour = parts.hour_is i; value = optional_cell row.value i; method = optional_cell row.method i })

-- a row put into a tree of stored rows where none has its number
record IsPut (before : List Row) (row : ObsRow2) (number : ℤ) : Type 0 where
  stored : IsStored third (put_stored (third_stored number row) before)
  told_is : told third (put_stored (third_stored number row) before) ≡ put_row (OfSecondRow row) (told third before)

stored_put : (before : List Row) (row : ObsRow2) (number : ℤ) → IsStored third before → number_of row ≡ Some number → AllByRecursion (HaveOtherRowids (third_stored number row)) before → IsPut before row number
stored_put before row number stored is free =
    let x = third_stored number row in
    let after = put_stored x before in
    let parts = parts_of row.site row.pollutant row.poc row.hour number is in
    let says = says_third number row parts in
    let same = IsPermutation-sym _ _ (tree-permutes x before free) in
    let apart : AllByRecursion (λ r. HaveOtherKeys (third.says x) (third.says r)) before =
    all_both (λ r. is_int (rowid r) ≡ true) (HaveOtherRowids x) (λ r. HaveOtherKeys (third.says x) (third.says r)) (λ r int other. other_thirds x r refl int other) before stored.ints free in
    let typed : IsTyped third x = ap (third.stored number) (sym says) in
    record {
      stored = record {
        ints = all-put_row _ x before refl stored.ints;
        fit = all-put_row _ x before parts.fits stored.fit;
        apart = pairs-permute HaveOtherRowids other_rowids (x ∷ before) after same (free, stored.apart);
        typed = all-put_row _ x before typed stored.typed;
        keys = pairs-permute _ (other_keys third) (x ∷ before) after same (apart, stored.keys);
      };
      told_is = told-put third x before free (apart, stored.keys) ∙ ap (λ (s : the_rows.Row). put_row s (told third before)) says;
    }

-- ---- several rows

-- what an INSERT puts of a row
abbrev pub put_of : ObsRow2 → Row
put_of row = column (third_values row) 0 ∷ Null ∷ column (third_values row) 1 ∷ column (third_values row) 2 ∷ column (third_values row) 3 ∷ column (third_values row) 4 ∷ []

abbrev pub sources : List ObsRow2 → List Row
sources = map put_of

record ArePut (before : List Row) (rows : List ObsRow2) : Type 0 where
  stored : IsStored third (put_all before (numbered Chosen before (sources rows)))
  told_is : told third (put_all before (numbered Chosen before (sources rows))) ≡ with_row_changes (told third before) (puts_of rows)

as_put : (before : List Row) (rows : List ObsRow2) → IsStored third (put_all before (numbered Chosen before (sources rows))) × (told third (put_all before (numbered Chosen before (sources rows))) ≡ with_row_changes (told third before) (puts_of rows)) → ArePut before rows
as_put before rows h = record { stored = h.0; told_is = h.1 }

are_put : (before : List Row) (rows : List ObsRow2) → IsStored third before → AreNumbered rows → are_fresh before (numbered Chosen before (sources rows)) ≡ true → ArePut before rows
are_put before [] stored have fresh = record { stored = stored; told_is = refl }
are_put before (row ∷ rows) stored have fresh = go (number_of row) refl have.0 (λ after stored fresh. are_put after rows stored have.1 fresh)
  where
    go : (o : Option ℤ) → number_of row ≡ o → IsSome o → ((after : List Row) → IsStored third after → are_fresh after (numbered Chosen after (sources rows)) ≡ true → ArePut after rows) → ArePut before (row ∷ rows)
    go None is some others = absurd cc
    go (Some number) is some others =
        let x = third_stored number row in
        let made : put_of row ≡ x = rw is refl in
        let fresh_here : are_fresh before (numbered Chosen before (x ∷ sources rows)) ≡ true = subst (λ (r : Row). are_fresh before (numbered Chosen before (r ∷ sources rows)) ≡ true) made fresh in
        let parts = and_parts _ _ fresh_here in
        let one = stored_put before row number stored is (other_ids x before (not-true _ parts.0)) in
        let more = others (put_stored x before) one.stored parts.1 in
        as_put before (row ∷ rows)
        (subst (λ (r : Row). IsStored third (put_all before (numbered Chosen before (r ∷ sources rows))) × (told third (put_all before (numbered Chosen before (r ∷ sources rows))) ≡ with_row_changes (told third before) (puts_of (row ∷ rows)))) (sym made)
        (more.stored, more.told_is ∙ ap (λ (l : List the_rows.Row). with_row_changes l (puts_of rows)) one.told_is))

-- ---- the terms of a statement

-- the terms of so many rows, whose values are the parameters from a place on
abbrev pub terms_from : ℕ → ℕ → List Term
terms_from at zero = []
terms_from at (suc count) = col 0 (at + 0) ∷ lit Null ∷ map (λ k. col 0 (at + k)) (range_with_len 1 4) ++ terms_from (at + 5) count

shown_from : (params : Row) (at : ℕ) (rows : List ObsRow2) → ((k : ℕ) → column params (at + k) ≡ column (flat_map third_values rows) k) → value_rows params 6 (length rows) (terms_from at (length rows)) ≡ sources rows
shown_from params at [] is = refl
shown_from params at (row ∷ rows) is =
    λ i. (is 0 i ∷ Null ∷ is 1 i ∷ is 2 i ∷ is 3 i ∷ is 4 i ∷ [])
    ∷ shown_from params (at + 5) rows (λ k. let past = suc (suc (suc (suc (suc k)))) in let e : at + 5 + k ≡ at + past = omega arith in ap (column params) e ∙ is past) i

stays : (row : ObsRow2) (tree : ℕ) → cast_row (table_of third_form tree) (put_of row) ≡ put_of row
stays row tree = rw (cast_cell (number_of row), cast_null, cast_cell row.value, cast_cell row.method) refl

module _ (old new : State) (at tree : ℕ) (has : HasTable third old.now at tree) (rows : List ObsRow2) (have : AreNumbered rows) where
  abbrev before : List Row
  before = old.now.trees tree

  -- by a text that puts so many rows
  turns_by : (text : List ℕ) (params : Row) (terms : List Term) (count : ℕ) → Means old.now.schema text (Insert at (Values terms 6)) → value_rows (params ++ []) 6 (length terms / 6) terms ≡ sources rows
      → Executes text params old new (Ok count) → PutsThird rows old.now new.now at tree
  turns_by text params terms count means shown h =
      let kept = map-map _ _ rows ∙ map_same _ _ (λ row. stays row tree) rows in
      let it = inserts third old new at tree has text params terms 6 (sources rows) count means shown kept h in
      let put = are_put before rows has.stored have it.fresh in
      record {
        turns = record {
          schema = it.schema;
          has = record { stands = subst (λ s. Stands s third_form at tree) (sym it.schema) has.stands; stored = subst (IsStored third) (sym it.left) put.stored };
          told_is = ap (told third) it.left ∙ put.told_is;
          others = it.others;
          sound = λ _. it.sound;
        };
        others = it.spared;
      }

-- ---- one row, and sixteen

is_sixteen : IsPutText third_form put_sixteen (terms_from 0 16) 6
unfolding everything
is_sixteen = record { reads = refl; statement = refl; formats = refl; new = λ schema tree. refl }

pub one_turns : (old new : State) (at tree : ℕ) → HasTable third old.now at tree → (row : ObsRow2) → IsSome (number_of row) → (count : ℕ) → Executes (put_text (row_key (OfSecondRow row))) (third_values row) old new (Ok count)
    → PutsThird (row ∷ []) old.now new.now at tree
one_turns old new at tree has row some count h =
    turns_by old new at tree has (row ∷ []) (some, tt) (put_text (row_key (OfSecondRow row))) (third_values row) (terms_from 0 1) count (puts_mean (row_key (OfSecondRow row)) old.now.schema at tree has.stands) refl h

pub sixteen_turns : (old new : State) (at tree : ℕ) → HasTable third old.now at tree → (rows : List ObsRow2) → AreNumbered rows → length rows ≡ 16 → (count : ℕ) → Executes put_sixteen (flat_map third_values rows) old new (Ok count)
    → PutsThird rows old.now new.now at tree
sixteen_turns old new at tree has rows have sixteen count h =
    let params = flat_map third_values rows in
    let shown : value_rows (params ++ []) 6 16 (terms_from 0 16) ≡ sources rows =
    subst (λ n. value_rows (params ++ []) 6 n (terms_from 0 n) ≡ sources rows) sixteen (shown_from (params ++ []) 0 rows (λ k. let e : 0 + k ≡ k = omega arith in ap₂ column (append-nil params) e)) in
    turns_by old new at tree has rows have put_sixteen params (terms_from 0 16) count (put_means third_form put_sixteen (terms_from 0 16) 6 is_sixteen old.now.schema at tree has.stands) shown h

-- the values come in pieces, one for each row
pub flattened : (values : List (List ValueRef)) (rows : List ObsRow2) → map bound values ≡ map third_values rows → bound (flat_map (λ x. x) values) ≡ flat_map third_values rows
flattened values rows are = map-flat_map _ (λ x. x) values ∙ sym (flat_map-map (λ x. x) bound values) ∙ ap (flat_map (λ x. x)) are ∙ flat_map-map (λ x. x) third_values rows

-- of sixteen
pub sixteen_put : (old new : State) (values : List (List ValueRef)) (rows : List ObsRow2) (count : ℕ) → AreNumbered rows → length values ≡ 16 → map bound values ≡ map third_values rows
    → ExecutesInside 0 put_sixteen (bound (flat_map (λ x. x) values)) old new (Ok count) → PutsAll rows old new
sixteen_put old new values rows count have sixteen are ran =
    let all = flattened values rows are in
    let many : length rows ≡ 16 = sym (length-map rows third_values) ∙ ap length (sym are) ∙ length-map values bound ∙ sixteen in
    let its = subst (λ (params : Row). Executes put_sixteen params old new (Ok count)) all ran.0 in
    record {
      was_open = ran.1.was_open;
      mode = rw ran.1.mode;
      committed = ran.1.committed_is;
      numbered = have;
      puts = λ at tree has. sixteen_turns old new at tree has rows have many count its;
    }
