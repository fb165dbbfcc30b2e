-- What a DELETE, an INSERT and a SELECT are over any table of ours: how they change what it says, and how they show it.
use Rattle.std.proofs.Common.{◌≡◌, ◌≢◌, ◌/◌, ℕ, ℤ, List, [], ◌∷◌, length, map, filter, Bool, true, false, not, ◌&&◌, ◌||◌, cond, Some, Ok, refl, sym, ap, ap₂, subst, ◌∙◌, slice_get, IsPermutation, Ordering, Less, Equal, Greater, is_lt, is_gt, is_eq, Result, Err}
use Rattle.std.specs.List.{list_all, AllByRecursion}
use Rattle.std.specs.Ordering.{match_ordering}
use Rattle.std.proofs.lemmas.Bool.{false≢true}
use Rattle.std.proofs.lemmas.List.Sorted.{IsPermutation-refl, IsPermutation-sym, IsPermutation-cons, IsPermutation-trans, IsPermutation-middle, IsPermutation-map, All-permutation}
use Rattle.std.proofs.lemmas.List.Elements.{recursion_from_All, All-from_recursion}
use Rattle.sqlite.specs.declared.types.Value.TheVariants.{Int}
use Rattle.sqlite.specs.Order.{Row}
use Rattle.sqlite.specs.Table.{Table}
use Rattle.sqlite.specs.Term.{Term, col, holds}
use Rattle.sqlite.specs.Tree.{rowid, put_row as put_stored}
use Rattle.sqlite.specs.Command.TheVariants.{Delete, Insert, Select}
use Rattle.sqlite.specs.Source.TheVariants.{Values}
use Rattle.sqlite.specs.Rowids.TheVariants.{Chosen}
use Rattle.sqlite.specs.Listing.{understood, reads_listing}
use Rattle.sqlite.specs.Query.{Output, output, output_cmp}
use Rattle.sqlite.specs.Cast.{cast_row}
use Rattle.sqlite.specs.Effect.{Database, IsDatabase, Reads, value_rows}
use Rattle.sqlite.specs.Rows.{stamped}
use Rattle.sqlite.specs.State.{State, Executes}
use Rattle.sqlite.proofs.Callers.{command_of, IsPlain, runs_as}
use Rattle.sqlite_resolve.specs.declared.compiled.Compiled.{Compiled}
use Rattle.sqlite_resolve.specs.declared.error.CompileError.{CompileError}
use Rattle.aq_tables.specs.Queries.{Shows}
use Rattle.sqlite_value.specs.Order.{value_cmp}
use Rattle.sqlite_value.specs.declared.keys.Key.{Key}
use Rattle.sqlite_trees.specs.Tree.{IsAscending}
use Rattle.sqlite_trees.specs.View.{is_int}
use Rattle.sqlite_trees.proofs.TreeLemmas.{all-put_row}
use Rattle.sqlite_schema.specs.declared.schema.Keys.TheVariants.{Enforced}
use Rattle.sqlite_rules.specs.Edit.{Edit, edit_of, id_in, is_taken, are_fresh, with_rowid, numbered, put_all}
use Rattle.sqlite_rules.specs.Action as action
use Rattle.sqlite_sql.proofs.QueryLemmas.{output_cmp_total}
use Rattle.sqlite_keyed.specs.Lists.{insert_sorted, sort_by}
use Rattle.sqlite_keyed.proofs.SortLemmas.{sorted_is-sort_by, sort_by-map}
use Rattle.sqlite_keyed.proofs.ListLemmas.{along_permutation, all_unmap, map-map, filter-map, all_weaker, all_both, all-filter, ascending-map, ascending-filter}
use Rattle.aq_keeper.proofs.KeyOrder.{before_key, same_key}
use Rattle.aq_rules.specs.Kept.Rows as the_rows
use Rattle.aq_rules.specs.Kept.RowChanges.{RowKey, row_key, is_same_row_key, put_row, drop_row}
use Rattle.aq_tables.specs.Forms.{table_of}
use Rattle.aq_tables.specs.Standing.{Ours, IsChildless, Stands, IsStored, HasTable, HaveOtherRowids, HaveOtherKeys}
use Rattle.aq_tables.specs.Sixteen.{KeepsOthers}
use Rattle.aq_tables.specs.Told.{in_order, told, HaveNot, Turns}
use Rattle.aq_tables.proofs.InOrder.{order, same-flip, in_order_alike, drop-in_order, have_not}
use Rattle.aq_tables.proofs.Statements.{deleted_by, inserted_by}
use Rattle.aq_tables.proofs.Actions.{own_edit, others_keep, inserts_keep}
use Rattle.aq_tables.proofs.Parsing.{Means}
use Rattle.aq_tables.proofs.Scans.{scan, scanned}
use Rattle.aq_tables.proofs.Taking.{other_rowids, taken}

-- ---- a row put into a tree

pub other_ids : (new : Row) (rows : List Row) → is_taken rows new ≡ false → AllByRecursion (HaveOtherRowids new) rows
other_ids new [] free = tt
other_ids new (r ∷ rows) free = go (is_eq (value_cmp (rowid r) (rowid new))) refl free (other_ids new rows)
  where
    go : (b : Bool) → is_eq (value_cmp (rowid r) (rowid new)) ≡ b → (b || is_taken rows new) ≡ false → (is_taken rows new ≡ false → AllByRecursion (HaveOtherRowids new) rows) → HaveOtherRowids new r × AllByRecursion (HaveOtherRowids new) rows
    go true is h more = absurd (false≢true (sym h))
    go false is h more = (other_rowids r new is, more h)

pub tree-permutes : (new : Row) (rows : List Row) → AllByRecursion (HaveOtherRowids new) rows → IsPermutation (put_stored new rows) (new ∷ rows)
tree-permutes new [] apart = IsPermutation-refl _
tree-permutes new (r ∷ rows) apart = go (value_cmp (rowid r) (rowid new)) (other_rowids new r apart.0) (tree-permutes new rows apart.1)
  where
    go : (o : Ordering) → is_eq o ≡ false → IsPermutation (put_stored new rows) (new ∷ rows) → IsPermutation (match_ordering o (r ∷ put_stored new rows) (new ∷ rows) (new ∷ r ∷ rows)) (new ∷ r ∷ rows)
    go Less h more = IsPermutation-trans _ _ _ (IsPermutation-cons r _ _ more) (IsPermutation-middle (r ∷ []) new rows)
    go Equal h more = absurd (false≢true (sym h))
    go Greater h more = IsPermutation-refl _

-- two of any rows are in a relation that goes both ways, whatever order they come in
pub pairs-permute : (R : Row → Row → Type 0) → ((a b : Row) → R a b → R b a) → (xs ys : List Row) → IsPermutation xs ys → IsAscending R xs → IsAscending R ys
pairs-permute R turn xs ys same up = (along_permutation (λ xs ys. IsPermutation xs ys × (IsAscending R xs → IsAscending R ys))
    (λ xs. (IsPermutation-refl xs, λ up. up))
    (λ x xs ys h. (IsPermutation-cons x xs ys h.0, λ up. (recursion_from_All (R x) ys (All-permutation (R x) xs ys h.0 (All-from_recursion (R x) xs up.0)), h.1 up.1)))
    (λ x y xs. (IsPermutation-middle (x ∷ []) y xs, λ up. ((turn x y up.0.0, up.1.0), (up.0.1, up.1.1))))
    (λ xs ys zs h k. (IsPermutation-trans xs ys zs h.0 k.0, λ up. k.1 (h.1 up)))
    xs ys same).1 up

fresh_alone : (rows : List Row) (row : Row) → are_fresh rows (row ∷ []) ≡ true → is_taken rows row ≡ false
fresh_alone rows row fresh = go (is_taken rows row) fresh
  where
    go : (b : Bool) → (not b && true) ≡ true → b ≡ false
    go true h = absurd (false≢true h)
    go false h = refl

-- ---- rows in the order of a query

all-inserted : (P : Row → Type 0) (c : Row → Row → Ordering) (new : Row) (rows : List Row) → P new → AllByRecursion P rows → AllByRecursion P (insert_sorted c new rows)
all-inserted P c new [] h all = (h, tt)
all-inserted P c new (r ∷ rows) h all =
    elim (is_gt (c new r)) as (λ b. AllByRecursion P (cond b (r ∷ insert_sorted c new rows) (new ∷ r ∷ rows))) [ true ↦ (all.0, all-inserted P c new rows h all.1) | false ↦ (h, all) ]

all-sorted : (P : Row → Type 0) (c : Row → Row → Ordering) (rows : List Row) → AllByRecursion P rows → AllByRecursion P (sort_by c rows)
all-sorted P c [] all = tt
all-sorted P c (r ∷ rows) all = all-inserted P c r _ all.0 (all-sorted P c rows all.1)

module _ (says : Row → the_rows.Row) (c : Row → Row → Ordering) where
  -- two rows are ordered as what they say, and say rows with two keys
  record IsOrdered (a b : Row) : Type 0 where
    alike : c a b ≡ order (says a) (says b)
    other : HaveOtherKeys (says a) (says b)

  inserted-said : (new : Row) (rows : List Row) → AllByRecursion (IsOrdered new) rows → map says (insert_sorted c new rows) ≡ put_row (says new) (map says rows)
  inserted-said new [] all = refl
  inserted-said new (r ∷ rows) all =
      rw (all.0.alike, ← before_key (row_key (says new)) (row_key (says r)), ← same_key (row_key (says new)) (row_key (says r)))
      (go (order (says new) (says r)) (same_key (row_key (says new)) (row_key (says r)) ∙ all.0.other) (inserted-said new rows all.1))
    where
      go : (o : Ordering) → is_eq o ≡ false → map says (insert_sorted c new rows) ≡ put_row (says new) (map says rows)
          → map says (cond (is_gt o) (r ∷ insert_sorted c new rows) (new ∷ r ∷ rows)) ≡ cond (is_lt o) (says new ∷ says r ∷ map says rows) (cond (is_eq o) (says new ∷ map says rows) (says r ∷ put_row (says new) (map says rows)))
      go Less h more = refl
      go Equal h more = absurd (false≢true (sym h))
      go Greater h more = ap (λ l. says r ∷ l) more

  sorted-said : (rows : List Row) → IsAscending IsOrdered rows → map says (sort_by c rows) ≡ in_order (map says rows)
  sorted-said [] up = refl
  sorted-said (r ∷ rows) up = inserted-said r (sort_by c rows) (all-sorted _ c rows up.0) ∙ ap (put_row (says r)) (sorted-said rows up.1)

-- what holds of all rows adds to what holds of each two
both-ways : (P : Row → Type 0) (R S : Row → Row → Type 0) → ((a b : Row) → P a → P b → R a b → S a b) → (rows : List Row) → AllByRecursion P rows → IsAscending R rows → IsAscending S rows
both-ways P R S f [] all up = tt
both-ways P R S f (r ∷ rows) all up = (all_both P (R r) (S r) (λ b h k. f r b all.0 h k) rows all.1 up.0, both-ways P R S f rows all.1 up.1)

every : {X : Type 0} (P : X → Type 0) → ((x : X) → P x) → (xs : List X) → AllByRecursion P xs
every P h [] = tt
every P h (x ∷ xs) = (h x, every P h xs)

all_pass : (rows : List Row) → filter (λ r. true) rows ≡ rows
all_pass [] = refl
all_pass (r ∷ rows) = ap (λ l. r ∷ l) (all_pass rows)

-- ---- the statements

-- a row is the stored form of what it says
abbrev pub IsTyped : Ours → Row → Type 0
IsTyped ours r = r ≡ ours.stored (id_in (rowid r)) (ours.says r)

pub other_keys : (ours : Ours) (a b : Row) → HaveOtherKeys (ours.says a) (ours.says b) → HaveOtherKeys (ours.says b) (ours.says a)
other_keys ours a b other = same-flip (row_key (ours.says b)) (row_key (ours.says a)) ∙ other

abbrev pub HaveKeysApart : Ours → List Row → Type 0
HaveKeysApart ours = IsAscending (λ a b. HaveOtherKeys (ours.says a) (ours.says b))

-- what a tree says with a row of another rowid and another key
pub told-put : (ours : Ours) (new : Row) (rows : List Row) → AllByRecursion (HaveOtherRowids new) rows → HaveKeysApart ours (new ∷ rows) → told ours (put_stored new rows) ≡ put_row (ours.says new) (told ours rows)
told-put ours new rows ids keys =
    let same = tree-permutes new rows ids in
    in_order_alike (map ours.says (put_stored new rows)) (map ours.says (new ∷ rows))
    (ascending-map HaveOtherKeys ours.says _ (pairs-permute _ (other_keys ours) _ _ (IsPermutation-sym _ _ same) keys)) (ascending-map HaveOtherKeys ours.says (new ∷ rows) keys) (IsPermutation-map ours.says _ _ same)

module _ (ours : Ours) (old new : State) (at tree : ℕ) (has : HasTable ours old.now at tree) where
  abbrev rows : List Row
  rows = old.now.trees tree

  abbrev said : List the_rows.Row
  said = map ours.says rows

  said_apart : IsAscending HaveOtherKeys said
  said_apart = ascending-map HaveOtherKeys ours.says rows has.stored.keys

  abbrev Others : Type 0
  Others = (place : ℕ) (t : Table) → slice_get old.now.schema.tables place ≡ Some t → t.tree ≢ tree → AllByRecursion (IsChildless t.tree) old.now.schema.tables → new.now.trees t.tree ≡ old.now.trees t.tree

  turned : (change : List the_rows.Row → List the_rows.Row) (left : List Row) → new.now.schema ≡ old.now.schema → new.now.trees tree ≡ left → IsStored ours left → told ours left ≡ change (told ours rows) → Others → IsDatabase new.now
      → Turns ours change old.now new.now at tree
  turned change left schema are stored is others sound = record {
    schema = schema;
    has = record { stands = subst (λ s. Stands s ours.form at tree) (sym schema) has.stands; stored = subst (IsStored ours) (sym are) stored };
    told_is = ap (told ours) are ∙ is;
    others = others;
    sound = λ _. sound;
  }

  pub drops : (key : RowKey) (text : List ℕ) (params : Row) (test : List Term) (count : ℕ)
      → Means old.now.schema text (Delete at (record { lets = []; body = scan tree test (col 1 0 ∷ []) [] }))
      → ((r : Row) → IsTyped ours r → ours.fits (id_in (rowid r)) ≡ true → list_all (holds (params ∷ r ∷ [])) test ≡ is_same_row_key (row_key (ours.says r)) key)
      → Executes text params old new (Ok count) → Turns ours (drop_row key) old.now new.now at tree
  drops key text params test count means tests h =
      let is = has.stands in
      let stored = has.stored in
      let table = table_of ours.form tree in
      let p = λ (r : Row). is_same_row_key (row_key (ours.says r)) key in
      let q = λ (r : Row). not (p r) in
      let w = runs_as text params old new old.now.schema refl (Delete at (record { lets = []; body = scan tree test (col 1 0 ∷ []) [] })) means.is means.plain count h in
      let d = deleted_by old new at table _ _ params count is.has.stands w in
      let seen = scanned tree is.low test (col 1 0 ∷ []) [] params p old.now.trees d.rows (all_both _ _ _ tests rows stored.typed stored.fit) d.read.answer in
      let read : IsPermutation (map (λ r. rowid r ∷ []) (filter p rows)) d.rows =
      subst (IsPermutation _) (sym seen.is) (subst (λ l. IsPermutation l (map (λ (o : Output). o.1) seen.ordered)) (map-map _ _ _) (IsPermutation-map (λ (o : Output). o.1) _ _ seen.same)) in
      let own = own_edit tree old.now.schema Enforced is.childless at table is.has.stands refl old.now.trees d.next _ d.written in
      turned (drop_row key) (filter q rows) (ap (λ (db : Database). db.schema) d.is)
      (ap (λ (db : Database). db.trees tree) d.is ∙ own.2 ∙ own.1.rows ∙ taken p rows d.rows stored.apart stored.ints read)
      (record { ints = all-filter _ q rows stored.ints; fit = all-filter _ q rows stored.fit; apart = ascending-filter HaveOtherRowids q rows stored.apart; typed = all-filter _ q rows stored.typed; keys = ascending-filter _ q rows stored.keys })
      (ap in_order (sym (filter-map (λ (row : the_rows.Row). not (is_same_row_key (row_key row) key)) ours.says rows)) ∙ drop-in_order key said said_apart)
      (λ place t stands apart alone. ap (λ (db : Database). db.trees t.tree) d.is ∙ others_keep t.tree old.now.schema Enforced alone place t stands refl old.now.trees d.next _ (λ same. apart (sym same)) d.written)
      w.sound

  -- a DELETE of which no row passes the test leaves all
  pub drops_none : (text : List ℕ) (params : Row) (test : List Term) (count : ℕ)
      → Means old.now.schema text (Delete at (record { lets = []; body = scan tree test (col 1 0 ∷ []) [] }))
      → ((r : Row) → IsTyped ours r → list_all (holds (params ∷ r ∷ [])) test ≡ false)
      → Executes text params old new (Ok count) → Turns ours (λ l. l) old.now new.now at tree
  drops_none text params test count means fails h =
      let is = has.stands in
      let stored = has.stored in
      let table = table_of ours.form tree in
      let p = λ (r : Row). false in
      let w = runs_as text params old new old.now.schema refl (Delete at (record { lets = []; body = scan tree test (col 1 0 ∷ []) [] })) means.is means.plain count h in
      let d = deleted_by old new at table _ _ params count is.has.stands w in
      let seen = scanned tree is.low test (col 1 0 ∷ []) [] params p old.now.trees d.rows (all_weaker _ _ fails rows stored.typed) d.read.answer in
      let read : IsPermutation (map (λ r. rowid r ∷ []) (filter p rows)) d.rows =
      subst (IsPermutation _) (sym seen.is) (subst (λ l. IsPermutation l (map (λ (o : Output). o.1) seen.ordered)) (map-map _ _ _) (IsPermutation-map (λ (o : Output). o.1) _ _ seen.same)) in
      let own = own_edit tree old.now.schema Enforced is.childless at table is.has.stands refl old.now.trees d.next _ d.written in
      let left : new.now.trees tree ≡ rows = ap (λ (db : Database). db.trees tree) d.is ∙ own.2 ∙ own.1.rows ∙ taken p rows d.rows stored.apart stored.ints read ∙ all_pass rows in
      turned (λ l. l) rows (ap (λ (db : Database). db.schema) d.is) left stored refl
      (λ place t stands apart alone. ap (λ (db : Database). db.trees t.tree) d.is ∙ others_keep t.tree old.now.schema Enforced alone place t stands refl old.now.trees d.next _ (λ same. apart (sym same)) d.written)
      w.sound

  -- what an INSERT of values leaves, under the rowids that it chooses
  pub record Inserts (news : List Row) : Type 0 where
    pub schema : new.now.schema ≡ old.now.schema
    pub fresh : are_fresh rows news ≡ true
    pub left : new.now.trees tree ≡ put_all rows news
    pub others : Others
    pub spared : KeepsOthers tree old.now new.now
    pub sound : IsDatabase new.now

  pub inserts : (text : List ℕ) (params : Row) (terms : List Term) (width : ℕ) (sources : List Row) (count : ℕ)
      → Means old.now.schema text (Insert at (Values terms width))
      → value_rows (stamped (table_of ours.form tree) params) width (length terms / width) terms ≡ sources
      → map (λ (s : Row). cast_row (table_of ours.form tree) s) sources ≡ sources
      → Executes text params old new (Ok count) → Inserts (numbered Chosen rows sources)
  inserts text params terms width sources count means shows stays h =
      let is = has.stands in
      let table = table_of ours.form tree in
      let w = runs_as text params old new old.now.schema refl (Insert at (Values terms width)) means.is means.plain count h in
      let d = inserted_by old new at ours.form tree (Values terms width) _ params count is.has.stands w in
      let casts : map (λ (s : Row). cast_row table s) d.rows ≡ sources = ap (map (λ (s : Row). cast_row table s)) (d.read.1 ∙ shows) ∙ stays in
      let edit : edit_of old.now.trees table [] Chosen 0 d.rows ≡ record { table = table; gone = []; news = numbered Chosen rows sources } = ap (λ (l : List Row). record { table = table; gone = []; news = numbered Chosen rows l }) casts in
      let written = subst (λ (e : Edit). action.Writes old.now.schema Enforced old.now.trees e (Ok d.next)) edit d.written in
      let own = own_edit tree old.now.schema Enforced is.childless at table is.has.stands refl old.now.trees d.next _ written in
      record {
        schema = ap (λ (db : Database). db.schema) d.is;
        fresh = own.1.fresh;
        left = ap (λ (db : Database). db.trees tree) d.is ∙ own.2 ∙ own.1.rows;
        others = λ place t stands apart alone. ap (λ (db : Database). db.trees t.tree) d.is ∙ others_keep t.tree old.now.schema Enforced alone place t stands refl old.now.trees d.next _ (λ same. apart (sym same)) written;
        spared = subst (KeepsOthers tree old.now) (sym d.is) (inserts_keep old.now.schema Enforced old.now.trees d.next table (numbered Chosen rows sources) written);
        sound = w.sound;
      }

  pub puts : (row : the_rows.Row) (text : List ℕ) (params : Row) (terms : List Term) (width : ℕ) (source : Row) (id : ℤ) (count : ℕ)
      → Means old.now.schema text (Insert at (Values terms width))
      → value_rows (stamped (table_of ours.form tree) params) width (length terms / width) terms ≡ source ∷ []
      → cast_row (table_of ours.form tree) source ≡ source
      → with_rowid Chosen rows source ≡ ours.stored id row → rowid (ours.stored id row) ≡ Int id → ours.fits id ≡ true → ours.says (ours.stored id row) ≡ row
      → HaveNot (row_key row) (told ours rows)
      → Executes text params old new (Ok count) → Turns ours (put_row row) old.now new.now at tree
  puts row text params terms width source id count means shows stays made keyed fits says none h =
      let stored = has.stored in
      let x = ours.stored id row in
      let it = subst (λ (r : Row). Inserts (r ∷ [])) made (inserts text params terms width (source ∷ []) count means shows (ap (λ (r : Row). r ∷ []) stays) h) in
      let ids = other_ids x rows (fresh_alone rows x it.fresh) in
      let same = IsPermutation-sym _ _ (tree-permutes x rows ids) in
      let int : is_int (rowid x) ≡ true = ap is_int keyed in
      let fit : ours.fits (id_in (rowid x)) ≡ true = ap (λ v. ours.fits (id_in v)) keyed ∙ fits in
      let typed : IsTyped ours x = ap₂ ours.stored (sym (ap id_in keyed)) (sym says) in
      let free : AllByRecursion (λ r. HaveOtherKeys (ours.says x) (ours.says r)) rows =
      all_unmap (λ other. HaveOtherKeys (ours.says x) other) ours.says rows
      (all_weaker _ (HaveOtherKeys (ours.says x)) (λ other apart. ap (λ (s : the_rows.Row). is_same_row_key (row_key s) (row_key other)) says ∙ same-flip (row_key row) (row_key other) ∙ apart) said (have_not (row_key row) said said_apart none)) in
      turned (put_row row) (put_stored x rows) it.schema it.left
      (record {
        ints = all-put_row _ x rows int stored.ints;
        fit = all-put_row _ x rows fit stored.fit;
        apart = pairs-permute HaveOtherRowids other_rowids (x ∷ rows) (put_stored x rows) same (ids, stored.apart);
        typed = all-put_row _ x rows typed stored.typed;
        keys = pairs-permute _ (other_keys ours) (x ∷ rows) (put_stored x rows) same (free, stored.keys);
      })
      (told-put ours x rows ids (free, stored.keys) ∙ ap (λ s. put_row s (told ours rows)) says)
      it.others it.sound

-- what is plain is understood
code_of : (r : Result Compiled CompileError) → IsPlain r → (c : Compiled) × (r ≡ Ok c)
code_of (Ok c) h = (c, refl)
code_of (Err e) h = absurd h

module _ (ours : Ours) (db : Database) (at tree : ℕ) (has : HasTable ours db at tree) where
  pub reads : (text : List ℕ) (project : List Term) (sorts : List (Term × Key)) (names : List (List ℕ)) (shown_says : Row → the_rows.Row) (shown : List Row)
      → Means db.schema text (Select (record { lets = []; body = scan tree [] project sorts }) names) → reads_listing db.schema text ≡ false
      → ((r : Row) → shown_says (output (scan tree [] project sorts) ([] ∷ r ∷ [])).1 ≡ ours.says r)
      → ((a b : Row) → IsTyped ours a → IsTyped ours b
      → output_cmp (scan tree [] project sorts) (output (scan tree [] project sorts) ([] ∷ a ∷ [])) (output (scan tree [] project sorts) ([] ∷ b ∷ [])) ≡ order (ours.says a) (ours.says b))
      → Shows text db shown → map shown_says shown ≡ told ours (db.trees tree)
  reads text project sorts names shown_says shown means unlisted says alike h =
      let is = has.stands in
      let stored = has.stored in
      let rows = db.trees tree in
      let q = scan tree [] project sorts in
      let out = λ (r : Row). output q ([] ∷ r ∷ []) in
      let c = λ (a b : Row). output_cmp q (out a) (out b) in
      let code = code_of (understood db.schema text) means.plain in
      let answer : Reads (Select (record { lets = []; body = q }) names) db [] shown = subst (λ k. Reads k db [] shown) (sym (ap command_of code.1) ∙ means.is) (h code.0 code.1 unlisted) in
      let seen = scanned tree is.low [] project sorts [] (λ r. true) db.trees shown (every _ (λ r. refl) rows) answer.answer in
      let ordered = both-ways (IsTyped ours) (λ a b. HaveOtherKeys (ours.says a) (ours.says b)) (IsOrdered ours.says c) (λ a b p r k. record { alike = alike a b p r; other = k }) rows stored.typed stored.keys in
      let free = both-ways (IsTyped ours) (λ a b. HaveOtherKeys (ours.says a) (ours.says b)) (λ a b. is_eq (c a b) ≡ false)
      (λ a b p r k. ap is_eq (alike a b p r) ∙ same_key (row_key (ours.says a)) (row_key (ours.says b)) ∙ k) rows stored.typed stored.keys in
      let one : seen.ordered ≡ map out (sort_by c rows) =
      sorted_is-sort_by (output_cmp q) (output_cmp_total q) (map out rows) seen.ordered (ascending-map (λ a b. is_eq (output_cmp q a b) ≡ false) out rows free) (subst (λ l. IsPermutation (map out l) seen.ordered) (all_pass rows) seen.same) seen.sorted
      ∙ sort_by-map (output_cmp q) out rows in
      ap (map shown_says) (seen.is ∙ ap (map (λ (o : Output). o.1)) one ∙ map-map _ _ _) ∙ map-map shown_says _ _ ∙ (λ i. map (λ r. says r i) (sort_by c rows)) ∙ sorted-said ours.says c rows ordered
