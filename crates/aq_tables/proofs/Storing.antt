-- A table of ours in a sound database whose rowids are distinct: each row is the stored form of what it says, and no two say rows with one key.
use Rattle.std.proofs.Common.{◌≡◌, inl, inr, ◌+◌, ◌&&◌, ◌||◌, not, if◌then◌else◌, get_or, ℕ, ℤ, zero, suc, List, [], ◌∷◌, drop, slice_get, Bool, true, false, Option, Some, refl, sym, ap, ap₂, subst, ◌∙◌, add-one, Ordering, Less, Equal, Greater}
use Rattle.std.specs.List.{AllByRecursion}
use Rattle.std.specs.Ordering.{is_eq, is_ne}
use Rattle.std.proofs.lemmas.Bool.{false≢true, and_parts, not-true, false_from_ne_true}
use Rattle.sqlite.specs.declared.types.Value.{Value}
use Rattle.sqlite.specs.declared.types.Value.TheVariants.{Null, Int, Real, Text, Blob}
use Rattle.sqlite.specs.Kind.{Kind}
use Rattle.sqlite.specs.Kind.TheVariants as kind
use Rattle.sqlite.specs.Order.{Row}
use Rattle.sqlite.specs.Ops.{binary}
use Rattle.sqlite.specs.Table.{Table}
use Rattle.sqlite.specs.Tree.{rowid}
use Rattle.sqlite.specs.Effect.{Database, IsDatabase}
use Rattle.sqlite_value.specs.Order.{value_cmp, column, bytes}
use Rattle.sqlite_value.specs.Keys.{plain}
use Rattle.sqlite_trees.specs.Tree.{IsAscending}
use Rattle.sqlite_trees.specs.View.{is_int}
use Rattle.sqlite_sql.specs.Ops.{is_null}
use Rattle.sqlite_schema.specs.declared.schema.Column.{Column}
use Rattle.sqlite_schema.specs.declared.schema.Constraint.TheVariants.{Datatype, NotNull}
use Rattle.sqlite_schema.specs.Names.{is_key}
use Rattle.sqlite_schema.specs.Rules.{suits, are_typed, are_present, agree, differ, clashes}
use Rattle.sqlite_rules.specs.Edit.{id_in}
use Rattle.sqlite_rules.specs.Lists.{Has as Holds}
use Rattle.sqlite_rules.proofs.ListLemmas.{all_has, all_from, some_from}
use Rattle.sqlite_rules.proofs.RuleLemmas.{keeps_at}
use Rattle.sqlite_catalog.proofs.AlterLemmas.{keys_are_unique, place_has}
use Rattle.aq_rules.specs.Kept.RowChanges.{row_key, is_same_row_key}
use Rattle.aq_tables.specs.Forms.{table_of, column_of}
use Rattle.sqlite_sql.specs.Numeral.{fits_i64}
use Rattle.aq_tables.specs.Rowids.{AreApart, IsRowid}
use Rattle.aq_tables.specs.Standing.{Ours, Stands, HasTable, HaveOtherRowids, HaveOtherKeys}
use Rattle.aq_tables.specs.Told.{cell, optional}
use Rattle.aq_tables.proofs.Cells.{kept}
use Rattle.aq_tables.proofs.Turning.{IsTyped}

-- ---- columns

-- the value of a column, read and stored again
abbrev pub cell_as : Kind → Bool → Value → Value
cell_as kind.Integer true v = Int (id_in v)
cell_as kind.Integer false v = cell (optional v)
cell_as kind.Text not_null v = Text (bytes v)
cell_as kind.Blob not_null v = Blob (bytes v)
cell_as kind.Real not_null v = v
cell_as kind.Any not_null v = v

-- what suits the column is stored as it is read
abbrev pub IsCell : Column → Type 0
IsCell c = (v : Value) → suits c v ≡ true → (c.not_null ≡ true → is_null v ≡ false) → v ≡ cell_as c.kind c.not_null v

-- (whatever the column's name is)
pub int_cell : IsCell (column_of [] kind.Integer true)
int_cell Null fits some = absurd (false≢true (sym (some refl)))
int_cell (Int n) fits some = refl
int_cell (Real x) fits some = absurd (false≢true fits)
int_cell (Text t) fits some = absurd (false≢true fits)
int_cell (Blob b) fits some = absurd (false≢true fits)

pub optional_cell : IsCell (column_of [] kind.Integer false)
optional_cell Null fits some = refl
optional_cell (Int n) fits some = refl
optional_cell (Real x) fits some = absurd (false≢true fits)
optional_cell (Text t) fits some = absurd (false≢true fits)
optional_cell (Blob b) fits some = absurd (false≢true fits)

pub text_cell : IsCell (column_of [] kind.Text true)
text_cell Null fits some = absurd (false≢true (sym (some refl)))
text_cell (Int n) fits some = absurd (false≢true fits)
text_cell (Real x) fits some = absurd (false≢true fits)
text_cell (Text t) fits some = refl
text_cell (Blob b) fits some = absurd (false≢true fits)

pub blob_cell : IsCell (column_of [] kind.Blob true)
blob_cell Null fits some = absurd (false≢true (sym (some refl)))
blob_cell (Int n) fits some = absurd (false≢true fits)
blob_cell (Real x) fits some = absurd (false≢true fits)
blob_cell (Text t) fits some = absurd (false≢true fits)
blob_cell (Blob b) fits some = refl

-- ---- rows

-- the columns of a row from a place on, each read and stored again
abbrev pub cells : Option ℕ → ℕ → List Column → Row → Row
cells key at [] r = []
cells key at (c ∷ cs) r = (if is_key key at then Null else cell_as c.kind c.not_null (column r (at + 1))) ∷ cells key (at + 1) cs r

-- the last column is NOT NULL, and no rowid
abbrev EndsAt : Option ℕ → ℕ → Column → List Column → Type 0
EndsAt key at c [] = (is_key key at ≡ false) × (c.not_null ≡ true)
EndsAt key at c (d ∷ cs) = EndsAt key (at + 1) d cs

abbrev pub Ends : Option ℕ → ℕ → List Column → Type 0
Ends key at [] = Unit {0}
Ends key at (c ∷ cs) = EndsAt key at c cs

ends_more : (key : Option ℕ) (at : ℕ) (c : Column) (cs : List Column) → EndsAt key at c cs → Ends key (at + 1) cs
ends_more key at c [] ends = tt
ends_more key at c (d ∷ cs) ends = ends

drop_cons : (n : ℕ) (r : Row) (v : Value) (vs : Row) → drop n r ≡ v ∷ vs → (column r n ≡ v) × (drop (n + 1) r ≡ vs)
drop_cons zero [] v vs is = absurd cc
drop_cons zero (x ∷ r) v vs is = (cc, cc)
drop_cons (suc n) [] v vs is = absurd cc
drop_cons (suc n) (x ∷ r) v vs is = let more = drop_cons n r v vs is in (more.0, rw add-one (rw add-one at more.1))

drop_nil : (n : ℕ) (r : Row) → drop n r ≡ [] → (column r n ≡ Null) × (drop (n + 1) r ≡ [])
drop_nil zero [] is = (refl, refl)
drop_nil zero (x ∷ r) is = absurd cc
drop_nil (suc n) [] is = (refl, rw add-one refl)
drop_nil (suc n) (x ∷ r) is = let more = drop_nil n r is in (more.0, rw add-one (rw add-one at more.1))

-- a row whose last column is NOT NULL has all columns
short : (key : Option ℕ) (at : ℕ) (c : Column) (cs : List Column) (r : Row) → drop (at + 1) r ≡ [] → EndsAt key at c cs → are_present key at (c ∷ cs) r ≡ true → ⊥
short key at c [] r none ends h = false≢true (rw (ends.0, ends.1, (drop_nil (at + 1) r none).0) at h)
short key at c (d ∷ cs) r none ends h = short key (at + 1) d cs r (drop_nil (at + 1) r none).1 ends (and_parts _ _ h).1

null_is : (v : Value) → is_null v ≡ true → v ≡ Null
null_is Null h = refl
null_is (Int n) h = absurd (false≢true h)
null_is (Real x) h = absurd (false≢true h)
null_is (Text t) h = absurd (false≢true h)
null_is (Blob b) h = absurd (false≢true h)

one_cell : (c : Column) (v stored : Value) (is_rowid : Bool) → stored ≡ v → IsCell c → (if is_rowid then is_null v else suits c v) ≡ true → (is_rowid || not c.not_null || not (is_null stored)) ≡ true
    → v ≡ (if is_rowid then Null else cell_as c.kind c.not_null stored)
one_cell c v stored true same cell fits some = null_is v fits
one_cell c v stored false same cell fits some = cell v fits (λ required. not-true _ (rw (required, same) at some)) ∙ ap (cell_as c.kind c.not_null) (sym same)

cells_are : (key : Option ℕ) (at : ℕ) (cs : List Column) (r rest : Row) → drop (at + 1) r ≡ rest → AllByRecursion IsCell cs → Ends key at cs → are_typed key at cs rest ≡ true → are_present key at cs r ≡ true
    → rest ≡ cells key at cs r
cells_are key at [] r [] is all ends typed present = refl
cells_are key at [] r (v ∷ vs) is all ends typed present = absurd (false≢true typed)
cells_are key at (c ∷ cs) r [] is all ends typed present = absurd (short key at c cs r is ends present)
cells_are key at (c ∷ cs) r (v ∷ vs) is all ends typed present =
    let here = drop_cons (at + 1) r v vs is in
    let fits = and_parts _ _ typed in
    let some = and_parts _ _ present in
    ap₂ (λ x l. x ∷ l) (one_cell c v (column r (at + 1)) (is_key key at) here.0 all.0 fits.0 some.0) (cells_are key (at + 1) cs r vs here.1 all.1 (ends_more key at c cs ends) fits.1 some.1)

pub int_is : (v : Value) → is_int v ≡ true → v ≡ Int (id_in v)
int_is Null h = absurd (false≢true h)
int_is (Int n) h = refl
int_is (Real x) h = absurd (false≢true h)
int_is (Text t) h = absurd (false≢true h)
int_is (Blob b) h = absurd (false≢true h)

row_is : (key : Option ℕ) (cs : List Column) (r : Row) → AllByRecursion IsCell cs → Ends key 0 cs → is_int (rowid r) ≡ true → are_typed key 0 cs (drop 1 r) ≡ true → are_present key 0 cs r ≡ true
    → r ≡ Int (id_in (rowid r)) ∷ cells key 0 cs r
row_is key cs [] all ends int typed present = absurd (false≢true int)
row_is key cs (x ∷ vs) all ends int typed present = ap₂ (λ y l. y ∷ l) (int_is x int) (cells_are key 0 cs (x ∷ vs) vs refl all ends typed present)

-- ---- keys

not_equal : (o : Ordering) → is_eq o ≡ false → is_ne o ≡ true
not_equal Less h = refl
not_equal Equal h = absurd (false≢true (sym h))
not_equal Greater h = refl

differ_ints : (m n : ℤ) → is_eq (value_cmp (Int m) (Int n)) ≡ false → differ (Int m) (Int n) ≡ true
unfolding binary
differ_ints m n h = kept (is_ne (value_cmp (Int m) (Int n))) ∙ not_equal (value_cmp (Int m) (Int n)) h

differ_ids : (a b : Row) → is_int (rowid a) ≡ true → is_int (rowid b) ≡ true → HaveOtherRowids a b → differ (rowid a) (rowid b) ≡ true
differ_ids a b p q h =
    let a_is = int_is (rowid a) p in
    let b_is = int_is (rowid b) q in
    ap₂ differ a_is b_is ∙ differ_ints (id_in (rowid a)) (id_in (rowid b)) (sym (ap₂ (λ x y. is_eq (value_cmp x y)) a_is b_is) ∙ h)

-- what any two rows are to one another that are in a list, one before the other
pairs : (P : Row → Type 0) (R S : Row → Row → Type 0) (rows : List Row) → AllByRecursion P rows → IsAscending R rows → ((a b : Row) → Holds rows a → Holds rows b → P a → P b → R a b → S a b) → IsAscending S rows
pairs P R S [] all up f = tt
pairs P R S (r ∷ rows) all up f = (
  all_from (S r) rows (λ b h. f r b (inl refl) (inr h) all.0 (all_has P rows b all.1 h) (all_has (R r) rows b up.0 h)),
  pairs P R S rows all.1 up.1 (λ a b h k. f a b (inr h) (inr k)),
)

abbrev pub HaveApart : Ours → Database → ℕ → Type 0
HaveApart ours db tree = IsAscending (λ a b. HaveOtherKeys (ours.says a) (ours.says b)) (db.trees tree)

-- what the rows of a table of ours are known to be before their keys are
pub record IsKnown (ours : Ours) (r : Row) : Type 0 where
  pub int : is_int (rowid r) ≡ true
  pub typed : IsTyped ours r

module _ (ours : Ours) (db : Database) (sound : IsDatabase db) (at tree : ℕ) (stands : Stands db.schema ours.form at tree) (apart : AreApart ours.form db) where
  abbrev table : Table
  table = table_of ours.form tree

  abbrev rows : List Row
  rows = db.trees tree

  listed : Holds db.schema.tables table
  listed = place_has db.schema.tables at table stands.has.stands

  -- a key that is a UNIQUE
  pub keyed : (key : List ℕ) → slice_get ours.form.uniques 0 ≡ Some key → get_or ours.form.orders 0 plain ≡ plain
      → ((a b : Row) → IsTyped ours a → IsTyped ours b → agree plain key a key b ≡ is_same_row_key (row_key (ours.says a)) (row_key (ours.says b)))
      → AllByRecursion (IsKnown ours) rows → HaveApart ours db tree
  keyed key unique order agrees known = pairs (IsKnown ours) HaveOtherRowids (λ a b. HaveOtherKeys (ours.says a) (ours.says b)) rows known (apart at tree stands).0 other
    where
      other : (a b : Row) → Holds rows a → Holds rows b → IsKnown ours a → IsKnown ours b → HaveOtherRowids a b → HaveOtherKeys (ours.says a) (ours.says b)
      other a b h k p q ids =
          let free = subst (λ o. clashes o key rows b ≡ false) order (keys_are_unique db.schema db.trees table 0 key b sound listed unique k) in
          sym (agrees a b p.typed q.typed) ∙ false_from_ne_true _ (λ alike.
          let both : (agree plain key a key b && differ (rowid a) (rowid b)) ≡ true = rw (alike, differ_ids a b p.int q.int ids) in
          false≢true (sym free ∙ some_from (λ (o : Row). agree plain key o key b && differ (rowid o) (rowid b)) rows a h both))

  -- a key that is the rowid
  pub keyed_by_rowid : ((a b : Row) → IsKnown ours a → IsKnown ours b → HaveOtherRowids a b → HaveOtherKeys (ours.says a) (ours.says b)) → AllByRecursion (IsKnown ours) rows → HaveApart ours db tree
  keyed_by_rowid other known = pairs (IsKnown ours) HaveOtherRowids (λ a b. HaveOtherKeys (ours.says a) (ours.says b)) rows known (apart at tree stands).0 (λ a b h k. other a b)

  pub has_table : AllByRecursion IsCell ours.form.columns → Ends ours.form.key 0 ours.form.columns → ((id : ℤ) → fits_i64 id ≡ true → ours.fits id ≡ true) → ((r : Row) → Int (id_in (rowid r)) ∷ cells ours.form.key 0 ours.form.columns r ≡ ours.stored (id_in (rowid r)) (ours.says r))
      → (AllByRecursion (IsKnown ours) rows → HaveApart ours db tree) → HasTable ours db at tree
  has_table are_cells ends fits stored keys =
      let ids = apart at tree stands in
      let known = all_from (IsKnown ours) rows (λ r h.
      let int = (all_has (λ (r : Row). IsRowid (rowid r)) rows r ids.1 h).0 in
      let suits = and_parts _ _ (keeps_at Datatype db.schema db.trees table r (sound.obeys.rules Datatype) listed h) in
      record { int = int; typed = row_is ours.form.key ours.form.columns r are_cells ends int suits.0 (keeps_at NotNull db.schema db.trees table r (sound.obeys.rules NotNull) listed h) ∙ stored r }) in
      record { stands = stands; stored = record { ints = all_from _ rows (λ r h. (all_has (λ (r : Row). IsRowid (rowid r)) rows r ids.1 h).0); fit = all_from _ rows (λ r h. fits (id_in (rowid r)) (all_has (λ (r : Row). IsRowid (rowid r)) rows r ids.1 h).1); apart = ids.0; typed = all_from _ rows (λ r h. (all_has (IsKnown ours) rows r known h).typed); keys = keys known } }
