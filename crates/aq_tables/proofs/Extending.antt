-- Tables that are added behind those that stand.
use Rattle.std.proofs.Common.{◌≡◌, inl, inr, ◌^◌, ◌<◌, ◌+◌, ◌==◌, nat_le, ℕ, zero, suc, List, [], ◌∷◌, ◌++◌, length, Bool, true, false, cond, Some, None, find, slice_get, refl, sym, ap, subst, ◌∙◌, arith}
use Rattle.std.specs.List.{AllByRecursion, position_from}
use Rattle.std.proofs.lemmas.Bool.Decides.{nat_tests}
use Rattle.std.proofs.lemmas.List.{append-nil, append_assoc}
use Rattle.std.proofs.lemmas.List.Folds.{find-append}
use Rattle.sqlite.specs.Schema.{Schema}
use Rattle.sqlite.specs.Table.{Table}
use Rattle.sqlite.specs.Order.{Row}
use Rattle.sqlite.specs.Tree.{Trees, rowid}
use Rattle.sqlite.specs.Effect.{Database}
use Rattle.sqlite_trees.specs.Tree.{IsAscending}
use Rattle.sqlite_keyed.proofs.ListLemmas.{all-append, all_weaker}
use Rattle.sqlite_schema.specs.Names.{table_named, same_name}
use Rattle.sqlite_rules.specs.Lists.{Has as Holds}
use Rattle.sqlite_rules.proofs.ListLemmas.{all_has, all_from}
use Rattle.sqlite_catalog.specs.Change.{KeepsRows}
use Rattle.sqlite_catalog.specs.Listing.{IsSound, IsTableRow}
use Rattle.sqlite_catalog.proofs.LayoutLemmas.{zipped_left}
use Rattle.sqlite_catalog.proofs.AlterLemmas.{rows_trans, rows_fewer, place_has}
use Rattle.aq_tables.specs.Forms.{Form, table_of}
use Rattle.aq_tables.specs.Standing.{Ours, HaveOtherRowids, IsChildless, Stands}
use Rattle.aq_tables.specs.Rowids.{AreApart, IsRowid}
use Rattle.aq_tables.specs.Told.{told}
use Rattle.aq_tables.specs.All.{rows_in}
use Rattle.aq_tables.specs.Made.{HasForm, IsAdded}
use Rattle.aq_tables.specs.Moves.{Extends}

-- ---- lists with more behind them

module _ {X : Type 0} where
  pub position_before : (p : X → Bool) (i : ℕ) (xs ys : List X) (at : ℕ) → position_from p i xs ≡ Some at → position_from p i (xs ++ ys) ≡ Some at
  position_before p i [] ys at is = absurd cc
  position_before p i (x ∷ xs) ys at is = go (p x) is (position_before p (i + 1) xs ys at)
    where
      go : (b : Bool) → cond b (Some i) (position_from p (i + 1) xs) ≡ Some at → (position_from p (i + 1) xs ≡ Some at → position_from p (i + 1) (xs ++ ys) ≡ Some at)
          → cond b (Some i) (position_from p (i + 1) (xs ++ ys)) ≡ Some at
      go true h more = h
      go false h more = more h

  pub position_behind : (p : X → Bool) (i : ℕ) (xs : List X) (y : X) → position_from p i xs ≡ None → p y ≡ true → position_from p i (xs ++ y ∷ []) ≡ Some (i + length xs)
  position_behind p i [] y is hit = rw hit (ap Some (omega arith))
  position_behind p i (x ∷ xs) y is hit = go (p x) is (position_behind p (i + 1) xs y)
    where
      go : (b : Bool) → cond b (Some i) (position_from p (i + 1) xs) ≡ None → (position_from p (i + 1) xs ≡ None → p y ≡ true → position_from p (i + 1) (xs ++ y ∷ []) ≡ Some (i + 1 + length xs))
          → cond b (Some i) (position_from p (i + 1) (xs ++ y ∷ [])) ≡ Some (i + length (x ∷ xs))
      go true h more = absurd cc
      go false h more = more h hit ∙ ap Some (omega arith)

  pub position_nowhere : (p : X → Bool) (i : ℕ) (xs : List X) (y : X) → position_from p i xs ≡ None → p y ≡ false → position_from p i (xs ++ y ∷ []) ≡ None
  position_nowhere p i [] y is miss = rw miss refl
  position_nowhere p i (x ∷ xs) y is miss = go (p x) is (position_nowhere p (i + 1) xs y)
    where
      go : (b : Bool) → cond b (Some i) (position_from p (i + 1) xs) ≡ None → (position_from p (i + 1) xs ≡ None → p y ≡ false → position_from p (i + 1) (xs ++ y ∷ []) ≡ None) → cond b (Some i) (position_from p (i + 1) (xs ++ y ∷ [])) ≡ None
      go true h more = absurd cc
      go false h more = more h miss

  pub place_before : (xs ys : List X) (at : ℕ) (x : X) → slice_get xs at ≡ Some x → slice_get (xs ++ ys) at ≡ Some x
  place_before [] ys at x is = absurd cc
  place_before (y ∷ xs) ys zero x is = is
  place_before (y ∷ xs) ys (suc at) x is = place_before xs ys at x is

  pub place_behind : (xs : List X) (y : X) → slice_get (xs ++ y ∷ []) (length xs) ≡ Some y
  place_behind [] y = refl
  place_behind (x ∷ xs) y = place_behind xs y

  pub none_found : (p : X → Bool) (xs : List X) → AllByRecursion (λ x. p x ≡ false) xs → find p xs ≡ None
  none_found p [] all = refl
  none_found p (x ∷ xs) all = rw all.0 (none_found p xs all.1)

-- ---- tables

-- a sound schema has no tree as high as those that a query makes up
pub low_of : (schema : Schema) (trees : Trees) (t : Table) → IsSound schema trees → Holds schema.tables t → nat_le (2 ^ 31) t.tree ≡ false
low_of schema trees t sound there =
    let low : t.tree < 65536 = (zipped_left IsTableRow _ schema.tables t sound.lists.listed.tables there).2.described.low in
    grind (arith, nat_tests)

pub extends_here : (db : Database) → Extends db db
extends_here db = record {
  more = [];
  tables = sym (append-nil db.schema.tables);
  added = tt;
  further = [];
  indexes = sym (append-nil db.schema.indexes);
  views = refl;
  rows = all_from _ db.schema.tables (λ t h. refl);
}

pub extends_then : (a b c : Database) → Extends a b → Extends b c → Extends a c
extends_then a b c p q = record {
  more = p.more ++ q.more;
  tables = q.tables ∙ ap (λ l. l ++ q.more) p.tables ∙ append_assoc a.schema.tables p.more q.more;
  added = all-append IsAdded p.more q.more p.added q.added;
  further = p.further ++ q.further;
  indexes = q.indexes ∙ ap (λ l. l ++ q.further) p.indexes ∙ append_assoc a.schema.indexes p.further q.further;
  views = q.views ∙ p.views;
  rows = rows_trans a.schema.tables a.trees b.trees c.trees p.rows (rows_fewer a.schema.tables p.more b.trees c.trees (subst (λ l. KeepsRows l b.trees c.trees) p.tables q.rows));
}

pub keyless : (t : Table) → IsAdded t → t.references ≡ []
keyless t (inl (which, same)) = ap (λ (u : Table). u.references) same
keyless t (inr counts) = counts.1

pub still_stands : (old new : Database) (form : Form) (at tree : ℕ) → Extends old new → Stands old.schema form at tree → Stands new.schema form at tree
still_stands old new form at tree e s =
    let tables = old.schema.tables in
    record {
      has = record {
        named = ap (position_from (λ (t : Table). same_name t.name form.name) 0) e.tables ∙ position_before _ 0 tables e.more at s.has.named;
        stands = ap (λ l. slice_get l at) e.tables ∙ place_before tables e.more at _ s.has.stands;
        untimed = refl;
      };
      sole = ap (find (λ (t : Table). t.tree == tree)) e.tables ∙ find-append _ tables e.more ∙ rw s.sole;
      low = s.low;
      childless = subst (AllByRecursion (IsChildless tree)) (sym e.tables) (all-append _ tables e.more s.childless (all_weaker IsAdded (IsChildless tree) (λ t one same. keyless t one) e.more e.added));
    }

abbrev pub still_formed : (old new : Database) (form : Form) → Extends old new → HasForm old.schema form → HasForm new.schema form
still_formed old new form e h = record { at = h.at; tree = h.tree; stands = still_stands old new form h.at h.tree e h.stands }

-- ---- their rows

pub trees_still : (old new : Database) (form : Form) → Extends old new → (h : HasForm old.schema form) → new.trees h.tree ≡ old.trees h.tree
trees_still old new form e h =
    all_has (λ (t : Table). new.trees t.tree ≡ old.trees t.tree) old.schema.tables (table_of form h.tree) e.rows (place_has old.schema.tables h.at (table_of form h.tree) h.stands.has.stands)

-- one table alone stands for a form
one_tree : (schema : Schema) (form : Form) (at tree at' tree' : ℕ) → Stands schema form at tree → Stands schema form at' tree' → tree ≡ tree'
one_tree schema form at tree at' tree' s t =
    let place : at ≡ at' = same_value (sym s.has.named ∙ t.has.named) in
    let there : Some (table_of form tree) ≡ Some (table_of form tree') = sym s.has.stands ∙ ap (slice_get schema.tables) place ∙ t.has.stands in
    ap (λ (u : Table). u.tree) (same_value there)
  where
    same_value : {X : Type 0} {x y : X} → Some x ≡ Some y → x ≡ y
    same_value h = cc

abbrev RowsApart : List Row → Type 0
RowsApart rows = IsAscending HaveOtherRowids rows × AllByRecursion (λ r. IsRowid (rowid r)) rows

apart_if : (db : Database) (form : Form) (h : HasForm db.schema form) → RowsApart (db.trees h.tree) → AreApart form db
apart_if db form h rows at tree s = subst (λ tree. RowsApart (db.trees tree)) (one_tree db.schema form h.at h.tree at tree h.stands s) rows

pub apart_missing : (db : Database) (form : Form) → table_named db.schema form.name ≡ None → AreApart form db
apart_missing db form none at tree s = absurd cc

-- a table that is made has no rows
pub apart_made : (after last : Database) (form : Form) → Extends after last → (h : HasForm after.schema form) → after.trees h.tree ≡ [] → AreApart form last
apart_made after last form e h empty = apart_if last form (still_formed after last form e h) (subst RowsApart (sym (trees_still after last form e h ∙ empty)) (tt, tt))

pub apart_still : (old new : Database) (form : Form) → Extends old new → HasForm old.schema form → AreApart form old → AreApart form new
apart_still old new form e h apart = apart_if new form (still_formed old new form e h) (subst RowsApart (sym (trees_still old new form e h)) (apart h.at h.tree h.stands))

-- ---- what they tell

pub rows_are : (ours : Ours) (db : Database) (at tree : ℕ) → Stands db.schema ours.form at tree → rows_in ours db ≡ told ours (db.trees tree)
rows_are ours db at tree s = rw (s.has.named, s.has.stands)

pub rows_missing : (ours : Ours) (db : Database) → table_named db.schema ours.form.name ≡ None → rows_in ours db ≡ []
rows_missing ours db missing = rw missing

pub rows_still : (ours : Ours) (old new : Database) → Extends old new → HasForm old.schema ours.form → rows_in ours new ≡ rows_in ours old
rows_still ours old new e h =
    rows_are ours new h.at h.tree (still_stands old new ours.form h.at h.tree e h.stands)
    ∙ ap (told ours) (trees_still old new ours.form e h)
    ∙ sym (rows_are ours old h.at h.tree h.stands)
