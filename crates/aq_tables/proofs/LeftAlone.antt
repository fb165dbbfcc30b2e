-- What is left alone where the tables of today are made: each table but that of before, with its rows and indexes, and each view.
use Rattle.std.proofs.Common.{◌≡◌, ◌≢◌, inl, inr, ◌==◌, ◌&&◌, eqb, not, ℕ, suc, List, [], ◌∷◌, ◌++◌, Bool, true, false, cond, Some, None, is_some, MatchBool, find, filter, slice_get, refl, sym, ap, subst, ◌∙◌, eq-eqb}
use Rattle.std.specs.List.{AllByRecursion, list_any}
use Rattle.std.proofs.lemmas.Bool.{false≢true, not-true, or_from}
use Rattle.std.proofs.lemmas.List.{append-nil}
use Rattle.std.proofs.lemmas.List.Elements.{filter-append}
use Rattle.std.proofs.lemmas.List.Folds.{list_any-append}
use Rattle.sqlite.specs.Schema.{Schema}
use Rattle.sqlite.specs.Table.{Table}
use Rattle.sqlite.specs.Does.{is_acted_on}
use Rattle.sqlite.specs.Effect.{Database}
use Rattle.sqlite_schema.specs.declared.schema.Index.{Index}
use Rattle.sqlite_schema.specs.declared.schema.Keys.TheVariants.{Enforced}
use Rattle.sqlite_schema.specs.declared.schema.Reference.{Reference}
use Rattle.sqlite_schema.specs.Names.{table_named, same_name}
use Rattle.sqlite_rules.specs.Action.{deed_for}
use Rattle.sqlite_rules.specs.Lists.{Has as Holds}
use Rattle.sqlite_rules.proofs.ListLemmas.{all_has, all_from, has_left, has_filtered, has_kept}
use Rattle.sqlite_catalog.proofs.ListFacts.{none_placed}
use Rattle.sqlite_catalog.proofs.StepLemmas.{same_itself}
use Rattle.sqlite_keyed.proofs.ListLemmas.{all-append, all-filter, all_of, all_weaker, filter_all, filter_same}
use Rattle.aq_tables.specs.Forms.{Form, table_of, second_form}
use Rattle.aq_tables.specs.Standing.{IsChildless, Stands}
use Rattle.aq_tables.specs.Made.{IsAdded, IsSpared, IsThere, LeavesOthers, is_former, is_named, other_tables}
use Rattle.aq_tables.specs.Moves.{AddsView, Extends, LosesSecond, MakesForm}
use Rattle.aq_tables.specs.Sixteen.{KeepsOthers}
use Rattle.aq_tables.specs.Told.{second}
use Rattle.aq_tables.proofs.Extending.{keyless, still_stands}

-- ---- lists

place_in : {X : Type 0} (xs : List X) (x : X) → Holds xs x → (at : ℕ) × (slice_get xs at ≡ Some x)
place_in [] x there = absurd there
place_in (y ∷ xs) x (inl same) = (0, ap Some (sym same))
place_in (y ∷ xs) x (inr there) = let rest = place_in xs x there in (suc rest.0, rest.1)

-- the first one that passes is in front, if one passes there
found_in_front : {X : Type 0} (q : X → Bool) (xs ys : List X) (x y : X) → Holds xs x → q x ≡ true → find q (xs ++ ys) ≡ Some y → Holds xs y
found_in_front q [] ys x y there hit is = absurd there
found_in_front q (z ∷ xs) ys x y there hit is = go (q z) refl there is (λ on e. found_in_front q xs ys x y on hit e)
  where
    go : (b : Bool) → q z ≡ b → Holds (z ∷ xs) x → cond b (Some z) (find q (xs ++ ys)) ≡ Some y → (Holds xs x → find q (xs ++ ys) ≡ Some y → Holds xs y) → Holds (z ∷ xs) y
    go true e there is more = inl cc
    go false e (inl same) is more = absurd (false≢true (sym e ∙ ap q (sym same) ∙ hit))
    go false e (inr on) is more = inr (more on is)

second_part : (b c : Bool) → b ≡ true → (b && c) ≡ false → c ≡ false
second_part true c is h = h
second_part false c is h = absurd (false≢true is)

-- ---- a table that is made has a tree of its own

pub own_tree : (form : Form) (old new : Database) (m : MakesForm form old new) (t : Table) → Holds old.schema.tables t → t.tree ≢ m.formed.tree
own_tree form old new m t there same =
    let q = λ (u : Table). u.tree == m.formed.tree in
    let made = table_of form m.formed.tree in
    let among = found_in_front q old.schema.tables m.extends.more t made there (eq-eqb t.tree m.formed.tree same) (sym (ap (find q) m.extends.tables) ∙ m.formed.stands.sole) in
    false≢true (sym (none_placed (λ (u : Table). same_name u.name form.name) old.schema.tables 0 made m.missing among) ∙ same_itself form.name)

-- ---- which tables are another than that of before

none_former : (schema : Schema) → table_named schema second_form.name ≡ None → (tree : ℕ) → is_former schema tree ≡ false
none_former schema none tree = rw none refl

former_is : (schema : Schema) (at tree : ℕ) → Stands schema second_form at tree → (t : ℕ) → is_former schema t ≡ eqb t tree
former_is schema at tree s t = rw (s.has.named, s.has.stands) refl

all_other : {X : Type 0} (tree : X → ℕ) (schema : Schema) (xs : List X) → table_named schema second_form.name ≡ None → filter (λ x. not (is_former schema (tree x))) xs ≡ xs
all_other tree schema xs none = filter_all (λ x. not (is_former schema (tree x))) xs (all_of (λ x. not (is_former schema (tree x)) ≡ true) (λ x. ap not (none_former schema none (tree x))) xs)

-- where nothing is made, and the table of before is missing
pub leaves_here : (db : Database) → table_named db.schema second_form.name ≡ None → LeavesOthers db db
leaves_here db none = record {
  more = [];
  tables = sym (append-nil (other_tables db.schema) ∙ all_other (λ (t : Table). t.tree) db.schema db.schema.tables none);
  added = tt;
  further = [];
  indexes = sym (append-nil (filter (λ (i : Index). not (is_former db.schema i.table)) db.schema.indexes) ∙ all_other (λ (i : Index). i.table) db.schema db.schema.indexes none);
  our_views = [];
  views = sym (append-nil db.schema.views);
  viewed = tt;
  rows = all_from _ (other_tables db.schema) (λ t there spared. refl);
}

-- ---- a foreign key that acts where a row of the table of before is deleted

abbrev acts : Reference → Bool
acts ref = same_name second_form.name ref.parent && is_some (deed_for Enforced true ref)

none_act : (more : List Table) → AllByRecursion IsAdded more → list_any (λ (t : Table). list_any acts t.references) more ≡ false
none_act [] all = refl
none_act (t ∷ more) all = or_from (list_any acts t.references) (list_any (λ (u : Table). list_any acts u.references) more) (ap (list_any acts) (keyless t all.0)) (none_act more all.1)

-- ---- all steps

-- from a to c tables are made, to d rows are put into one of those, to e the table of before is dropped, and to f the view is made
module _ (a c d e f : Database) (x : Extends a c) (schema : d.schema ≡ c.schema) (tree : ℕ) (kept : KeepsOthers tree c d) (own : (t : Table) → Holds a.schema.tables t → t.tree ≢ tree)
    (is_missing : Bool) (there : IsThere is_missing second a) (dropped : MatchBool is_missing (e ≡ d) (LosesSecond d e)) (v : AddsView e f) where
  abbrev is_other : Table → Bool
  is_other t = not (is_former a.schema t.tree)

  abbrev is_on_other : Index → Bool
  is_on_other i = not (is_former a.schema i.table)

  tables_d : d.schema.tables ≡ a.schema.tables ++ x.more
  tables_d = ap (λ (s : Schema). s.tables) schema ∙ x.tables

  in_d : (t : Table) → Holds a.schema.tables t → Holds d.schema.tables t
  in_d t was = subst (λ (ts : List Table). Holds ts t) (sym tables_d) (has_left a.schema.tables x.more t was)

  childless_d : (t : Table) → AllByRecursion (IsChildless t.tree) a.schema.tables → AllByRecursion (IsChildless t.tree) d.schema.tables
  childless_d t alone = subst (AllByRecursion (IsChildless t.tree)) (sym tables_d) (all-append _ a.schema.tables x.more alone (all_weaker IsAdded (IsChildless t.tree) (λ u one same. keyless u one) x.more x.added))

  calm_d : is_acted_on a.schema Enforced (table_of second_form 0) ≡ false → is_acted_on d.schema Enforced (table_of second_form 0) ≡ false
  calm_d calm =
      let acting = λ (t : Table). list_any acts t.references in
      ap (list_any acting) tables_d ∙ list_any-append acting a.schema.tables x.more ∙ or_from (list_any acting a.schema.tables) (list_any acting x.more) calm (none_act x.more x.added)

  record IsDropped : Type 0 where
    tables : e.schema.tables ≡ filter is_other d.schema.tables
    indexes : e.schema.indexes ≡ filter is_on_other d.schema.indexes
    views : e.schema.views ≡ d.schema.views
    rows : (t : Table) → Holds a.schema.tables t → is_former a.schema t.tree ≡ false → IsSpared a.schema t → e.trees t.tree ≡ d.trees t.tree

  is_dropped : IsDropped
  is_dropped = go is_missing there dropped
    where
      go : (k : Bool) → IsThere k second a → MatchBool k (e ≡ d) (LosesSecond d e) → IsDropped
      go true none same = record {
        tables = ap (λ (db : Database). db.schema.tables) same ∙ sym (all_other (λ (t : Table). t.tree) a.schema d.schema.tables none);
        indexes = ap (λ (db : Database). db.schema.indexes) same ∙ sym (all_other (λ (i : Index). i.table) a.schema d.schema.indexes none);
        views = ap (λ (db : Database). db.schema.views) same;
        rows = λ t was other spared. ap (λ (db : Database). db.trees t.tree) same;
      }
      go false h loses =
          let s = h.has.stands in
          let l = loses h.at h.tree (subst (λ (k : Schema). Stands k second_form h.at h.tree) (sym schema) (still_stands a c second_form h.at h.tree x s)) in
          record {
            tables = l.tables ∙ filter_same _ is_other (λ t. ap not (sym (former_is a.schema h.at h.tree s t.tree))) d.schema.tables;
            indexes = l.indexes ∙ filter_same _ is_on_other (λ i. ap not (sym (former_is a.schema h.at h.tree s i.table))) d.schema.indexes;
            views = l.views;
            rows = λ t was other spared.
                let apart : eqb t.tree h.tree ≡ false = sym (former_is a.schema h.at h.tree s t.tree) ∙ other in
                elim spared [
                  | inl calm ↦ all_has (λ (u : Table). e.trees u.tree ≡ d.trees u.tree) (filter (λ (u : Table). not (u.tree == h.tree)) d.schema.tables) t
                      (l.spared (calm_d (second_part (is_named a.schema second_form) _ (ap is_some s.has.named) calm))) (has_kept _ d.schema.tables t (in_d t was) (ap not apart))
                  | inr alone ↦ (let at = place_in d.schema.tables t (in_d t was) in l.others at.0 t at.1 (λ same. false≢true (sym apart ∙ eq-eqb t.tree h.tree same)) (childless_d t alone))
                ];
          }

  rows_stay : (t : Table) → Holds a.schema.tables t → is_former a.schema t.tree ≡ false → IsSpared a.schema t → f.trees t.tree ≡ a.trees t.tree
  rows_stay t was other spared =
      let made : c.trees t.tree ≡ a.trees t.tree = all_has (λ (u : Table). c.trees u.tree ≡ a.trees u.tree) a.schema.tables t x.rows was in
      let in_c = subst (λ (ts : List Table). Holds ts t) (sym x.tables) (has_left a.schema.tables x.more t was) in
      let put : d.trees t.tree ≡ c.trees t.tree = all_has (λ (u : Table). u.tree ≢ tree → d.trees u.tree ≡ c.trees u.tree) c.schema.tables t kept in_c (own t was) in
      let in_e = subst (λ (ts : List Table). Holds ts t) (sym is_dropped.tables) (has_kept is_other d.schema.tables t (in_d t was) (ap not other)) in
      let viewed : f.trees t.tree ≡ e.trees t.tree = all_has (λ (u : Table). f.trees u.tree ≡ e.trees u.tree) e.schema.tables t v.rows in_e in
      viewed ∙ is_dropped.rows t was other spared ∙ put ∙ made

  pub leaves : LeavesOthers a f
  leaves = record {
    more = filter is_other x.more;
    tables = v.tables ∙ is_dropped.tables ∙ ap (filter is_other) tables_d ∙ filter-append is_other a.schema.tables x.more;
    added = all-filter IsAdded is_other x.more x.added;
    further = filter is_on_other x.further;
    indexes = v.indexes ∙ is_dropped.indexes ∙ ap (filter is_on_other) (ap (λ (s : Schema). s.indexes) schema ∙ x.indexes) ∙ filter-append is_on_other a.schema.indexes x.further;
    our_views = v.view ∷ [];
    views = v.views ∙ ap (λ l. l ++ v.view ∷ []) (is_dropped.views ∙ ap (λ (s : Schema). s.views) schema ∙ x.views);
    viewed = (v.ours, tt);
    rows = all_from _ (other_tables a.schema) (λ t among. let was = has_filtered is_other a.schema.tables t among in rows_stay t was.0 (not-true _ was.1));
  }
