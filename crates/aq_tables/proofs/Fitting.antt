-- Lists that are compared place by place, and the one table that has a tree.
use Rattle.std.proofs.Common.{◌≡◌, inl, inr, ◌^◌, ◌<◌, ◌≤◌, ◌+◌, ◌==◌, eqb, ℕ, zero, suc, List, [], ◌∷◌, length, take, map, filter, slice_index_or, Bool, true, false, cond, Some, None, Result, IfOk, IfErr, find, slice_get, refl, sym, ap, ap₂, subst, ◌∙◌, arith, add-one}
use Rattle.std.proofs.lemmas.Bool.{leb-false}
use Rattle.std.proofs.lemmas.Bool.Decides.{nat_tests}
use Rattle.std.proofs.lemmas.Option.{same_Some, slice_get_within}
use Rattle.sqlite.specs.declared.error.Error.{Error}
use Rattle.sqlite.specs.declared.error.Error.TheVariants.{SqliteFailure}
use Rattle.sqlite.specs.declared.error.ErrorCode.TheVariants.{NotADatabase}
use Rattle.sqlite.specs.Schema.{Schema}
use Rattle.sqlite.specs.Table.{Table}
use Rattle.sqlite_schema.specs.declared.schema.Column.{Column}
use Rattle.sqlite_schema.specs.Names.{table_named}
use Rattle.sqlite_rules.specs.Lists.{Has as Holds}
use Rattle.sqlite_rules.proofs.ListLemmas.{all_from, has_kept}
use Rattle.sqlite_catalog.proofs.AlterLemmas.{place_has}
use Rattle.aq_tables.specs.Forms.{Form, table_of}
use Rattle.aq_tables.specs.Standing.{IsChildless}
use Rattle.aq_tables.specs.Made.{IsMisformed, IsMissing, StandsAlone}

pub one_is : {X : Type 0} (xs : List X) (d : X) → length xs ≡ 1 → xs ≡ slice_index_or xs 0 d ∷ []
one_is [] d len = absurd (omega arith)
one_is (x ∷ []) d len = refl
one_is (x ∷ y ∷ xs) d len = absurd (omega arith)

pub same_first : {X : Type 0} (x y : X) → x ∷ [] ≡ y ∷ [] → x ≡ y
same_first x y h = cc

-- one place more is the same
pub next_same : {X Y : Type 0} (f : X → Y) (xs : List X) (ys : List Y) (n : ℕ) (d : X) (e : Y) → n < length xs → n < length ys → take n ys ≡ take n (map f xs) → slice_index_or ys n e ≡ f (slice_index_or xs n d)
    → take (n + 1) ys ≡ take (n + 1) (map f xs)
next_same f [] ys n d e in_xs in_ys same here = absurd (omega arith)
next_same f (x ∷ xs) [] n d e in_xs in_ys same here = absurd (omega arith)
next_same f (x ∷ xs) (y ∷ ys) zero d e in_xs in_ys same here = ap (λ z. z ∷ []) here
next_same f (x ∷ xs) (y ∷ ys) (suc n) d e in_xs in_ys same here =
    let more : take n ys ≡ take n (map f xs) = cc in
    let first : y ≡ f x = cc in
    rw add-one (ap₂ (λ z l. z ∷ l) first (rw add-one at (next_same f xs ys n d e (omega arith) (omega arith) more here)))

-- lists that are the same are so at each place
pub same_place : {X Y : Type 0} (f : X → Y) (xs : List X) (ys : List Y) (n : ℕ) (d : X) (e : Y) → n < length xs → ys ≡ map f xs → slice_index_or ys n e ≡ f (slice_index_or xs n d)
same_place f [] ys n d e in_xs is = absurd (omega arith)
same_place f (x ∷ xs) [] n d e in_xs is = absurd cc
same_place f (x ∷ xs) (y ∷ ys) zero d e in_xs is = cc
same_place f (x ∷ xs) (y ∷ ys) (suc n) d e in_xs is = let more : ys ≡ map f xs = cc in same_place f xs ys n d e (omega arith) more

-- ---- a table of a form, which alone has its tree

find-filter : {X : Type 0} (p : X → Bool) (xs : List X) → find p xs ≡ slice_get (filter p xs) 0
find-filter p [] = refl
find-filter p (x ∷ xs) = elim (p x) as (λ b. cond b (Some x) (find p xs) ≡ slice_get (cond b (x ∷ filter p xs) (filter p xs)) 0) [ true ↦ refl | false ↦ find-filter p xs ]

only_one : {X : Type 0} (z x : X) → Holds (z ∷ []) x → x ≡ z
only_one z x (inl same) = same
only_one z x (inr none) = absurd none

pub stands_alone : (schema : Schema) (form : Form) (at : ℕ) (t : Table) → table_named schema form.name ≡ Some at → slice_get schema.tables at ≡ Some t → t ≡ table_of form t.tree
    → length (filter (λ (u : Table). u.tree == t.tree) schema.tables) ≡ 1 → t.tree < 2 ^ 31 → StandsAlone schema form
stands_alone schema form at t named there is one low =
    let tables = schema.tables in
    let p = λ (u : Table). eqb u.tree t.tree in
    let left = filter p tables in
    let z = slice_index_or left 0 t in
    let alone : left ≡ z ∷ [] = one_is left t one in
    let own : (u : Table) → Holds tables u → eqb u.tree t.tree ≡ true → u ≡ z = λ u h hit. only_one z u (subst (λ l. Holds l u) alone (has_kept p tables u h hit)) in
    let is_z : t ≡ z = own t (place_has tables at t there) (grind (arith, nat_tests)) in
    record {
      formed = record {
        at = at;
        tree = t.tree;
        stands = record {
          has = record { named = named; stands = there ∙ ap Some is; untimed = refl };
          sole = find-filter p tables ∙ ap (λ l. slice_get l 0) alone ∙ ap Some (sym is_z ∙ is);
          low = grind (arith, nat_tests);
          childless = all_from (IsChildless t.tree) tables (λ u h same. let hit : eqb u.tree t.tree ≡ true = grind (arith, nat_tests) in ap (λ (v : Table). v.references) (own u h hit ∙ sym is_z ∙ is));
        };
      };
      alone = one;
    }

-- ---- a name stands for a table, and for none of the form that alone has its tree

module _ (schema : Schema) (form : Form) (at : ℕ) (named : table_named schema form.name ≡ Some at) where
  same_at : (alone : StandsAlone schema form) → alone.formed.at ≡ at
  same_at alone = let there = alone.formed.stands.has.named in cc

  stands_not : table_named schema form.name ≡ None → ⊥
  stands_not none = cc

  pub misformed_past : length schema.tables ≤ at → IsMisformed schema form
  misformed_past past true none = stands_not none
  misformed_past past false alone =
      let within = slice_get_within schema.tables alone.formed.at (table_of form alone.formed.tree) alone.formed.stands.has.stands in
      omega (arith, within, same_at alone)

  pub misformed_here : (t : Table) → slice_get schema.tables at ≡ Some t
      → (t ≡ table_of form t.tree → length (filter (λ (u : Table). u.tree == t.tree) schema.tables) ≡ 1 → t.tree < 2 ^ 31 → ⊥) → IsMisformed schema form
  misformed_here t there not_ours true none = stands_not none
  misformed_here t there not_ours false alone =
      let tree = alone.formed.tree in
      let stands = alone.formed.stands in
      let is : t ≡ table_of form tree = same_Some t (table_of form tree) (sym there ∙ subst (λ (n : ℕ). slice_get schema.tables n ≡ Some (table_of form tree)) (same_at alone) stands.has.stands) in
      let of_tree : t.tree ≡ tree = ap (λ (u : Table). u.tree) is in
      let low : tree < 2 ^ 31 = leb-false (2 ^ 31) tree stands.low in
      not_ours (is ∙ ap (table_of form) (sym of_tree)) (subst (λ (n : ℕ). length (filter (λ (u : Table). u.tree == n) schema.tables) ≡ 1) (sym of_tree) alone.alone) (subst (λ (n : ℕ). n < 2 ^ 31) (sym of_tree) low)

-- ---- what is said of a form is said of the one that has the same columns

pub missing_with : (r : Result Bool Error) (schema : Schema) (form : Form) (columns : List Column) → columns ≡ form.columns
    → IfOk r (λ missing. IsMissing missing schema (record form { columns = columns })) → IfOk r (λ missing. IsMissing missing schema form)
missing_with r schema form columns same h = subst (λ (cs : List Column). IfOk r (λ missing. IsMissing missing schema (record form { columns = cs }))) same h

pub misformed_with : (r : Result Bool Error) (schema : Schema) (form : Form) (columns : List Column) → columns ≡ form.columns
    → IfErr r (λ error. (error ≡ SqliteFailure NotADatabase) × IsMisformed schema (record form { columns = columns })) → IfErr r (λ error. (error ≡ SqliteFailure NotADatabase) × IsMisformed schema form)
misformed_with r schema form columns same h = subst (λ (cs : List Column). IfErr r (λ error. (error ≡ SqliteFailure NotADatabase) × IsMisformed schema (record form { columns = cs }))) same h
