-- The rows that a DELETE leaves: those that do not pass its test.
use Rattle.std.proofs.Common.{◌≡◌, ℤ, List, [], ◌∷◌, map, filter, Bool, true, false, not, ◌&&◌, ◌||◌, refl, sym, ap, ◌∙◌, IsPermutation, Ordering, Less, Equal, Greater, cond}
use Rattle.std.specs.List.{list_any, AllByRecursion}
use Rattle.std.specs.Ordering.{is_eq, ordering_reverse}
use Rattle.std.proofs.lemmas.List.Sorted.{IsPermutation-map, list_any-IsPermutation}
use Rattle.std.proofs.lemmas.Cmp.{tied_itself}
use Rattle.sqlite_value.proofs.OrderLemmas.{value_cmp_total}
use Rattle.sqlite.specs.declared.types.Value.{Value}
use Rattle.sqlite.specs.declared.types.Value.TheVariants.{Null, Int, Real, Text, Blob}
use Rattle.sqlite.specs.Order.{Row}
use Rattle.sqlite_value.specs.Order.{value_cmp}
use Rattle.sqlite.specs.Tree.{rowid, has_rowid, without_rowid}
use Rattle.sqlite_trees.specs.Tree.{IsAscending}
use Rattle.aq_tables.specs.Standing.{HaveOtherRowids}
use Rattle.sqlite_trees.specs.View.{is_int}
use Rattle.sqlite_rules.specs.Edit.{id_in, without_all}
use Rattle.sqlite_rules.specs.Calls.{ids_of}

abbrev pub any_has : List ℤ → Row → Bool
any_has ids r = list_any (λ id. has_rowid id r) ids

kept_twice : (p q : Row → Bool) (rows : List Row) → filter p (filter q rows) ≡ filter (λ r. q r && p r) rows
kept_twice p q [] = refl
kept_twice p q (r ∷ rows) = go (q r) (p r) refl (kept_twice p q rows)
  where
    go : (b c : Bool) → p r ≡ c → filter p (filter q rows) ≡ filter (λ r. q r && p r) rows
        → filter p (cond b (r ∷ filter q rows) (filter q rows)) ≡ cond (b && c) (r ∷ filter (λ r. q r && p r) rows) (filter (λ r. q r && p r) rows)
    go true true is more = rw is (ap (λ l. r ∷ l) more)
    go true false is more = rw is more
    go false c is more = more

same_filter : (p q : Row → Bool) (rows : List Row) → AllByRecursion (λ r. p r ≡ q r) rows → filter p rows ≡ filter q rows
same_filter p q [] all = refl
same_filter p q (r ∷ rows) all = rw all.0 (ap (λ l. cond (q r) (r ∷ l) l) (same_filter p q rows all.1))

everywhere : {X : Type 0} (P : X → Type 0) → ((x : X) → P x) → (xs : List X) → AllByRecursion P xs
everywhere P h [] = tt
everywhere P h (x ∷ xs) = (h x, everywhere P h xs)

de_morgan : (a b : Bool) → (not a && not b) ≡ not (a || b)
de_morgan true b = refl
de_morgan false b = refl

pub without_all_is : (ids : List ℤ) (rows : List Row) → without_all rows ids ≡ filter (λ r. not (any_has ids r)) rows
without_all_is [] rows = sym (all_kept rows)
  where
    all_kept : (rows : List Row) → filter (λ r. true) rows ≡ rows
    all_kept [] = refl
    all_kept (r ∷ rows) = ap (λ l. r ∷ l) (all_kept rows)
without_all_is (id ∷ ids) rows =
    without_all_is ids (without_rowid id rows) ∙ kept_twice _ _ rows ∙ same_filter _ _ rows (everywhere _ (λ r. de_morgan (has_rowid id r) (any_has ids r)) rows)

-- the rows have integers for rowids
abbrev pub HaveRowids : List Row → Type 0
HaveRowids = AllByRecursion (λ r. is_int (rowid r) ≡ true)

abbrev same_id : Row → Row → Bool
same_id y r = is_eq (value_cmp (rowid r) (rowid y))

pub int_id : (v : Value) → is_int v ≡ true → v ≡ Int (id_in v)
int_id Null is = absurd cc
int_id (Int n) is = refl
int_id (Real x) is = absurd cc
int_id (Text t) is = absurd cc
int_id (Blob b) is = absurd cc

same-reversed : (o : Ordering) → is_eq (ordering_reverse o) ≡ is_eq o
same-reversed Less = refl
same-reversed Equal = refl
same-reversed Greater = refl

pub other_rowids : (a b : Row) → HaveOtherRowids a b → HaveOtherRowids b a
other_rowids a b h = ap is_eq (value_cmp_total.antisymm (rowid b) (rowid a)) ∙ same-reversed (value_cmp (rowid a) (rowid b)) ∙ h

-- of the rows that pass, the one with the rowid of a row is that row
module _ (p : Row → Bool) where
  none_later : (r : Row) (rows : List Row) → AllByRecursion (HaveOtherRowids r) rows → list_any (λ y. same_id y r) (filter p rows) ≡ false
  none_later r [] later = refl
  none_later r (y ∷ rows) later = go (p y) (none_later r rows later.1)
    where
      go : (b : Bool) → list_any (λ y. same_id y r) (filter p rows) ≡ false → list_any (λ y. same_id y r) (cond b (y ∷ filter p rows) (filter p rows)) ≡ false
      go true more = rw later.0 more
      go false more = more

  found : (rows : List Row) → IsAscending HaveOtherRowids rows → AllByRecursion (λ r. list_any (λ y. same_id y r) (filter p rows) ≡ p r) rows
  found [] up = tt
  found (x ∷ rows) up = (head (p x) refl (none_later x rows up.0), tail (p x) rows up.0 (found rows up.1))
    where
      head : (b : Bool) → p x ≡ b → list_any (λ y. same_id y x) (filter p rows) ≡ false → list_any (λ y. same_id y x) (cond (p x) (x ∷ filter p rows) (filter p rows)) ≡ p x
      head true is none = rw (is, tied_itself value_cmp_total (rowid x))
      head false is none = rw is none

      tail : (b : Bool) (some : List Row) → AllByRecursion (HaveOtherRowids x) some → AllByRecursion (λ r. list_any (λ y. same_id y r) (filter p rows) ≡ p r) some
          → AllByRecursion (λ r. list_any (λ y. same_id y r) (cond b (x ∷ filter p rows) (filter p rows)) ≡ p r) some
      tail b [] later all = tt
      tail true (r ∷ some) later all = (rw (other_rowids x r later.0) all.0, tail true some later.1 all.1)
      tail false (r ∷ some) later all = (all.0, tail false some later.1 all.1)

-- the ids of the rows that pass, in any order, find just the rows that pass
pub taken : (p : Row → Bool) (rows : List Row) (read : List Row) → IsAscending HaveOtherRowids rows → HaveRowids rows → IsPermutation (map (λ r. rowid r ∷ []) (filter p rows)) read
    → without_all rows (ids_of read) ≡ filter (λ r. not (p r)) rows
taken p rows read apart ints same = without_all_is (ids_of read) rows ∙ same_filter _ _ rows (all_ap (found p rows apart))
  where
    by_ids : (some : List Row) → HaveRowids some → (r : Row) → any_has (ids_of (map (λ y. rowid y ∷ []) some)) r ≡ list_any (λ y. same_id y r) some
    by_ids [] ints r = refl
    by_ids (y ∷ some) ints r = ap (λ v. is_eq (value_cmp (rowid r) v) || any_has (ids_of (map (λ y. rowid y ∷ []) some)) r) (sym (int_id (rowid y) ints.0)) ∙ ap (λ b. same_id y r || b) (by_ids some ints.1 r)

    passing_ints : (some : List Row) → HaveRowids some → HaveRowids (filter p some)
    passing_ints [] ints = tt
    passing_ints (y ∷ some) ints = go (p y) (passing_ints some ints.1)
      where
        go : (b : Bool) → HaveRowids (filter p some) → HaveRowids (cond b (y ∷ filter p some) (filter p some))
        go true more = (ints.0, more)
        go false more = more

    all_ap : AllByRecursion (λ r. list_any (λ y. same_id y r) (filter p rows) ≡ p r) rows → AllByRecursion (λ r. not (any_has (ids_of read) r) ≡ not (p r)) rows
    all_ap = go rows
      where
        go : (some : List Row) → AllByRecursion (λ r. list_any (λ y. same_id y r) (filter p rows) ≡ p r) some → AllByRecursion (λ r. not (any_has (ids_of read) r) ≡ not (p r)) some
        go [] all = tt
        go (r ∷ some) all =
            (ap not (sym (list_any-IsPermutation (λ id. has_rowid id r) _ _ (IsPermutation-map (λ (y : Row). id_in (rowid y)) _ _ same)) ∙ by_ids (filter p rows) (passing_ints rows ints) r ∙ all.0), go some all.1)
