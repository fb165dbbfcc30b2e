-- Rows in the order of their keys: whatever order they come in, and after one is put or dropped.
use Rattle.std.proofs.Common.{◌≡◌, zero, suc, Bool, true, false, not, cond, List, [], ◌∷◌, refl, sym, ap, ◌∙◌, arith, Ordering, Less, Equal, Greater, is_lt, is_eq, IsPermutation, IsSorted, add-one}
use Rattle.std.specs.List.{AllByRecursion}
use Rattle.std.specs.Cmp.{IsTotalOrder}
use Rattle.std.specs.Ordering.{ordering_reverse}
use Rattle.std.proofs.lemmas.Cmp.{int_cmp_total, on_total, lists_total}
use Rattle.std.proofs.lemmas.Bool.{false≢true}
use Rattle.std.proofs.lemmas.List.Sorted.{IsPermutation-refl, IsPermutation-cons, IsPermutation-trans, IsPermutation-middle, IsPermutation-sym, All-permutation}
use Rattle.std.proofs.lemmas.List.Elements.{recursion_from_All, All-from_recursion}
use Rattle.sqlite_trees.specs.Tree.{IsAscending}
use Rattle.sqlite_keyed.proofs.SortLemmas.{sorted_unique}
use Rattle.sqlite_keyed.proofs.ListLemmas.{all_weaker, ascending_weaker, ascending-filter, IsPermutation-filter}
use Rattle.aq_keeper.specs.KeyView.{key_order}
use Rattle.aq_keeper.proofs.KeyOrder.{before_key, same_key, before-trans, before-not_behind, neither-same}
use Rattle.aq_rules.specs.Kept.Rows.{Row}
use Rattle.aq_rules.specs.Kept.RowChanges.{RowKey, columns, row_key, key_before, is_same_row_key, put_row, drop_row}
use Rattle.aq_tables.specs.Standing.{HaveOtherKeys}
use Rattle.aq_tables.specs.Told.{in_order, HaveNot}

abbrev pub order : Row → Row → Ordering
order a b = key_order (row_key a) (row_key b)

key_total : IsTotalOrder key_order
key_total = on_total columns (lists_total int_cmp_total)

order_total : IsTotalOrder order
order_total = on_total row_key key_total

abbrev pub Before : Row → Row → Type 0
Before a b = key_before (row_key a) (row_key b) ≡ true

less : (o : Ordering) → is_lt o ≡ true → o ≡ Less
less Less h = refl
less Equal h = absurd (false≢true h)
less Greater h = absurd (false≢true h)

same-reversed : (o : Ordering) → is_eq (ordering_reverse o) ≡ is_eq o
same-reversed Less = refl
same-reversed Equal = refl
same-reversed Greater = refl

pub same-flip : (a b : RowKey) → is_same_row_key a b ≡ is_same_row_key b a
same-flip a b = sym (same_key a b) ∙ ap is_eq (key_total.antisymm a b) ∙ same-reversed (key_order b a) ∙ same_key b a

-- of two other keys, the one that does not come before comes after
after-other : (a b : RowKey) → is_same_row_key a b ≡ false → key_before a b ≡ false → key_before b a ≡ true
after-other a b other h = go (key_before b a) refl
  where
    go : (k : Bool) → key_before b a ≡ k → k ≡ true
    go true is = refl
    go false is = absurd (false≢true (sym other ∙ (neither-same a b h is).0))

-- ---- a row is put

abbrev pub Apart : Row → List Row → Type 0
Apart row rows = AllByRecursion (HaveOtherKeys row) rows

all-put : (P : Row → Type 0) (row : Row) (rows : List Row) → P row → AllByRecursion P rows → AllByRecursion P (put_row row rows)
all-put P row [] h all = (h, tt)
all-put P row (first ∷ rows) h all =
    elim (key_before (row_key row) (row_key first)) as (λ b. AllByRecursion P (cond b (row ∷ first ∷ rows) (cond (is_same_row_key (row_key row) (row_key first)) (row ∷ rows) (first ∷ put_row row rows)))) [
      | true ↦ (h, all)
      | false ↦ elim (is_same_row_key (row_key row) (row_key first)) as (λ b. AllByRecursion P (cond b (row ∷ rows) (first ∷ put_row row rows))) [ true ↦ (h, all.1) | false ↦ (all.0, all-put P row rows h all.1) ]
    ]

pub put-permutes : (row : Row) (rows : List Row) → Apart row rows → IsPermutation (put_row row rows) (row ∷ rows)
put-permutes row [] apart = IsPermutation-refl _
put-permutes row (first ∷ rows) apart =
    rw apart.0 (elim (key_before (row_key row) (row_key first)) as (λ b. IsPermutation (cond b (row ∷ first ∷ rows) (first ∷ put_row row rows)) (row ∷ first ∷ rows)) [
      | true ↦ IsPermutation-refl _
      | false ↦ IsPermutation-trans _ _ _ (IsPermutation-cons first _ _ (put-permutes row rows apart.1)) (IsPermutation-middle (first ∷ []) row rows)
    ])

put-rises : (row : Row) (rows : List Row) → Apart row rows → IsAscending Before rows → IsAscending Before (put_row row rows)
put-rises row [] apart up = (tt, tt)
put-rises row (first ∷ rows) apart up = rw apart.0 (go (key_before (row_key row) (row_key first)) refl (put-rises row rows apart.1 up.1))
  where
    go : (b : Bool) → key_before (row_key row) (row_key first) ≡ b → IsAscending Before (put_row row rows) → IsAscending Before (cond b (row ∷ first ∷ rows) (first ∷ put_row row rows))
    go true before more = ((before, all_weaker _ (Before row) (λ other. before-trans (row_key row) (row_key first) (row_key other) before) rows up.0), up)
    go false h more = (all-put (Before first) row rows (after-other (row_key row) (row_key first) apart.0 h) up.0, more)

-- ---- rows in order

abbrev pub AreApart : List Row → Type 0
AreApart = IsAscending HaveOtherKeys

pub all-in_order : (P : Row → Type 0) (rows : List Row) → AllByRecursion P rows → AllByRecursion P (in_order rows)
all-in_order P [] all = tt
all-in_order P (row ∷ rows) all = all-put P row (in_order rows) all.0 (all-in_order P rows all.1)

pub rises : (rows : List Row) → AreApart rows → IsAscending Before (in_order rows)
rises [] apart = tt
rises (row ∷ rows) apart = put-rises row (in_order rows) (all-in_order _ rows apart.0) (rises rows apart.1)

pub permutes : (rows : List Row) → AreApart rows → IsPermutation (in_order rows) rows
permutes [] apart = IsPermutation-refl []
permutes (row ∷ rows) apart =
    IsPermutation-trans _ _ _ (put-permutes row (in_order rows) (all-in_order _ rows apart.0)) (IsPermutation-cons row _ _ (permutes rows apart.1))

-- rows that rise are sorted
not_greater : (a b : Row) → Before a b → is_lt (order b a) ≡ false
not_greater a b h = before_key (row_key b) (row_key a) ∙ before-not_behind (row_key a) (row_key b) h

sorted : (rows : List Row) → IsAscending Before rows → IsSorted order rows
sorted [] up k d low high = absurd (omega (arith, high))
sorted (a ∷ []) up k d low high = absurd (omega (arith, high))
sorted (a ∷ b ∷ rows) up zero d low high = not_greater a b up.0.0
sorted (a ∷ b ∷ rows) up (suc k) d low high = rw add-one (rw add-one at (sorted (b ∷ rows) up.1 k d (omega arith) (omega (arith, high))))

-- two lists of the same rows that rise are one
pub one_order : (xs ys : List Row) → IsAscending Before xs → IsAscending Before ys → IsPermutation xs ys → ys ≡ xs
one_order xs ys up too same =
    sorted_unique order order_total xs ys (ascending_weaker Before (λ a b. order a b ≡ Less) (λ a b h. less _ (before_key (row_key a) (row_key b) ∙ h)) xs up) same (sorted ys too)

pub in_order_alike : (xs ys : List Row) → AreApart xs → AreApart ys → IsPermutation xs ys → in_order xs ≡ in_order ys
in_order_alike xs ys apart other same =
    one_order (in_order ys) (in_order xs) (rises ys other) (rises xs apart)
    (IsPermutation-trans _ _ _ (permutes ys other) (IsPermutation-trans _ _ _ (IsPermutation-sym xs ys same) (IsPermutation-sym _ _ (permutes xs apart))))

-- a row is dropped before or after
pub drop-in_order : (key : RowKey) (rows : List Row) → AreApart rows → in_order (drop_row key rows) ≡ drop_row key (in_order rows)
drop-in_order key rows apart =
    let p = λ (row : Row). not (is_same_row_key (row_key row) key) in
    let less = ascending-filter HaveOtherKeys p rows apart in
    one_order (drop_row key (in_order rows)) (in_order (drop_row key rows)) (ascending-filter Before p _ (rises rows apart)) (rises _ less)
    (IsPermutation-trans _ _ _ (IsPermutation-filter p _ _ (permutes rows apart)) (IsPermutation-sym _ _ (permutes _ less)))

-- once it is dropped no row has the key
pub dropped : (key : RowKey) (rows : List Row) → HaveNot key (drop_row key rows)
dropped key [] = tt
dropped key (row ∷ rows) = go (is_same_row_key (row_key row) key) refl (dropped key rows)
  where
    go : (b : Bool) → is_same_row_key (row_key row) key ≡ b → HaveNot key (drop_row key rows) → HaveNot key (cond (not b) (row ∷ drop_row key rows) (drop_row key rows))
    go true is more = more
    go false is more = (is, more)

-- rows in order have the keys that the rows have
pub have_not : (key : RowKey) (rows : List Row) → AreApart rows → HaveNot key (in_order rows) → HaveNot key rows
have_not key rows apart none =
    let P = λ (row : Row). is_same_row_key (row_key row) key ≡ false in
    recursion_from_All P rows (All-permutation P (in_order rows) rows (permutes rows apart) (All-from_recursion P (in_order rows) none))
