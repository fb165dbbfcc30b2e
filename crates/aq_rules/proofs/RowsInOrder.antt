-- Rows in the order of their keys stay in it when a row is put or dropped.
use Rattle.std.proofs.Common.{◌≡◌, ℕ, ◌⊎◌, Bool, true, false, cond, not, ◌&&◌, ◌||◌, List, [], ◌∷◌, map, refl, sym, ap, ◌∙◌, arith, inl, inr, subst}
use Rattle.std.specs.Prelude.{ℤ, pos, negsuc, int_lt, nat_lt, ◌==◌, filter}
use Rattle.std.specs.Ordering.{int_eq}
use Rattle.std.proofs.lemmas.Bool.{false≢true, and_from, and_parts, cases_Bool}
use Rattle.std.proofs.lemmas.Bool.Decides.{nat_tests, Decides-int_eq}
use lib.Pointwise.{pointwise, pointwise_decides}
use Rattle.aq_rules.specs.Kept.Rows.{Row}
use Rattle.aq_rules.specs.Kept.RowChanges.{RowKey, row_key, columns, columns_before, key_before, is_same_row_key, keys_rise, keys_rise_from, put_row, RowChange, PutRow, DropRow, with_row_change}
use Rattle.aq_rules.proofs.Tests.{int_is}

-- ---- columns

less-chain : (a b c : ℕ) → nat_lt a b ≡ true → nat_lt b c ≡ true → nat_lt a c ≡ true
less-chain a b c h k = grind (arith, nat_tests)

int-chain : (x y z : ℤ) → int_lt x y ≡ true → int_lt y z ≡ true → int_lt x z ≡ true
int-chain (pos a) (pos b) (pos c) h k = less-chain a b c h k
int-chain (pos a) (pos b) (negsuc c) h k = absurd (false≢true k)
int-chain (pos a) (negsuc b) z h k = absurd (false≢true h)
int-chain (negsuc a) (pos b) (pos c) h k = refl
int-chain (negsuc a) (pos b) (negsuc c) h k = absurd (false≢true k)
int-chain (negsuc a) (negsuc b) (pos c) h k = refl
int-chain (negsuc a) (negsuc b) (negsuc c) h k = less-chain c b a k h

less-other : (a b : ℕ) → nat_lt a b ≡ false → (a ≡ b → ⊥) → nat_lt b a ≡ true
less-other a b h other = elim (cases_Bool (a == b)) [ inl e ↦ absurd (other (grind (arith, nat_tests))) | inr d ↦ grind (arith, nat_tests) ]

int-other : (x y : ℤ) → int_lt x y ≡ false → (x ≡ y → ⊥) → int_lt y x ≡ true
int-other (pos a) (pos b) h other = less-other a b h (λ e. other (ap pos e))
int-other (pos a) (negsuc b) h other = refl
int-other (negsuc a) (pos b) h other = absurd (false≢true (sym h))
int-other (negsuc a) (negsuc b) h other = less-other b a h (λ e. other (ap negsuc (sym e)))

low : (x y : ℤ) (rest : Bool) → int_lt x y ≡ true → (int_lt x y || rest) ≡ true
low x y rest h = ap (λ b. b || rest) h

tie : (x y : ℤ) (rest : Bool) → x ≡ y → rest ≡ true → (int_lt x y || (int_eq x y && rest)) ≡ true
tie x y rest same h =
    elim (cases_Bool (int_lt x y)) [
      | inl l ↦ low x y (int_eq x y && rest) l
      | inr g ↦ (λ i. g i || ((Decides-int_eq x y).1 same i && h i))
    ]

cases : (x y : ℤ) (rest : Bool) → (int_lt x y || (int_eq x y && rest)) ≡ true → (int_lt x y ≡ true) ⊎ ((x ≡ y) × (rest ≡ true))
cases x y rest h =
    elim (cases_Bool (int_lt x y)) [
      | inl l ↦ inl l
      | inr g ↦
          let parts = and_parts (int_eq x y) rest (sym (ap (λ b. b || (int_eq x y && rest)) g) ∙ h) in
          inr (int_is x y parts.0, parts.1)
    ]

pub columns-chain : (a b c : List ℤ) → columns_before a b ≡ true → columns_before b c ≡ true → columns_before a c ≡ true
columns-chain a [] c p q = absurd (false≢true p)
columns-chain a (y ∷ b) [] p q = absurd (false≢true q)
columns-chain [] (y ∷ b) (z ∷ c) p q = refl
columns-chain (x ∷ a) (y ∷ b) (z ∷ c) p q =
    elim (cases x y (columns_before a b) p) [
      | inl l ↦ elim (cases y z (columns_before b c) q) [
        | inl m ↦ low x z _ (int-chain x y z l m)
        | inr m ↦ low x z _ (subst (λ w. int_lt x w ≡ true) m.0 l)
      ]
      | inr l ↦ elim (cases y z (columns_before b c) q) [
        | inl m ↦ low x z _ (subst (λ w. int_lt w z ≡ true) (sym l.0) m)
        | inr m ↦ tie x z (columns_before a c) (l.0 ∙ m.0) (columns-chain a b c l.1 m.1)
      ]
    ]

columns-other : (a b : List ℤ) → columns_before a b ≡ false → pointwise int_eq a b ≡ false → columns_before b a ≡ true
columns-other [] [] p q = absurd (false≢true (sym q))
columns-other [] (y ∷ b) p q = absurd (false≢true (sym p))
columns-other (x ∷ a) [] p q = refl
columns-other (x ∷ a) (y ∷ b) p q =
    elim (cases_Bool (int_lt x y)) [
      | inl l ↦ absurd (false≢true (sym p ∙ low x y (int_eq x y && columns_before a b) l))
      | inr g ↦ elim (cases_Bool (int_eq x y)) [
        | inr other ↦ low y x _ (int-other x y g (λ e. false≢true (sym other ∙ (Decides-int_eq x y).1 e)))
        | inl same ↦
            let not_before : columns_before a b ≡ false = sym (λ i. g i || (same i && columns_before a b)) ∙ p in
            let not_same : pointwise int_eq a b ≡ false = sym (ap (λ e. e && pointwise int_eq a b) same) ∙ q in
            tie y x (columns_before b a) (sym (int_is x y same)) (columns-other a b not_before not_same)
      ]
    ]

-- ---- keys

int-irreflexive : (x : ℤ) → int_lt x x ≡ false
int-irreflexive (pos a) = grind (arith, nat_tests)
int-irreflexive (negsuc a) = grind (arith, nat_tests)

columns-irreflexive : (a : List ℤ) → columns_before a a ≡ false
columns-irreflexive [] = refl
columns-irreflexive (x ∷ a) = λ i. int-irreflexive x i || ((Decides-int_eq x x).1 refl i && columns-irreflexive a i)

-- a key that comes before another does not come after it, and is another
pub before-not_after : (a b : RowKey) → key_before a b ≡ true → key_before b a ≡ false
before-not_after a b h =
    elim (cases_Bool (key_before b a)) [
      | inl k ↦ absurd (false≢true (sym (columns-irreflexive (columns a)) ∙ columns-chain (columns a) (columns b) (columns a) h k))
      | inr k ↦ k
    ]

pub before-apart : (a b : RowKey) → key_before a b ≡ true → is_same_row_key b a ≡ false
before-apart a b h =
    elim (cases_Bool (is_same_row_key b a)) [
      | inl same ↦
          let equal : columns b ≡ columns a = (pointwise_decides Decides-int_eq (columns b) (columns a)).0 same in
          absurd (false≢true (sym (columns-irreflexive (columns a)) ∙ subst (λ (c : List ℤ). columns_before (columns a) c ≡ true) equal h))
      | inr other ↦ other
    ]

From : RowKey → List Row → Type 0
From key rows = keys_rise_from key (map row_key rows) ≡ true

same-from : (k l : RowKey) (keys : List RowKey) → columns k ≡ columns l → keys_rise_from k keys ≡ keys_rise_from l keys
same-from k l [] same = refl
same-from k l (key ∷ keys) same = ap (λ c. columns_before c (columns key) && keys_rise_from key keys) same

pub from-earlier : (k l : RowKey) (keys : List RowKey) → key_before k l ≡ true → keys_rise_from l keys ≡ true → keys_rise_from k keys ≡ true
from-earlier k l [] p q = refl
from-earlier k l (key ∷ keys) p q =
    let parts = and_parts (key_before l key) (keys_rise_from key keys) q in
    and_from (key_before k key) (keys_rise_from key keys) (columns-chain (columns k) (columns l) (columns key) p parts.0) parts.1

pub rest-rises : (key : RowKey) (keys : List RowKey) → keys_rise_from key keys ≡ true → keys_rise keys ≡ true
rest-rises key [] p = refl
rest-rises key (next ∷ keys) p = (and_parts (key_before key next) (keys_rise_from next keys) p).1

module _ (row : Row) where
  put-from : (key : RowKey) (rows : List Row) → key_before key (row_key row) ≡ true → From key rows → From key (put_row row rows)
  unfolding From
  put-from key [] p q = and_from (key_before key (row_key row)) true p refl
  put-from key (first ∷ rows) p q =
      let parts = and_parts (key_before key (row_key first)) (keys_rise_from (row_key first) (map row_key rows)) q in
      by_tests (key_before (row_key row) (row_key first)) (is_same_row_key (row_key row) (row_key first)) refl refl parts.0 parts.1 (λ h. put-from (row_key first) rows h parts.1)
    where
      by_tests : (b s : Bool) → key_before (row_key row) (row_key first) ≡ b → is_same_row_key (row_key row) (row_key first) ≡ s → key_before key (row_key first) ≡ true → From (row_key first) rows
          → (key_before (row_key first) (row_key row) ≡ true → From (row_key first) (put_row row rows))
          → From key (cond b (row ∷ first ∷ rows) (cond s (row ∷ rows) (first ∷ put_row row rows)))
      by_tests true s e f one rest next = and_from (key_before key (row_key row)) _ p (and_from (key_before (row_key row) (row_key first)) _ e rest)
      by_tests false true e f one rest next =
          let same : columns (row_key row) ≡ columns (row_key first) = (pointwise_decides Decides-int_eq (columns (row_key row)) (columns (row_key first))).0 f in
          and_from (key_before key (row_key row)) _ p (same-from (row_key row) (row_key first) (map row_key rows) same ∙ rest)
      by_tests false false e f one rest next =
          and_from (key_before key (row_key first)) _ one (next (columns-other (columns (row_key row)) (columns (row_key first)) e f))

  put-rises : (rows : List Row) → keys_rise (map row_key rows) ≡ true → keys_rise (map row_key (put_row row rows)) ≡ true
  unfolding From
  put-rises [] p = refl
  put-rises (first ∷ rows) p =
      by_tests (key_before (row_key row) (row_key first)) (is_same_row_key (row_key row) (row_key first)) refl refl (λ h. put-from (row_key first) rows h p)
    where
      by_tests : (b s : Bool) → key_before (row_key row) (row_key first) ≡ b → is_same_row_key (row_key row) (row_key first) ≡ s
          → (key_before (row_key first) (row_key row) ≡ true → From (row_key first) (put_row row rows))
          → keys_rise (map row_key (cond b (row ∷ first ∷ rows) (cond s (row ∷ rows) (first ∷ put_row row rows)))) ≡ true
      by_tests true s e f next = and_from (key_before (row_key row) (row_key first)) _ e p
      by_tests false true e f next =
          let same : columns (row_key row) ≡ columns (row_key first) = (pointwise_decides Decides-int_eq (columns (row_key row)) (columns (row_key first))).0 f in
          same-from (row_key row) (row_key first) (map row_key rows) same ∙ p
      by_tests false false e f next = next (columns-other (columns (row_key row)) (columns (row_key first)) e f)

filter-from : (keep : Row → Bool) (key : RowKey) (rows : List Row) → From key rows → From key (filter keep rows)
unfolding From
filter-from keep key [] p = refl
filter-from keep key (first ∷ rows) p =
    let parts = and_parts (key_before key (row_key first)) (keys_rise_from (row_key first) (map row_key rows)) p in
    by_test (keep first) parts.0 (filter-from keep (row_key first) rows parts.1) (filter-from keep key rows (from-earlier key (row_key first) (map row_key rows) parts.0 parts.1))
  where
    by_test : (b : Bool) → key_before key (row_key first) ≡ true → From (row_key first) (filter keep rows) → From key (filter keep rows) → From key (cond b (first ∷ filter keep rows) (filter keep rows))
    by_test true one here there = and_from (key_before key (row_key first)) _ one here
    by_test false one here there = there

filter-rises : (keep : Row → Bool) (rows : List Row) → keys_rise (map row_key rows) ≡ true → keys_rise (map row_key (filter keep rows)) ≡ true
unfolding From
filter-rises keep [] p = refl
filter-rises keep (first ∷ rows) p = by_test (keep first) (filter-from keep (row_key first) rows p) (filter-rises keep rows (rest-rises (row_key first) (map row_key rows) p))
  where
    by_test : (b : Bool) → From (row_key first) (filter keep rows) → keys_rise (map row_key (filter keep rows)) ≡ true → keys_rise (map row_key (cond b (first ∷ filter keep rows) (filter keep rows))) ≡ true
    by_test true here there = here
    by_test false here there = there

pub changed-rises : (rows : List Row) (change : RowChange) → keys_rise (map row_key rows) ≡ true → keys_rise (map row_key (with_row_change rows change)) ≡ true
changed-rises rows (PutRow row) p = put-rises row rows p
changed-rises rows (DropRow key) p = filter-rises (λ row. not (is_same_row_key (row_key row) key)) rows p
