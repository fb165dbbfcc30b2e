-- The order of keys is a total one, by which rows rise.
use Rattle.std.proofs.Common.{◌≡◌, ℕ, ℤ, pos, true, false, ◌&&◌, cond, refl, ap, sym, ◌∙◌, List, [], ◌∷◌, arith}
use Rattle.std.specs.Prelude.{int_lt, ◌||◌, map}
use Rattle.std.specs.declared.cmp.Ordering.{Ordering}
use Rattle.std.specs.declared.cmp.Ordering.TheVariants.{Less, Equal, Greater}
use Rattle.std.specs.Ordering.{int_cmp, int_eq, nat_cmp, ordering_then, ordering_reverse, is_eq, is_lt}
use Rattle.std.specs.Cmp.{IsTotalOrder}
use Rattle.std.proofs.lemmas.Bool.{false≢true}
use Rattle.std.proofs.lemmas.Bool.Decides.{nat_tests}
use Rattle.std.specs.Cmp.Lexicographic.{slice_cmp}
use Rattle.std.proofs.lemmas.Cmp.{int_cmp_total, on_total, lists_total}
use lib.Pointwise.{pointwise}
use Rattle.aq_keeper.specs.contracts.key.KeyViewOrd.TheImpl as derived
use Rattle.aq_keeper.specs.declared.key.KeyView.{KeyView}
use Rattle.aq_keeper.specs.declared.key.KeyView.TheVariants.{Office, Observation, Load, Second}
use Rattle.aq_keeper.specs.KeyView.{key_seen, key_order, is_load}
use Rattle.aq_rules.specs.Kept.RowChanges.{RowKey, OfficeRowKey, ObsRowKey, LoadRowKey, SecondRowKey, batch_before, columns, columns_before, key_before, is_same_row_key}

key_total : IsTotalOrder key_order
key_total = on_total columns (lists_total int_cmp_total)

before-columns : (xs ys : List ℤ) → is_lt (slice_cmp int_cmp xs ys) ≡ columns_before xs ys
before-columns [] [] = refl
before-columns (x ∷ xs) [] = refl
before-columns [] (y ∷ ys) = refl
before-columns (x ∷ xs) (y ∷ ys) =
    elim (int_lt x y) as (λ l. is_lt (ordering_then (cond l Less (cond (int_lt y x) Greater Equal)) (slice_cmp int_cmp xs ys)) ≡ (l || (is_eq (cond l Less (cond (int_lt y x) Greater Equal)) && is_lt (slice_cmp int_cmp xs ys)))) [
      | true ↦ refl
      | false ↦ elim (int_lt y x) as (λ g. is_lt (ordering_then (cond g Greater Equal) (slice_cmp int_cmp xs ys)) ≡ (is_eq (cond g Greater Equal) && is_lt (slice_cmp int_cmp xs ys))) [ true ↦ refl | false ↦ refl ]
    ]
    ∙ ap (λ b. int_lt x y || (int_eq x y && b)) (before-columns xs ys)

pub before_key : (a b : RowKey) → is_lt (key_order a b) ≡ key_before a b
before_key a b = before-columns (columns a) (columns b)

is_eq-then : (o p : Ordering) → is_eq (ordering_then o p) ≡ (is_eq o && is_eq p)
is_eq-then Less p = refl
is_eq-then Equal p = refl
is_eq-then Greater p = refl

pub same-columns : (xs ys : List ℤ) → is_eq (slice_cmp int_cmp xs ys) ≡ pointwise int_eq xs ys
same-columns [] [] = refl
same-columns (x ∷ xs) [] = refl
same-columns [] (y ∷ ys) = refl
same-columns (x ∷ xs) (y ∷ ys) = is_eq-then (int_cmp x y) (slice_cmp int_cmp xs ys) ∙ ap (λ b. int_eq x y && b) (same-columns xs ys)

pub same_key : (a b : RowKey) → is_eq (key_order a b) ≡ is_same_row_key a b
same_key a b = same-columns (columns a) (columns b)

-- in a batch loads come last
pub batch_by_load : (a b : RowKey) → batch_before a b ≡ cond (is_load a) (is_load b && key_before a b) (is_load b || key_before a b)
batch_by_load (LoadRowKey number) (LoadRowKey other) = refl
batch_by_load (OfficeRowKey kind key) (LoadRowKey other) = refl
batch_by_load (ObsRowKey site pollutant poc hour) (LoadRowKey other) = refl
batch_by_load (SecondRowKey site pollutant poc hour) (LoadRowKey other) = refl
batch_by_load a b = refl

-- ---- the derived order of lent keys

cmp-pos : (x y : ℕ) → nat_cmp x y ≡ int_cmp (pos x) (pos y)
cmp-pos x y = grind (arith, nat_tests)

pub cmp-texts : (xs ys : List ℕ) → slice_cmp nat_cmp xs ys ≡ slice_cmp int_cmp (map pos xs) (map pos ys)
cmp-texts [] [] = refl
cmp-texts [] (y ∷ ys) = refl
cmp-texts (x ∷ xs) [] = refl
cmp-texts (x ∷ xs) (y ∷ ys) = λ i. ordering_then (cmp-pos x y i) (cmp-texts xs ys i)

last : (o : Ordering) → o ≡ ordering_then o Equal
last Less = refl
last Equal = refl
last Greater = refl

pub derived-order : (a b : KeyView) → (derived.ghosts).cmp a b ≡ key_order (key_seen a) (key_seen b)
derived-order (Office kind key) (Office other text) = ap (ordering_then (int_cmp kind other)) (cmp-texts key.now text.now)
derived-order (Observation site pollutant poc hour) (Observation s p c h) =
    ap (λ o. ordering_then (int_cmp site s) (ordering_then (int_cmp pollutant p) (ordering_then (int_cmp poc c) o))) (last (int_cmp hour h))
derived-order (Load number) (Load other) = last (int_cmp number other)
derived-order (Second site pollutant poc hour) (Second s p c h) =
    ap (λ o. ordering_then (int_cmp site s) (ordering_then (int_cmp pollutant p) (ordering_then (int_cmp poc c) o))) (last (int_cmp hour h))
derived-order a b = refl

-- ---- what the order gives

less : (o : Ordering) → is_lt o ≡ true → o ≡ Less
less Less h = refl
less Equal h = absurd (false≢true h)
less Greater h = absurd (false≢true h)

equal : (o : Ordering) → is_eq o ≡ true → o ≡ Equal
equal Less h = absurd (false≢true h)
equal Equal h = refl
equal Greater h = absurd (false≢true h)

comes_first : (a b : RowKey) → key_before a b ≡ true → key_order a b ≡ Less
comes_first a b h = less (key_order a b) (before_key a b ∙ h)

comes_last : (a b : RowKey) → key_before a b ≡ true → key_order b a ≡ Greater
comes_last a b h = key_total.antisymm b a ∙ ap ordering_reverse (comes_first a b h)

pub before-trans : (a b c : RowKey) → key_before a b ≡ true → key_before b c ≡ true → key_before a c ≡ true
before-trans a b c h k = sym (before_key a c) ∙ ap is_lt (key_total.trans a b c (comes_first a b h) (comes_first b c k))

pub before-not_behind : (a b : RowKey) → key_before a b ≡ true → key_before b a ≡ false
before-not_behind a b h = sym (before_key b a) ∙ ap is_lt (comes_last a b h)

pub before-not_same : (a b : RowKey) → key_before a b ≡ true → is_same_row_key a b ≡ false
before-not_same a b h = sym (same_key a b) ∙ ap is_eq (comes_first a b h)

pub behind-not_same : (a b : RowKey) → key_before a b ≡ true → is_same_row_key b a ≡ false
behind-not_same a b h = sym (same_key b a) ∙ ap is_eq (comes_last a b h)

pub same-before : (a b c : RowKey) → is_same_row_key a b ≡ true → key_before a c ≡ true → key_before b c ≡ true
same-before a b c same h =
    sym (before_key b c) ∙ ap is_lt (sym (key_total.congr a b c (equal (key_order a b) (same_key a b ∙ same)))) ∙ before_key a c ∙ h

three_ways : (o : Ordering) → is_lt o ≡ false → is_lt (ordering_reverse o) ≡ false → (is_eq o ≡ true) × (is_eq (ordering_reverse o) ≡ true)
three_ways Less h k = absurd (false≢true (sym h))
three_ways Equal h k = (refl, refl)
three_ways Greater h k = absurd (false≢true (sym k))

-- neither comes before the other
pub neither-same : (a b : RowKey) → key_before a b ≡ false → key_before b a ≡ false → (is_same_row_key a b ≡ true) × (is_same_row_key b a ≡ true)
neither-same a b h k =
    let turned = key_total.antisymm b a in
    let both = three_ways (key_order a b) (before_key a b ∙ h) (ap is_lt (sym turned) ∙ before_key b a ∙ k) in
    (sym (same_key a b) ∙ both.0, sym (same_key b a) ∙ ap is_eq turned ∙ both.1)
