-- The members of a sheet's object: in byte order, and in a well formed sheet each of them once.
use Rattle.std.proofs.Common.{◌≡◌, ℕ, Bool, true, false, cond, not, ◌||◌, List, [], ◌∷◌, ◌++◌, map, refl, sym, ◌∙◌, subst, append-nil}
use Rattle.std.specs.Prelude.{bytes_eq, codes, fold}
use Rattle.std.specs.List.{list_any}
use Rattle.std.specs.List.Sorted.{IsPermutation}
use Rattle.std.proofs.lemmas.List.Sorted.{IsPermutation-refl, IsPermutation-trans, IsPermutation-cons, IsPermutation-append_right, IsPermutation-middle, IsPermutation-sym, list_any-IsPermutation}
use Rattle.std.proofs.lemmas.List.Folds.{list_any-append}
use Rattle.std.proofs.lemmas.Slice.Eq.{bytes_eq-Decides}
use Rattle.std.proofs.lemmas.Bool.{and_parts, not-true, or_parts}
use Rattle.aq_rules.specs.Office.Office.{is_same, comes_before, rises, with_row}
use Rattle.aq_rules.specs.Shown.Sheet.{SheetCell, Head, Sheet}
use Rattle.aq_rules.specs.Shown.Json.{Member, head_member, table_members, members_of}
use Rattle.aq_rules.specs.Shown.WellFormed.{all_differ, names_in, IsWellFormed}
use Rattle.aq_rules.proofs.Elements.{Every}
use Rattle.aq_rules.specs.Office.RowOrder.{with_row-rises}

abbrev name_of : Member → List ℕ
name_of m = m.name

abbrev onto : List Member → Member → List Member
onto done member = with_row name_of member done

-- ---- the order

fold-rises : (members done : List Member) → rises name_of done ≡ true → rises name_of (fold onto done members) ≡ true
fold-rises [] done h = h
fold-rises (m ∷ members) done h = fold-rises members (onto done m) (with_row-rises name_of m done h)

pub members-rise : (sheet : Sheet) → rises name_of (members_of sheet) ≡ true
members-rise sheet = fold-rises (map head_member sheet.heads ++ table_members sheet.columns sheet.rows) [] refl

-- ---- each of them once

-- no member has this name
abbrev IsNew : List ℕ → List Member → Type 0
IsNew name members = list_any (λ (m : Member). bytes_eq name m.name) members ≡ false

with_row-moved : (m : Member) (rows : List Member) → IsNew m.name rows → IsPermutation (m ∷ rows) (with_row name_of m rows)
with_row-moved m [] new = IsPermutation-refl (m ∷ [])
with_row-moved m (first ∷ rows) new =
    let parts = or_parts (bytes_eq m.name first.name) (list_any (λ (o : Member). bytes_eq m.name o.name) rows) new in
    by_tests (comes_before m.name first.name) (is_same m.name first.name) parts.0 (with_row-moved m rows parts.1)
  where
    by_tests : (a b : Bool) → b ≡ false → IsPermutation (m ∷ rows) (with_row name_of m rows)
        → IsPermutation (m ∷ first ∷ rows) (cond a (m ∷ first ∷ rows) (cond b (m ∷ rows) (first ∷ with_row name_of m rows)))
    by_tests true b h rest = IsPermutation-refl (m ∷ first ∷ rows)
    by_tests false true h rest = cc
    by_tests false false h rest =
        IsPermutation-trans (m ∷ first ∷ rows) (first ∷ m ∷ rows) (first ∷ with_row name_of m rows)
        (IsPermutation-sym (first ∷ m ∷ rows) (m ∷ first ∷ rows) (IsPermutation-middle (first ∷ []) m rows))
        (IsPermutation-cons first (m ∷ rows) (with_row name_of m rows) rest)

apart : (a b : List ℕ) → bytes_eq a b ≡ false → bytes_eq b a ≡ false
apart a b h = by_test (bytes_eq b a) refl
  where
    by_test : (t : Bool) → bytes_eq b a ≡ t → t ≡ false
    by_test false e = refl
    by_test true e = let same : bytes_eq a b ≡ true = (bytes_eq-Decides a b).1 (sym ((bytes_eq-Decides b a).0 e)) in cc

others-apart : (name : List ℕ) (ms : List Member) → list_any (bytes_eq name) (map name_of ms) ≡ false → Every (λ (o : Member). bytes_eq name o.name ≡ false) ms
others-apart name [] h = tt
others-apart name (o ∷ ms) h =
    let parts = or_parts (bytes_eq name o.name) (list_any (bytes_eq name) (map name_of ms)) h in (parts.0, others-apart name ms parts.1)

-- the members that are left are new
abbrev AllNew : List Member → List Member → Type 0
AllNew ms done = Every (λ (o : Member). IsNew o.name done) ms

still-new : (m : Member) (done ms : List Member) → IsNew m.name done → AllNew ms done → Every (λ (o : Member). bytes_eq m.name o.name ≡ false) ms → AllNew ms (onto done m)
still-new m done [] new news others = tt
still-new m done (o ∷ ms) new news others =
    let before : IsNew o.name (m ∷ done) = or_false (bytes_eq o.name m.name) (list_any (λ (x : Member). bytes_eq o.name x.name) done) (apart m.name o.name others.0) news.0 in (
      sym (list_any-IsPermutation (λ (x : Member). bytes_eq o.name x.name) (m ∷ done) (onto done m) (with_row-moved m done new)) ∙ before,
      still-new m done ms new news.1 others.1,
    )
  where
    or_false : (a b : Bool) → a ≡ false → b ≡ false → (a || b) ≡ false
    or_false true b h k = cc
    or_false false b h k = k

fold-moved : (ms done : List Member) → all_differ (map name_of ms) ≡ true → AllNew ms done → IsPermutation (ms ++ done) (fold onto done ms)
fold-moved [] done differ news = IsPermutation-refl done
fold-moved (m ∷ ms) done differ news =
    let parts = and_parts (not (list_any (bytes_eq m.name) (map name_of ms))) (all_differ (map name_of ms)) differ in
    let others = others-apart m.name ms (not-true (list_any (bytes_eq m.name) (map name_of ms)) parts.0) in
    IsPermutation-trans (m ∷ (ms ++ done)) (ms ++ m ∷ done) (fold onto (onto done m) ms)
    (IsPermutation-sym (ms ++ m ∷ done) (m ∷ (ms ++ done)) (IsPermutation-middle ms m done))
    (IsPermutation-trans (ms ++ m ∷ done) (ms ++ onto done m) (fold onto (onto done m) ms)
    (IsPermutation-append_right ms (m ∷ done) (onto done m) (with_row-moved m done news.0))
    (fold-moved ms (onto done m) parts.1 (still-new m done ms news.0 news.1 others)))

none-new : (ms : List Member) → AllNew ms []
none-new [] = tt
none-new (m ∷ ms) = (refl, none-new ms)

-- ---- a sheet's members

front-differs : (xs ys : List (List ℕ)) → all_differ (xs ++ ys) ≡ true → all_differ xs ≡ true
front-differs [] ys h = refl
front-differs (x ∷ xs) ys h =
    let parts = and_parts (not (list_any (bytes_eq x) (xs ++ ys))) (all_differ (xs ++ ys)) h in
    let none = not-true (list_any (bytes_eq x) (xs ++ ys)) parts.0 in
    let front = or_parts (list_any (bytes_eq x) xs) (list_any (bytes_eq x) ys) (sym (list_any-append (bytes_eq x) xs ys) ∙ none) in
    let first : list_any (bytes_eq x) xs ≡ false = front.0 in
    rw first (front-differs xs ys parts.1)

names-of : (heads : List Head) (table : List Member) → map name_of (map head_member heads ++ table) ≡ map (λ (head : Head). head.name) heads ++ map name_of table
names-of [] table = refl
names-of (head ∷ heads) table = λ i. head.name ∷ names-of heads table i

differ : (heads : List Head) (columns : List (List ℕ)) (rows : List (List SheetCell)) → all_differ (names_in heads) ≡ true
    → all_differ (map name_of (map head_member heads ++ table_members columns rows)) ≡ true
differ heads [] rows h =
    let P : List (List ℕ) → Type 0 = λ l. all_differ l ≡ true in
    subst P (sym (names-of heads [])) (subst P (sym (append-nil (map (λ (head : Head). head.name) heads))) (front-differs (map (λ (head : Head). head.name) heads) (codes "columns" ∷ codes "rows" ∷ []) h))
differ heads (column ∷ columns) rows h =
    let P : List (List ℕ) → Type 0 = λ l. all_differ l ≡ true in
    subst P (sym (names-of heads (table_members (column ∷ columns) rows))) h

pub members-once : (sheet : Sheet) → IsWellFormed sheet → IsPermutation (map head_member sheet.heads ++ table_members sheet.columns sheet.rows) (members_of sheet)
members-once sheet formed =
    let ms = map head_member sheet.heads ++ table_members sheet.columns sheet.rows in
    let P : List Member → Type 0 = λ l. IsPermutation l (members_of sheet) in
    subst P (append-nil ms) (fold-moved ms [] (differ sheet.heads sheet.columns sheet.rows formed.names_differ) (none-new ms))
