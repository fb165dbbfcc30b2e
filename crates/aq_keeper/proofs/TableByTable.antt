-- Rows of the four tables, changed table by table.
use Rattle.std.proofs.Common.{◌≡◌, ℕ, ◌<◌, ◌==◌, pos, Bool, true, false, not, cond, List, [], ◌∷◌, ◌++◌, drop, refl, ap, sym, ◌∙◌, subst, arith}
use Rattle.std.specs.Prelude.{int_lt, ◌||◌, ◌&&◌}
use Rattle.std.specs.Ordering.{int_eq}
use Rattle.std.proofs.lemmas.Bool.Decides.{nat_tests}
use Rattle.std.proofs.lemmas.List.Elements.{filter-append}
use Rattle.aq_rules.specs.Kept.Rows.{Row}
use Rattle.aq_rules.specs.Kept.RowChanges.{RowKey, OfficeRowKey, ObsRowKey, LoadRowKey, SecondRowKey, RowChange, PutRow, DropRow, row_key, columns, columns_before, changed_key, key_before, is_same_row_key, put_row, drop_row, with_row_change, with_row_changes}
use Rattle.aq_keeper.specs.KeyView.{table_of_key}
use Rattle.aq_keeper.specs.Rising.{AreBefore, AreBehind, AreIn, IsTable, Rise, changes_in, keys_of_rows}
use Rattle.aq_keeper.proofs.RisingLemmas.{put-past, drop-past, drop-none}

-- ---- keys of one table stand before those of the next

columns-are : (key : RowKey) → columns key ≡ pos (table_of_key key) ∷ drop 1 (columns key)
columns-are (OfficeRowKey kind key) = refl
columns-are (ObsRowKey site pollutant poc hour) = refl
columns-are (LoadRowKey number) = refl
columns-are (SecondRowKey site pollutant poc hour) = refl

below : (m n : ℕ) → m < n → int_lt (pos m) (pos n) ≡ true
below m n low = grind (arith, nat_tests)

table-before : (a b : RowKey) → table_of_key a < table_of_key b → key_before a b ≡ true
table-before a b low =
    (λ i. columns_before (columns-are a i) (columns-are b i))
    ∙ ap (λ t. t || (int_eq (pos (table_of_key a)) (pos (table_of_key b)) && columns_before (drop 1 (columns a)) (drop 1 (columns b)))) (below (table_of_key a) (table_of_key b) low)

rows-before : (key : RowKey) (table : ℕ) (rows : List Row) → AreIn table rows → table < table_of_key key → AreBefore key rows
rows-before key table [] all low = tt
rows-before key table (row ∷ rows) all low =
    (table-before (row_key row) key (subst (λ t. t < table_of_key key) (sym all.0) low), rows-before key table rows all.1 low)

before-both : (key : RowKey) (front back : List Row) → AreBefore key front → AreBefore key back → AreBefore key (front ++ back)
before-both key [] back one two = two
before-both key (row ∷ front) back one two = (one.0, before-both key front back one.1 two)

rows-behind : (key : RowKey) (table : ℕ) (rows : List Row) → AreIn table rows → table_of_key key < table → AreBehind key (keys_of_rows rows)
rows-behind key table [] all low = tt
rows-behind key table (row ∷ rows) all low =
    (table-before key (row_key row) (subst (λ t. table_of_key key < t) (sym all.0) low), rows-behind key table rows all.1 low)

-- ---- a change among rows that all stand before its key, or behind it

past : (change : RowChange) (front back : List Row) → AreBefore (changed_key change) front → with_row_change (front ++ back) change ≡ front ++ with_row_change back change
past (PutRow row) front back before = put-past row front back before
past (DropRow key) front back before = drop-past key front back before

put-ahead : (row : Row) (front back : List Row) → AreBehind (row_key row) (keys_of_rows back) → put_row row (front ++ back) ≡ put_row row front ++ back
put-ahead row [] [] behind = refl
put-ahead row [] (first ∷ back) behind =
    ap (λ b. cond b (row ∷ first ∷ back) (cond (is_same_row_key (row_key row) (row_key first)) (row ∷ back) (first ∷ put_row row back))) behind.0
put-ahead row (first ∷ front) back behind =
    let rest = put-ahead row front back behind in
    elim (key_before (row_key row) (row_key first)) as (λ b. cond b (row ∷ first ∷ front ++ back) (cond (is_same_row_key (row_key row) (row_key first)) (row ∷ front ++ back) (first ∷ put_row row (front ++ back))) ≡ cond b (row ∷ first ∷ front) (cond (is_same_row_key (row_key row) (row_key first)) (row ∷ front) (first ∷ put_row row front)) ++ back) [
      | true ↦ refl
      | false ↦ elim (is_same_row_key (row_key row) (row_key first)) as (λ b. cond b (row ∷ front ++ back) (first ∷ put_row row (front ++ back)) ≡ cond b (row ∷ front) (first ∷ put_row row front) ++ back) [
        | true ↦ refl
        | false ↦ ap (λ (rows : List Row). first ∷ rows) rest
      ]
    ]

ahead : (change : RowChange) (front back : List Row) → AreBehind (changed_key change) (keys_of_rows back) → with_row_change (front ++ back) change ≡ with_row_change front change ++ back
ahead (PutRow row) front back behind = put-ahead row front back behind
ahead (DropRow key) front back behind =
    filter-append (λ row. not (is_same_row_key (row_key row) key)) front back ∙ ap (λ (rows : List Row). drop_row key front ++ rows) (drop-none key back behind)

-- ---- rows stay in their table

put-in : (table : ℕ) (row : Row) (rows : List Row) → table_of_key (row_key row) ≡ table → AreIn table rows → AreIn table (put_row row rows)
put-in table row [] is all = (is, tt)
put-in table row (first ∷ rows) is all =
    let rest = put-in table row rows is all.1 in
    elim (key_before (row_key row) (row_key first)) as (λ b. AreIn table (cond b (row ∷ first ∷ rows) (cond (is_same_row_key (row_key row) (row_key first)) (row ∷ rows) (first ∷ put_row row rows)))) [
      | true ↦ (is, all)
      | false ↦ elim (is_same_row_key (row_key row) (row_key first)) as (λ b. AreIn table (cond b (row ∷ rows) (first ∷ put_row row rows))) [
        | true ↦ (is, all.1)
        | false ↦ (all.0, rest)
      ]
    ]

drop-in : (table : ℕ) (key : RowKey) (rows : List Row) → AreIn table rows → AreIn table (drop_row key rows)
drop-in table key [] all = tt
drop-in table key (first ∷ rows) all =
    let rest = drop-in table key rows all.1 in
    elim (is_same_row_key (row_key first) key) as (λ b. AreIn table (cond (not b) (first ∷ drop_row key rows) (drop_row key rows))) [
      | true ↦ rest
      | false ↦ (all.0, rest)
    ]

change-in : (table : ℕ) (change : RowChange) (rows : List Row) → table_of_key (changed_key change) ≡ table → AreIn table rows → AreIn table (with_row_change rows change)
change-in table (PutRow row) rows is all = put-in table row rows is all
change-in table (DropRow key) rows is all = drop-in table key rows all

same : (m n : ℕ) → (m == n) ≡ true → m ≡ n
same m n h = grind (arith, nat_tests)

all-in : (table : ℕ) (changes : List RowChange) (rows : List Row) → AreIn table rows → AreIn table (with_row_changes rows (changes_in table changes))
all-in table [] rows all = all
all-in table (change ∷ changes) rows all = by_test (table_of_key (changed_key change) == table) refl (all-in table changes)
  where
    by_test : (b : Bool) → (table_of_key (changed_key change) == table) ≡ b → ((rows : List Row) → AreIn table rows → AreIn table (with_row_changes rows (changes_in table changes)))
        → AreIn table (with_row_changes rows (cond b (change ∷ changes_in table changes) (changes_in table changes)))
    by_test true e rest = rest (with_row_change rows change) (change-in table change rows (same (table_of_key (changed_key change)) table e) all)
    by_test false e rest = rest rows all

-- ---- the tables one after the other

-- the changes of a table, if the first is of the table that a number says
abbrev picked : ℕ → ℕ → RowChange → List RowChange → List RowChange
picked table n change changes = cond (n == table) (change ∷ changes_in table changes) (changes_in table changes)

pub by_table : (a b c d : List Row) (changes : List RowChange) → AreIn 0 a → AreIn 1 b → AreIn 2 c → AreIn 3 d
    → with_row_changes (a ++ b ++ c ++ d) changes ≡ with_row_changes a (changes_in 0 changes) ++ with_row_changes b (changes_in 1 changes) ++ with_row_changes c (changes_in 2 changes) ++ with_row_changes d (changes_in 3 changes)
by_table a b c d [] ina inb inc ind = refl
by_table a b c d (change ∷ changes) ina inb inc ind = by_key (changed_key change) refl (λ a b c d ina inb inc ind. by_table a b c d changes ina inb inc ind)
  where
    key : RowKey
    key = changed_key change

    parts : ℕ → List Row
    parts n = with_row_changes a (picked 0 n change changes) ++ with_row_changes b (picked 1 n change changes) ++ with_row_changes c (picked 2 n change changes) ++ with_row_changes d (picked 3 n change changes)

    before : (table n : ℕ) (rows : List Row) → AreIn table rows → table_of_key key ≡ n → table < n → AreBefore key rows
    before table n rows all is low = rows-before key table rows all (subst (λ t. table < t) (sym is) low)

    behind : (table n : ℕ) (rows : List Row) → AreIn table rows → table_of_key key ≡ n → n < table → AreBehind key (keys_of_rows rows)
    behind table n rows all is low = rows-behind key table rows all (subst (λ t. t < table) (sym is) low)

    by_key : (k : RowKey) → changed_key change ≡ k
        → ((a b c d : List Row) → AreIn 0 a → AreIn 1 b → AreIn 2 c → AreIn 3 d → with_row_changes (a ++ b ++ c ++ d) changes ≡ with_row_changes a (changes_in 0 changes) ++ with_row_changes b (changes_in 1 changes) ++ with_row_changes c (changes_in 2 changes) ++ with_row_changes d (changes_in 3 changes))
        → with_row_changes (with_row_change (a ++ b ++ c ++ d) change) changes ≡ parts (table_of_key key)
    by_key (OfficeRowKey kind text) k next =
        let is : table_of_key key ≡ 0 = ap table_of_key k in
        ap (λ (rows : List Row). with_row_changes rows changes)
        (ahead change (a ++ b ++ c) d (behind 3 0 d ind is (omega arith)) ∙ ap (λ (rows : List Row). rows ++ d)
        (ahead change (a ++ b) c (behind 2 0 c inc is (omega arith)) ∙ ap (λ (rows : List Row). rows ++ c) (ahead change a b (behind 1 0 b inb is (omega arith)))))
        ∙ next (with_row_change a change) b c d (change-in 0 change a is ina) inb inc ind
        ∙ sym (ap parts is)
    by_key (ObsRowKey site pollutant poc hour) k next =
        let is : table_of_key key ≡ 1 = ap table_of_key k in
        ap (λ (rows : List Row). with_row_changes rows changes)
        (ahead change (a ++ b ++ c) d (behind 3 1 d ind is (omega arith)) ∙ ap (λ (rows : List Row). rows ++ d)
        (ahead change (a ++ b) c (behind 2 1 c inc is (omega arith)) ∙ ap (λ (rows : List Row). rows ++ c) (past change a b (before 0 1 a ina is (omega arith)))))
        ∙ next a (with_row_change b change) c d ina (change-in 1 change b is inb) inc ind
        ∙ sym (ap parts is)
    by_key (LoadRowKey number) k next =
        let is : table_of_key key ≡ 2 = ap table_of_key k in
        ap (λ (rows : List Row). with_row_changes rows changes)
        (ahead change (a ++ b ++ c) d (behind 3 2 d ind is (omega arith)) ∙ ap (λ (rows : List Row). rows ++ d)
        (past change (a ++ b) c (before-both key a b (before 0 2 a ina is (omega arith)) (before 1 2 b inb is (omega arith)))))
        ∙ next a b (with_row_change c change) d ina inb (change-in 2 change c is inc) ind
        ∙ sym (ap parts is)
    by_key (SecondRowKey site pollutant poc hour) k next =
        let is : table_of_key key ≡ 3 = ap table_of_key k in
        ap (λ (rows : List Row). with_row_changes rows changes)
        (past change (a ++ b ++ c) d (before-both key (a ++ b) c (before-both key a b (before 0 3 a ina is (omega arith)) (before 1 3 b inb is (omega arith))) (before 2 3 c inc is (omega arith))))
        ∙ next a b c (with_row_change d change) ina inb inc (change-in 3 change d is ind)
        ∙ sym (ap parts is)

-- ---- a table that was changed

pub rows-are : (table : ℕ) (batch changes : List RowChange) (old kept now : List Row) → kept ≡ old → changes ≡ changes_in table batch → now ≡ with_row_changes kept changes → now ≡ with_row_changes old (changes_in table batch)
rows-are table batch changes old kept now same picks made = made ∙ (λ i. with_row_changes (same i) (picks i))

pub still-table : (table : ℕ) (batch : List RowChange) (old now : List Row) → IsTable table old → now ≡ with_row_changes old (changes_in table batch) → Rise (keys_of_rows now) → IsTable table now
still-table table batch old now is made rise = (subst (AreIn table) (sym made) (all-in table batch old is.0), rise)
