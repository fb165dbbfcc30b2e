-- Rows that are changed at a key: those of the tables before and behind it stay as they are.
use Rattle.std.proofs.Common.{◌≡◌, Bool, true, false, not, cond, List, [], ◌∷◌, ◌++◌, refl, sym, ap, ◌∙◌}
use Rattle.std.specs.List.{AllByRecursion}
use Rattle.std.proofs.lemmas.List.Elements.{filter-append}
use Rattle.sqlite_trees.specs.Tree.{IsAscending}
use Rattle.sqlite_keyed.proofs.ListLemmas.{all-append, all_weaker}
use Rattle.aq_keeper.specs.Rising.{AreBefore}
use Rattle.aq_keeper.proofs.KeyOrder.{before-trans, before-not_behind, before-not_same, behind-not_same, same-before}
use Rattle.aq_rules.specs.Kept.Rows.{Row}
use Rattle.aq_rules.specs.Kept.RowChanges.{RowKey, row_key, key_before, is_same_row_key, put_row, drop_row}
use Rattle.aq_tables.specs.Told.{HaveNot}
use Rattle.aq_tables.proofs.InOrder.{Before, same-flip}

-- all rows come after a key
abbrev pub AreBehind : RowKey → List Row → Type 0
AreBehind key rows = AllByRecursion (λ (row : Row). key_before key (row_key row) ≡ true) rows

-- a change of rows at a key leaves those before it and those behind it
pub record IsAt (key : RowKey) (change : List Row → List Row) : Type 0 where
  pub past : (front back : List Row) → AreBefore key front → change (front ++ back) ≡ front ++ change back
  pub short : (front back : List Row) → AreBehind key back → change (front ++ back) ≡ change front ++ back

-- ---- a row is dropped

drop-none : (key : RowKey) (rows : List Row) → HaveNot key rows → drop_row key rows ≡ rows
drop-none key [] none = refl
drop-none key (row ∷ rows) none = ap (λ b. cond (not b) (row ∷ drop_row key rows) (drop_row key rows)) none.0 ∙ ap (λ (l : List Row). row ∷ l) (drop-none key rows none.1)

have_not-before : (key : RowKey) (rows : List Row) → AreBefore key rows → HaveNot key rows
have_not-before key rows = all_weaker _ _ (λ row. before-not_same (row_key row) key) rows

have_not-behind : (key : RowKey) (rows : List Row) → AreBehind key rows → HaveNot key rows
have_not-behind key rows = all_weaker _ _ (λ row. behind-not_same key (row_key row)) rows

pub drop-is_at : (key : RowKey) → IsAt key (drop_row key)
drop-is_at key = record {
  past = λ front back before. filter-append _ front back ∙ ap (λ (l : List Row). l ++ drop_row key back) (drop-none key front (have_not-before key front before));
  short = λ front back behind. filter-append _ front back ∙ ap (λ (l : List Row). drop_row key front ++ l) (drop-none key back (have_not-behind key back behind));
}

-- ---- a row is put

put-past : (row : Row) (front back : List Row) → AreBefore (row_key row) front → put_row row (front ++ back) ≡ front ++ put_row row back
put-past row [] back before = refl
put-past row (first ∷ front) back before =
    ap (λ b. cond b (row ∷ first ∷ front ++ back) (cond (is_same_row_key (row_key row) (row_key first)) (row ∷ front ++ back) (first ∷ put_row row (front ++ back)))) (before-not_behind (row_key first) (row_key row) before.0)
    ∙ ap (λ b. cond b (row ∷ front ++ back) (first ∷ put_row row (front ++ back))) (behind-not_same (row_key first) (row_key row) before.0)
    ∙ ap (λ (l : List Row). first ∷ l) (put-past row front back before.1)

put-first : (row : Row) (back : List Row) → AreBehind (row_key row) back → put_row row back ≡ row ∷ back
put-first row [] behind = refl
put-first row (next ∷ back) behind = ap (λ b. cond b (row ∷ next ∷ back) (cond (is_same_row_key (row_key row) (row_key next)) (row ∷ back) (next ∷ put_row row back))) behind.0

put-short : (row : Row) (front back : List Row) → AreBehind (row_key row) back → put_row row (front ++ back) ≡ put_row row front ++ back
put-short row [] back behind = put-first row back behind
put-short row (first ∷ front) back behind =
    elim (key_before (row_key row) (row_key first)) as (λ b. cond b (row ∷ first ∷ front ++ back) (cond (is_same_row_key (row_key row) (row_key first)) (row ∷ front ++ back) (first ∷ put_row row (front ++ back)))
    ≡ cond b (row ∷ first ∷ front) (cond (is_same_row_key (row_key row) (row_key first)) (row ∷ front) (first ∷ put_row row front)) ++ back) [
      | true ↦ refl
      | false ↦ elim (is_same_row_key (row_key row) (row_key first)) as (λ b. cond b (row ∷ front ++ back) (first ∷ put_row row (front ++ back)) ≡ cond b (row ∷ front) (first ∷ put_row row front) ++ back) [
        | true ↦ refl
        | false ↦ ap (λ (l : List Row). first ∷ l) (put-short row front back behind)
      ]
    ]

pub put-is_at : (row : Row) → IsAt (row_key row) (put_row row)
put-is_at row = record { past = put-past row; short = put-short row }

-- a row is put in the place of one that was dropped
pub put-dropped : (row : Row) (rows : List Row) → IsAscending Before rows → put_row row (drop_row (row_key row) rows) ≡ put_row row rows
put-dropped row [] up = refl
put-dropped row (first ∷ rows) up = choose (key_before key (row_key first)) (is_same_row_key (row_key first) key) refl refl (put-dropped row rows up.1)
  where
    key : RowKey
    key = row_key row

    choose : (b s : Bool) → key_before key (row_key first) ≡ b → is_same_row_key (row_key first) key ≡ s → put_row row (drop_row key rows) ≡ put_row row rows
        → put_row row (cond (not s) (first ∷ drop_row key rows) (drop_row key rows)) ≡ cond b (row ∷ first ∷ rows) (cond (is_same_row_key key (row_key first)) (row ∷ rows) (first ∷ put_row row rows))
    choose true s before same more =
        let behind : AreBehind key rows = all_weaker _ _ (λ other. before-trans key (row_key first) (row_key other) before) rows up.0 in
        ap (λ b. put_row row (cond (not b) (first ∷ drop_row key rows) (drop_row key rows))) (sym same ∙ behind-not_same key (row_key first) before)
        ∙ ap (λ (l : List Row). put_row row (first ∷ l)) (drop-none key rows (have_not-behind key rows behind))
        ∙ put-first row (first ∷ rows) (before, behind)
    choose false true before same more =
        let behind : AreBehind key rows = all_weaker _ _ (λ other. same-before (row_key first) key (row_key other) same) rows up.0 in
        ap (put_row row) (drop-none key rows (have_not-behind key rows behind))
        ∙ put-first row rows behind
        ∙ sym (ap (λ b. cond b (row ∷ rows) (first ∷ put_row row rows)) (same-flip key (row_key first) ∙ same))
    choose false false before same more =
        let other = same-flip key (row_key first) ∙ same in
        ap (λ b. cond b (row ∷ first ∷ drop_row key rows) (cond (is_same_row_key key (row_key first)) (row ∷ drop_row key rows) (first ∷ put_row row (drop_row key rows)))) before
        ∙ ap (λ b. cond b (row ∷ drop_row key rows) (first ∷ put_row row (drop_row key rows))) other
        ∙ ap (λ (l : List Row). first ∷ l) more
        ∙ sym (ap (λ b. cond b (row ∷ rows) (first ∷ put_row row rows)) other)

-- ---- four tables

module _ (key : RowKey) (change : List Row → List Row) (is : IsAt key change) (a b c d : List Row) where
  pub at_first : AreBehind key b → AreBehind key c → AreBehind key d → change (a ++ b ++ c ++ d) ≡ change a ++ b ++ c ++ d
  at_first p q r = is.short (a ++ b ++ c) d r ∙ ap (λ (l : List Row). l ++ d) (is.short (a ++ b) c q ∙ ap (λ (l : List Row). l ++ c) (is.short a b p))

  pub at_next : AreBefore key a → AreBehind key c → AreBehind key d → change (a ++ b ++ c ++ d) ≡ a ++ change b ++ c ++ d
  at_next p q r = is.short (a ++ b ++ c) d r ∙ ap (λ (l : List Row). l ++ d) (is.short (a ++ b) c q ∙ ap (λ (l : List Row). l ++ c) (is.past a b p))

  pub at_third : AreBefore key a → AreBefore key b → AreBehind key d → change (a ++ b ++ c ++ d) ≡ a ++ b ++ change c ++ d
  at_third p q r = is.short (a ++ b ++ c) d r ∙ ap (λ (l : List Row). l ++ d) (is.past (a ++ b) c (all-append _ a b p q))

  pub at_last : AreBefore key a → AreBefore key b → AreBefore key c → change (a ++ b ++ c ++ d) ≡ a ++ b ++ c ++ change d
  at_last p q r = is.past (a ++ b ++ c) d (all-append _ (a ++ b) c (all-append _ a b p q) r)
