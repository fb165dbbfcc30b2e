-- Rows that rise: cut at a key, and with a change made at the cut.
use Rattle.std.proofs.Common.{◌≡◌, ℕ, zero, suc, ◌+◌, Bool, true, false, not, cond, ◌&&◌, List, [], ◌∷◌, ◌++◌, length, drop, refl, ap, sym, ◌∙◌, subst, arith}
use Rattle.std.specs.Prelude.{◌-◌, reverse, get_or, slice_get, option_to_list, Option, Some, None, IfSome}
use Rattle.std.proofs.lemmas.Bool.{false≢true}
use Rattle.std.proofs.lemmas.List.{append_assoc, append-nil, reverse-append, length-append}
use Rattle.std.proofs.lemmas.Option.{get_or_from_slice_get}
use Rattle.std.proofs.Math.Seq.{get_or-append_seam, drop-append_seam}
use Rattle.aq_rules.specs.Kept.Rows.{Row}
use Rattle.aq_rules.specs.Kept.RowChanges.{RowKey, RowChange, PutRow, DropRow, row_key, changed_key, key_before, is_same_row_key, keys_rise, keys_rise_from, put_row, drop_row, with_row_change}
use Rattle.aq_keeper.specs.Rising.{AreBefore, AreBehind, StartsFrom, Rise, keys_of_rows, without_first, put_rows}
use Rattle.aq_keeper.proofs.KeyOrder.{before-trans, before-not_behind, before-not_same, behind-not_same, same-before, neither-same}

both : (a b : Bool) → (a && b) ≡ true → (a ≡ true) × (b ≡ true)
both true b h = (refl, h)
both false b h = absurd (false≢true h)

-- ---- keys that rise

behind-trans : (first key : RowKey) (keys : List RowKey) → key_before first key ≡ true → AreBehind key keys → AreBehind first keys
behind-trans first key [] h behind = tt
behind-trans first key (next ∷ keys) h behind = (before-trans first key next h behind.0, behind-trans first key keys h behind.1)

behind-same : (first key : RowKey) (keys : List RowKey) → is_same_row_key first key ≡ true → AreBehind first keys → AreBehind key keys
behind-same first key [] h behind = tt
behind-same first key (next ∷ keys) h behind = (same-before first key next h behind.0, behind-same first key keys h behind.1)

rise-from : (first : RowKey) (keys : List RowKey) → keys_rise_from first keys ≡ true → Rise (first ∷ keys)
rise-from first [] h = (tt, tt)
rise-from first (key ∷ keys) h =
    let parts = both (key_before first key) (keys_rise_from key keys) h in
    let rest = rise-from key keys parts.1 in
    ((parts.0, behind-trans first key keys parts.0 rest.0), rest)

pub rise-keys : (keys : List RowKey) → keys_rise keys ≡ true → Rise keys
rise-keys [] h = tt
rise-keys (key ∷ keys) h = rise-from key keys h

-- ---- rows that are cut

pub rise-front : (front back : List Row) → Rise (keys_of_rows (front ++ back)) → Rise (keys_of_rows front)
rise-front [] back rise = tt
rise-front (row ∷ front) back rise = (behind-front (row_key row) front back rise.0, rise-front front back rise.1)
  where
    behind-front : (key : RowKey) (front back : List Row) → AreBehind key (keys_of_rows (front ++ back)) → AreBehind key (keys_of_rows front)
    behind-front key [] back behind = tt
    behind-front key (row ∷ front) back behind = (behind.0, behind-front key front back behind.1)

before-place : (key : RowKey) (rows : List Row) (i : ℕ) (last : Row) → i + 1 ≡ length rows → slice_get rows i ≡ Some last → Rise (keys_of_rows rows) → key_before (row_key last) key ≡ true → AreBefore key rows
before-place key [] i last long is rise before = tt
before-place key (row ∷ []) zero last long is rise before = (ap (λ r. key_before (row_key r) key) (some-same row last is) ∙ before, tt)
  where
    some-same : (row last : Row) → Some row ≡ Some last → row ≡ last
    some-same row last is = cc
before-place key (row ∷ []) (suc i) last long is rise before = absurd (omega arith)
before-place key (row ∷ next ∷ rows) zero last long is rise before = absurd (omega arith)
before-place key (row ∷ next ∷ rows) (suc i) last long is rise before =
    let rest = before-place key (next ∷ rows) i last (omega arith) is rise.1 before in
    (before-trans (row_key row) (row_key next) key rise.0.0 rest.0, rest)

-- if the last of rising rows comes before a key, all do
pub before-last : (key : RowKey) (rows : List Row) (last : Row) → slice_get rows (length rows - 1) ≡ Some last → Rise (keys_of_rows rows) → key_before (row_key last) key ≡ true → AreBefore key rows
before-last key [] last is rise before = tt
before-last key (row ∷ rows) last is rise before =
    let place : length (row ∷ rows) - 1 ≡ length rows = omega arith in
    before-place key (row ∷ rows) (length rows) last (omega arith) (ap (slice_get (row ∷ rows)) (sym place) ∙ is) rise before

-- the last of the rows that are left is moved to the front of those that were
pub one-more-moved : (key : RowKey) (all rows front : List Row) (row : Row) → all ≡ rows ++ drop (length rows) all → rows ≡ front ++ row ∷ [] → key_before (row_key row) key ≡ false
    → (all ≡ front ++ drop (length front) all) × StartsFrom key (drop (length front) all)
one-more-moved key all rows front row parts last starts =
    let moved = drop (length rows) all in
    let whole : all ≡ front ++ row ∷ moved = parts ∙ ap (λ (l : List Row). l ++ moved) last ∙ append_assoc front (row ∷ []) moved in
    let rest : drop (length front) all ≡ row ∷ moved = ap (drop (length front)) whole ∙ drop-append_seam front (row ∷ moved) in
    (whole ∙ ap (λ (l : List Row). front ++ l) (sym rest), subst (StartsFrom key) (sym rest) starts)

-- ---- a row that is put

pub put-past : (row : Row) (front back : List Row) → AreBefore (row_key row) front → put_row row (front ++ back) ≡ front ++ put_row row back
put-past row [] back before = refl
put-past row (first ∷ front) back before =
    ap (λ b. cond b (row ∷ first ∷ front ++ back) (cond (is_same_row_key (row_key row) (row_key first)) (row ∷ front ++ back) (first ∷ put_row row (front ++ back)))) (before-not_behind (row_key first) (row_key row) before.0)
    ∙ ap (λ b. cond b (row ∷ front ++ back) (first ∷ put_row row (front ++ back))) (behind-not_same (row_key first) (row_key row) before.0)
    ∙ ap (λ (rows : List Row). first ∷ rows) (put-past row front back before.1)

put-at : (row : Row) (back : List Row) → StartsFrom (row_key row) back → put_row row back ≡ row ∷ without_first (row_key row) back
put-at row [] starts = refl
put-at row (first ∷ back) starts = choose (key_before (row_key row) (row_key first)) refl
  where
    choose : (b : Bool) → key_before (row_key row) (row_key first) ≡ b → cond b (row ∷ first ∷ back) (cond (is_same_row_key (row_key row) (row_key first)) (row ∷ back) (first ∷ put_row row back)) ≡ row ∷ cond (is_same_row_key (row_key first) (row_key row)) back (first ∷ back)
    choose true h = ap (λ b. row ∷ cond b back (first ∷ back)) (sym (behind-not_same (row_key row) (row_key first) h))
    choose false h =
        let same = neither-same (row_key row) (row_key first) h starts in
        ap (λ b. cond b (row ∷ back) (first ∷ put_row row back)) same.0
        ∙ ap (λ b. row ∷ cond b back (first ∷ back)) (sym same.1)

-- ---- a row that is dropped

pub drop-past : (key : RowKey) (front back : List Row) → AreBefore key front → drop_row key (front ++ back) ≡ front ++ drop_row key back
drop-past key [] back before = refl
drop-past key (first ∷ front) back before =
    ap (λ b. cond (not b) (first ∷ drop_row key (front ++ back)) (drop_row key (front ++ back))) (before-not_same (row_key first) key before.0)
    ∙ ap (λ (rows : List Row). first ∷ rows) (drop-past key front back before.1)

pub drop-none : (key : RowKey) (back : List Row) → AreBehind key (keys_of_rows back) → drop_row key back ≡ back
drop-none key [] behind = refl
drop-none key (first ∷ back) behind =
    ap (λ b. cond (not b) (first ∷ drop_row key back) (drop_row key back)) (behind-not_same key (row_key first) behind.0)
    ∙ ap (λ (rows : List Row). first ∷ rows) (drop-none key back behind.1)

-- a key that does not come after the first of rising rows is that of the first, or comes before all
behind-others : (key : RowKey) (first : Row) (back : List Row) → key_before (row_key first) key ≡ false → AreBehind (row_key first) (keys_of_rows back) → AreBehind key (keys_of_rows back)
behind-others key first back starts behind = choose (key_before key (row_key first)) refl
  where
    choose : (b : Bool) → key_before key (row_key first) ≡ b → AreBehind key (keys_of_rows back)
    choose true h = behind-trans key (row_key first) (keys_of_rows back) h behind
    choose false h = behind-same (row_key first) key (keys_of_rows back) (neither-same (row_key first) key starts h).0 behind

drop-at : (key : RowKey) (back : List Row) → StartsFrom key back → Rise (keys_of_rows back) → drop_row key back ≡ without_first key back
drop-at key [] starts rise = refl
drop-at key (first ∷ back) starts rise =
    let rest = drop-none key back (behind-others key first back starts rise.0) in
    elim (is_same_row_key (row_key first) key) as (λ b. cond (not b) (first ∷ drop_row key back) (drop_row key back) ≡ cond b back (first ∷ back)) [
      | true ↦ rest
      | false ↦ ap (λ (rows : List Row). first ∷ rows) rest
    ]

-- ---- a change

rise-back : (front back : List Row) → Rise (keys_of_rows (front ++ back)) → Rise (keys_of_rows back)
rise-back [] back rise = rise
rise-back (first ∷ front) back rise = rise-back front back rise.1

pub make-change : (change : RowChange) (front back : List Row) → Rise (keys_of_rows (front ++ back)) → AreBefore (changed_key change) front → StartsFrom (changed_key change) back → (front ++ put_rows change) ++ without_first (changed_key change) back ≡ with_row_change (front ++ back) change
make-change (PutRow row) front back rise before starts =
    append_assoc front (row ∷ []) (without_first (row_key row) back)
    ∙ sym (put-past row front back before ∙ ap (λ (rows : List Row). front ++ rows) (put-at row back starts))
make-change (DropRow key) front back rise before starts =
    ap (λ (rows : List Row). rows ++ without_first key back) (append-nil front)
    ∙ sym (drop-past key front back before ∙ ap (λ (rows : List Row). front ++ rows) (drop-at key back starts (rise-back front back rise)))

-- ---- the rows rise still

behind-without_first : (key first : RowKey) (back : List Row) → AreBehind first (keys_of_rows back) → AreBehind first (keys_of_rows (without_first key back))
behind-without_first key first [] behind = tt
behind-without_first key first (row ∷ back) behind =
    elim (is_same_row_key (row_key row) key) as (λ b. AreBehind first (keys_of_rows (cond b back (row ∷ back)))) [ true ↦ behind.1 | false ↦ behind ]

rise-without_first : (key : RowKey) (back : List Row) → Rise (keys_of_rows back) → Rise (keys_of_rows (without_first key back))
rise-without_first key [] rise = tt
rise-without_first key (row ∷ back) rise =
    elim (is_same_row_key (row_key row) key) as (λ b. Rise (keys_of_rows (cond b back (row ∷ back)))) [ true ↦ rise.1 | false ↦ rise ]

-- what is put at the place of a change comes after a key that comes before it
behind-change : (change : RowChange) (first : RowKey) (front back : List Row) → key_before first (changed_key change) ≡ true → AreBehind first (keys_of_rows (front ++ back)) → AreBehind first (keys_of_rows (front ++ (put_rows change ++ without_first (changed_key change) back)))
behind-change (PutRow row) first [] back h behind = (h, behind-without_first (row_key row) first back behind)
behind-change (DropRow key) first [] back h behind = behind-without_first key first back behind
behind-change change first (row ∷ front) back h behind = (behind.0, behind-change change first front back h behind.1)

rise-at : (change : RowChange) (back : List Row) → StartsFrom (changed_key change) back → Rise (keys_of_rows back) → Rise (keys_of_rows (put_rows change ++ without_first (changed_key change) back))
rise-at (PutRow row) [] starts rise = (tt, tt)
rise-at (PutRow row) (first ∷ back) starts rise = (choose (is_same_row_key (row_key first) (row_key row)) refl, rise-without_first (row_key row) (first ∷ back) rise)
  where
    choose : (b : Bool) → is_same_row_key (row_key first) (row_key row) ≡ b → AreBehind (row_key row) (keys_of_rows (cond b back (first ∷ back)))
    choose true h = behind-others (row_key row) first back starts rise.0
    choose false h = (in_order (key_before (row_key row) (row_key first)) refl, behind-others (row_key row) first back starts rise.0)
      where
        in_order : (b : Bool) → key_before (row_key row) (row_key first) ≡ b → b ≡ true
        in_order true k = refl
        in_order false k = absurd (false≢true (sym h ∙ (neither-same (row_key row) (row_key first) k starts).1))
rise-at (DropRow key) back starts rise = rise-without_first key back rise

rise-change : (change : RowChange) (front back : List Row) → Rise (keys_of_rows (front ++ back)) → AreBefore (changed_key change) front → StartsFrom (changed_key change) back → Rise (keys_of_rows (front ++ (put_rows change ++ without_first (changed_key change) back)))
rise-change change [] back rise before starts = rise-at change back starts rise
rise-change change (first ∷ front) back rise before starts =
    (behind-change change (row_key first) front back before.0 rise.0, rise-change change front back rise.1 before.1 starts)

pub rise-made : (change : RowChange) (front back : List Row) → Rise (keys_of_rows (front ++ back)) → AreBefore (changed_key change) front → StartsFrom (changed_key change) back → Rise (keys_of_rows ((front ++ put_rows change) ++ without_first (changed_key change) back))
rise-made change front back rise before starts =
    subst (λ (rows : List Row). Rise (keys_of_rows rows)) (sym (append_assoc front (put_rows change) (without_first (changed_key change) back))) (rise-change change front back rise before starts)

-- ---- lists that stand last first

pub reverse-more : (rows : List Row) (row : Row) → reverse (rows ++ row ∷ []) ≡ row ∷ reverse rows
reverse-more rows row = reverse-append rows (row ∷ [])

-- ---- what the code finds

last-is : (later rest : List Row) (row last : Row) → later ≡ rest ++ row ∷ [] → slice_get later (length later - 1) ≡ Some last → row ≡ last
last-is later rest row last is found =
    let long = ap length is ∙ length-append rest (row ∷ []) in
    let at : length later - 1 ≡ length rest = omega arith in
    sym (get_or-append_seam rest row [] row)
    ∙ ap (λ (rows : List Row). get_or rows (length rest) row) (sym is)
    ∙ ap (λ n. get_or later n row) (sym at)
    ∙ get_or_from_slice_get later (length later - 1) last row found

-- the last of rows that stand last first is taken, if it comes before a key
pub popped : (key : RowKey) (later rest : List Row) (result : Option Row) (last : Row) → later ≡ rest ++ option_to_list result → slice_get later (length later - 1) ≡ Some last → key_before (row_key last) key ≡ true → IfSome result (λ row. (reverse later ≡ row ∷ reverse rest) × (key_before (row_key row) key ≡ true))
popped key later rest None last is found before = tt
popped key later rest (Some row) last is found before =
    (ap reverse is ∙ reverse-more rest row, ap (λ r. key_before (row_key r) key) (last-is later rest row last is found) ∙ before)
