-- The batch of a migration: all drops by key and then all puts by key. Done to rows of version 1, it gives the migrated rows.
use Rattle.std.proofs.Common.{◌≡◌, Bool, true, false, not, ◌&&◌, cond, List, [], ◌∷◌, ◌++◌, map, refl, sym, ap, ◌∙◌, append_assoc, append-nil}
use Rattle.std.specs.Prelude.{filter}
use Rattle.std.proofs.lemmas.Bool.{false≢true, and_from, and_parts}
use Rattle.std.proofs.lemmas.Bool.Decides.{Decides-int_eq}
use lib.Pointwise.{pointwise_decides}
use Rattle.std.proofs.lemmas.List.Sums.{fold-append}
use Rattle.aq_rules.specs.Kept.Rows.{Row, ObsRow, OfOfficeRow, OfObsRow, OfLoadRow, OfSecondRow, office_in}
use Rattle.aq_rules.specs.Kept.RowChanges.{RowKey, RowChange, PutRow, DropRow, row_key, columns, changed_key, key_before, batch_before, batch_rises, batch_rises_from, is_same_row_key, keys_rise, keys_rise_from, put_row, drop_row, with_row_change, with_row_changes}
use Rattle.aq_rules.specs.Kept.Migration.{is_first, migrated, migrated_row, are_version_1, migration_batch}
use Rattle.aq_rules.proofs.Elements.{Every, every-append}
use Rattle.aq_rules.proofs.MigratedRows.{migrated-office}
use Rattle.aq_rules.proofs.OfficeInOrder.{office-in_order}
use Rattle.aq_rules.proofs.Rewritten.{rows-rewritten, rows-valid}
use Rattle.aq_rules.proofs.RowsInOrder.{rest-rises, from-earlier, before-apart, before-not_after}

-- rows of version 1 alone, and rows of other tables alone
abbrev AllFirst : List Row → Type 0
AllFirst rows = Every (λ row. is_first row ≡ true) rows

abbrev NoFirst : List Row → Type 0
NoFirst rows = Every (λ row. is_first row ≡ false) rows

firsts-are : (rows : List Row) → AllFirst (filter is_first rows)
firsts-are [] = tt
firsts-are (row ∷ rows) = by_test (is_first row) refl (firsts-are rows)
  where
    by_test : (b : Bool) → is_first row ≡ b → AllFirst (filter is_first rows) → AllFirst (cond b (row ∷ filter is_first rows) (filter is_first rows))
    by_test true e rest = (e, rest)
    by_test false e rest = rest

-- what holds of two rows of version 1 by their parts
both_first : (P : Row → Row → Type 0) → ((a b : ObsRow) → P (OfObsRow a) (OfObsRow b)) → (a b : Row) → is_first a ≡ true → is_first b ≡ true → P a b
both_first P go (OfObsRow a) (OfObsRow b) p q = go a b
both_first P go (OfObsRow a) row p q = absurd (false≢true q)
both_first P go row other p q = absurd (false≢true p)

-- the keys of rows of version 1 stand to each other as those of the migrated rows
first-before : (a b : Row) → is_first a ≡ true → is_first b ≡ true → key_before (row_key (migrated_row a)) (row_key (migrated_row b)) ≡ key_before (row_key a) (row_key b)
first-before = both_first (λ a b. key_before (row_key (migrated_row a)) (row_key (migrated_row b)) ≡ key_before (row_key a) (row_key b)) (λ a b. refl)

firsts-from : (first : Row) (rows : List Row) → is_first first ≡ true → AllFirst rows
    → keys_rise_from (row_key (migrated_row first)) (map row_key (map migrated_row rows)) ≡ keys_rise_from (row_key first) (map row_key rows)
firsts-from first [] p every = refl
firsts-from first (row ∷ rows) p every = λ i. first-before first row p every.0 i && firsts-from row rows every.0 every.1 i

firsts-rise : (rows : List Row) → AllFirst rows → keys_rise (map row_key (map migrated_row rows)) ≡ keys_rise (map row_key rows)
firsts-rise [] every = refl
firsts-rise (row ∷ rows) every = firsts-from row rows every.0 every.1

-- rows that come after others in rising rows rise themselves
rises-behind : (front back : List Row) → keys_rise (map row_key (front ++ back)) ≡ true → keys_rise (map row_key back) ≡ true
rises-behind [] back rise = rise
rises-behind (row ∷ front) back rise = rises-behind front back (rest-rises (row_key row) (map row_key (front ++ back)) rise)

module _ (rows : List Row) (old : are_version_1 rows ≡ true) where
  all-rise : keys_rise (map row_key (migrated rows)) ≡ true
  all-rise =
      let good = migrated-office rows old in
      ap (λ (l : List Row). keys_rise (map row_key l)) (sym (rows-rewritten (migrated rows) good)) ∙ office-in_order (office_in (migrated rows)) (rows-valid (migrated rows) good)

  migrated-rise : keys_rise (map row_key (map migrated_row (filter is_first rows))) ≡ true
  unfolding migrated
  migrated-rise = rises-behind (filter (λ row. not (is_first row)) rows) (map migrated_row (filter is_first rows)) all-rise

  old-rise : keys_rise (map row_key (filter is_first rows)) ≡ true
  old-rise = sym (firsts-rise (filter is_first rows) (firsts-are rows)) ∙ migrated-rise

-- ---- drops

abbrev drop_of : Row → RowChange
drop_of row = DropRow (row_key row)

abbrev put_of : Row → RowChange
put_of row = PutRow (migrated_row row)

-- a row of another table has another key
others-differ : (other first : Row) → is_first other ≡ false → is_first first ≡ true → is_same_row_key (row_key other) (row_key first) ≡ false
others-differ other (OfOfficeRow row) p q = absurd (false≢true q)
others-differ other (OfLoadRow row) p q = absurd (false≢true q)
others-differ other (OfSecondRow row) p q = absurd (false≢true q)
others-differ (OfObsRow other) (OfObsRow row) p q = absurd (false≢true (sym p))
others-differ (OfOfficeRow other) (OfObsRow row) p q = refl
others-differ (OfLoadRow other) (OfObsRow row) p q = refl
others-differ (OfSecondRow other) (OfObsRow row) p q = refl

-- all rows but the first of version 1 stay when it is dropped
drop-front : (first : Row) → is_first first ≡ true → (front back : List Row) → NoFirst front → drop_row (row_key first) (front ++ back) ≡ front ++ drop_row (row_key first) back
drop-front first p [] back others = refl
drop-front first p (row ∷ front) back others = λ i.
    cond (not (others-differ row first others.0 p i)) (row ∷ drop-front first p front back others.1 i) (drop-front first p front back others.1 i)

drop-itself : (first : Row) (back : List Row) → drop_row (row_key first) (first ∷ back) ≡ drop_row (row_key first) back
drop-itself first back = ap (λ b. cond (not b) (first ∷ drop_row (row_key first) back) (drop_row (row_key first) back)) ((pointwise_decides Decides-int_eq (columns (row_key first)) (columns (row_key first))).1 refl)

-- what stands after has other keys
drop-back : (first : Row) → is_first first ≡ true → (back : List Row) → keys_rise_from (row_key first) (map row_key (filter is_first back)) ≡ true → drop_row (row_key first) back ≡ back
drop-back first p [] rise = refl
drop-back first p (row ∷ back) rise = by_test (is_first row) refl rise (drop-back first p back)
  where
    by_test : (b : Bool) → is_first row ≡ b → keys_rise_from (row_key first) (map row_key (cond b (row ∷ filter is_first back) (filter is_first back))) ≡ true
        → (keys_rise_from (row_key first) (map row_key (filter is_first back)) ≡ true → drop_row (row_key first) back ≡ back) → drop_row (row_key first) (row ∷ back) ≡ row ∷ back
    by_test true e from next =
        let parts = and_parts (key_before (row_key first) (row_key row)) (keys_rise_from (row_key row) (map row_key (filter is_first back))) from in
        let rest = next (from-earlier (row_key first) (row_key row) (map row_key (filter is_first back)) parts.0 parts.1) in
        λ i. cond (not (before-apart (row_key first) (row_key row) parts.0 i)) (row ∷ rest i) (rest i)
    by_test false e from next = λ i. cond (not (others-differ row first e p i)) (row ∷ next from i) (next from i)

abbrev kept : List Row → List Row
kept rows = filter (λ row. not (is_first row)) rows

abbrev drops : List Row → List RowChange
drops rows = map drop_of (filter is_first rows)

dropped : (front rows : List Row) → NoFirst front → keys_rise (map row_key (filter is_first rows)) ≡ true → with_row_changes (front ++ rows) (drops rows) ≡ front ++ kept rows
dropped front [] none rise = refl
dropped front (row ∷ rows) none rise = by_test (is_first row) refl rise (λ start clear later. dropped start rows clear later)
  where
    by_test : (b : Bool) → is_first row ≡ b → keys_rise (map row_key (cond b (row ∷ filter is_first rows) (filter is_first rows))) ≡ true
        → ((start : List Row) → NoFirst start → keys_rise (map row_key (filter is_first rows)) ≡ true → with_row_changes (start ++ rows) (drops rows) ≡ start ++ kept rows)
        → with_row_changes (front ++ row ∷ rows) (map drop_of (cond b (row ∷ filter is_first rows) (filter is_first rows))) ≡ front ++ cond (not b) (row ∷ kept rows) (kept rows)
    by_test true e from next =
        ap (λ (l : List Row). with_row_changes l (drops rows))
        (drop-front row e front (row ∷ rows) none ∙ ap (λ (l : List Row). front ++ l) (drop-itself row rows ∙ drop-back row e rows from))
        ∙ next front none (rest-rises (row_key row) (map row_key (filter is_first rows)) from)
    by_test false e from next =
        let more : NoFirst (front ++ row ∷ []) = every-append (λ r. is_first r ≡ false) front (row ∷ []) none (e, tt) in
        ap (λ (l : List Row). with_row_changes l (drops rows)) (sym (append_assoc front (row ∷ []) rows))
        ∙ next (front ++ row ∷ []) more from
        ∙ append_assoc front (row ∷ []) (kept rows)

-- ---- puts

-- the first key comes before all that follow
first-before_row : (row : Row) (rows back : List Row) (key : RowKey) → keys_rise_from key (map row_key (rows ++ row ∷ back)) ≡ true → key_before key (row_key row) ≡ true
first-before_row row [] back key rise = (and_parts (key_before key (row_key row)) (keys_rise_from (row_key row) (map row_key back)) rise).0
first-before_row row (x ∷ rows) back key rise =
    let parts = and_parts (key_before key (row_key x)) (keys_rise_from (row_key x) (map row_key (rows ++ row ∷ back))) rise in
    first-before_row row rows back key (from-earlier key (row_key x) (map row_key (rows ++ row ∷ back)) parts.0 parts.1)

-- a row that comes after all others is put after them
put-last : (row : Row) (rows back : List Row) → keys_rise (map row_key (rows ++ row ∷ back)) ≡ true → put_row row rows ≡ rows ++ row ∷ []
put-last row [] back rise = refl
put-last row (first ∷ rows) back rise =
    let before = first-before_row row rows back (row_key first) rise in
    let rest = put-last row rows back (rest-rises (row_key first) (map row_key (rows ++ row ∷ back)) rise) in
    λ i. cond (before-not_after (row_key first) (row_key row) before i) (row ∷ first ∷ rows) (cond (before-apart (row_key first) (row_key row) before i) (row ∷ rows) (first ∷ rest i))

puts : (rows xs : List Row) → keys_rise (map row_key (rows ++ map migrated_row xs)) ≡ true → with_row_changes rows (map put_of xs) ≡ rows ++ map migrated_row xs
puts rows [] rise = sym (append-nil rows)
puts rows (x ∷ xs) rise =
    ap (λ (l : List Row). with_row_changes l (map put_of xs)) (put-last (migrated_row x) rows (map migrated_row xs) rise)
    ∙ puts (rows ++ migrated_row x ∷ []) xs (ap (λ (l : List Row). keys_rise (map row_key l)) (append_assoc rows (migrated_row x ∷ []) (map migrated_row xs)) ∙ rise)
    ∙ append_assoc rows (migrated_row x ∷ []) (map migrated_row xs)

pub migration-done : (rows : List Row) → are_version_1 rows ≡ true → with_row_changes rows (migration_batch rows) ≡ migrated rows
unfolding migration_batch migrated
migration-done rows old =
    let firsts = filter is_first rows in
    let others = filter (λ row. not (is_first row)) rows in
    fold-append with_row_change rows (map drop_of firsts) (map put_of firsts)
    ∙ ap (λ (l : List Row). with_row_changes l (map put_of firsts)) (dropped [] rows tt (old-rise rows old))
    ∙ puts others firsts (all-rise rows old)

-- ---- the order of the batch

first-then_second : (a b : Row) → is_first a ≡ true → is_first b ≡ true → batch_before (row_key a) (row_key (migrated_row b)) ≡ true
first-then_second = both_first (λ a b. batch_before (row_key a) (row_key (migrated_row b)) ≡ true) (λ a b. refl)

old-in_batch : (a b : Row) → is_first a ≡ true → is_first b ≡ true → key_before (row_key a) (row_key b) ≡ true → batch_before (row_key a) (row_key b) ≡ true
old-in_batch = both_first (λ a b. key_before (row_key a) (row_key b) ≡ true → batch_before (row_key a) (row_key b) ≡ true) (λ a b h. h)

new-in_batch : (a b : Row) → is_first a ≡ true → is_first b ≡ true → key_before (row_key (migrated_row a)) (row_key (migrated_row b)) ≡ true
    → batch_before (row_key (migrated_row a)) (row_key (migrated_row b)) ≡ true
new-in_batch = both_first (λ a b. key_before (row_key (migrated_row a)) (row_key (migrated_row b)) ≡ true → batch_before (row_key (migrated_row a)) (row_key (migrated_row b)) ≡ true) (λ a b h. h)

put-rises_from : (first : Row) (rows : List Row) → is_first first ≡ true → AllFirst rows → keys_rise_from (row_key (migrated_row first)) (map row_key (map migrated_row rows)) ≡ true
    → batch_rises_from (row_key (migrated_row first)) (map changed_key (map put_of rows)) ≡ true
put-rises_from first [] p every rise = refl
put-rises_from first (row ∷ rows) p every rise =
    let parts = and_parts (key_before (row_key (migrated_row first)) (row_key (migrated_row row))) (keys_rise_from (row_key (migrated_row row)) (map row_key (map migrated_row rows))) rise in
    and_from (batch_before (row_key (migrated_row first)) (row_key (migrated_row row))) _ (new-in_batch first row p every.0 parts.0) (put-rises_from row rows every.0 every.1 parts.1)

drop-rises_from : (first : Row) (rows : List Row) → is_first first ≡ true → AllFirst rows → keys_rise_from (row_key first) (map row_key rows) ≡ true
    → (later : List Row) → AllFirst later → keys_rise (map row_key (map migrated_row later)) ≡ true
    → batch_rises_from (row_key first) (map changed_key (map drop_of rows ++ map put_of later)) ≡ true
drop-rises_from first [] p every rise [] laters rest = refl
drop-rises_from first [] p every rise (x ∷ later) laters rest =
    and_from (batch_before (row_key first) (row_key (migrated_row x))) _ (first-then_second first x p laters.0) (put-rises_from x later laters.0 laters.1 rest)
drop-rises_from first (row ∷ rows) p every rise later laters rest =
    let parts = and_parts (key_before (row_key first) (row_key row)) (keys_rise_from (row_key row) (map row_key rows)) rise in
    and_from (batch_before (row_key first) (row_key row)) _ (old-in_batch first row p every.0 parts.0) (drop-rises_from row rows every.0 every.1 parts.1 later laters rest)

pub migration-in_order : (rows : List Row) → are_version_1 rows ≡ true → batch_rises (map changed_key (migration_batch rows)) ≡ true
unfolding migration_batch
migration-in_order rows old = all_in_order (filter is_first rows) (firsts-are rows) (old-rise rows old) (migrated-rise rows old)
  where
    all_in_order : (xs : List Row) → AllFirst xs → keys_rise (map row_key xs) ≡ true → keys_rise (map row_key (map migrated_row xs)) ≡ true
        → batch_rises (map changed_key (map drop_of xs ++ map put_of xs)) ≡ true
    all_in_order [] every rise rest = refl
    all_in_order (x ∷ xs) every rise rest = drop-rises_from x xs every.0 every.1 rise (x ∷ xs) every rest
