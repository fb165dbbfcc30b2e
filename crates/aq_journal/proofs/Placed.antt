-- What the entries of a map by places say of the list of their rows.
use Rattle.std.proofs.Common.{◌≡◌, Bool, true, false, ℕ, List, [], ◌∷◌, cond, refl, ap, sym, subst, ◌∙◌}
use Rattle.std.specs.Prelude.{not, filter}
use Rattle.std.specs.declared.cmp.Ordering.{Ordering}
use Rattle.std.specs.declared.cmp.Ordering.TheVariants.{Less, Equal, Greater}
use Rattle.std.specs.Ordering.{int_cmp, is_eq, is_lt, ordering_reverse, ordering_then, match_ordering}
use Rattle.std.specs.Cmp.{IsTotalOrder}
use Rattle.std.specs.Cmp.Lexicographic.{slice_cmp}
use Rattle.std.specs.List.{AllByRecursion}
use Rattle.std.specs.List.Sorted.{IsStrictlySortedBy}
use Rattle.std.specs.Map.{keys_of, values_of, remove_entry}
use Rattle.std.specs.BTreeMap.{insert_entry, is_at}
use Rattle.std.proofs.lemmas.Bool.{false≢true}
use Rattle.std.proofs.lemmas.Cmp.{int_cmp_total, on_total, lists_total}
use Rattle.aq_keeper.specs.KeyView.{key_order}
use Rattle.aq_keeper.proofs.KeyOrder.{before_key, same_key, cmp-texts}
use Rattle.aq_rules.specs.Kept.Rows.{Row}
use Rattle.aq_rules.specs.Kept.RowChanges.{RowKey, columns, row_key, key_before, is_same_row_key, put_row, drop_row}
use Rattle.aq_journal.specs.contracts.place.PlaceOrd.TheImpl as derived
use Rattle.aq_journal.specs.declared.place.Place.{Place}
use Rattle.aq_journal.specs.declared.place.Place.TheVariants.{Record, First, Load, Second}
use Rattle.aq_journal.specs.Places.{key_at, place_cmp, ArePlaced, AreEntries}

-- ---- the derived order of places is that of keys

last : (o : Ordering) → o ≡ ordering_then o Equal
last Less = refl
last Equal = refl
last Greater = refl

derived_order : (a b : Place) → (derived.ghosts).cmp a b ≡ place_cmp a b
derived_order (Record kind key) (Record other text) = ap (ordering_then (int_cmp kind other)) (cmp-texts key.items text.items)
derived_order (First site pollutant poc hour) (First s p c h) =
    ap (λ o. ordering_then (int_cmp site s) (ordering_then (int_cmp pollutant p) (ordering_then (int_cmp poc c) o))) (last (int_cmp hour h))
derived_order (Load number) (Load other) = last (int_cmp number other)
derived_order (Second site pollutant poc hour) (Second s p c h) =
    ap (λ o. ordering_then (int_cmp site s) (ordering_then (int_cmp pollutant p) (ordering_then (int_cmp poc c) o))) (last (int_cmp hour h))
derived_order a b = refl

derived_is : (derived.ghosts).cmp ≡ place_cmp
derived_is = λ i a b. derived_order a b i

-- ---- the order of keys is a total one

key_total : IsTotalOrder key_order
key_total = on_total columns (lists_total int_cmp_total)

equal : (o : Ordering) → is_eq o ≡ true → o ≡ Equal
equal Less h = absurd (false≢true h)
equal Equal h = refl
equal Greater h = absurd (false≢true h)

turned : (a b : RowKey) (o : Ordering) → key_order a b ≡ o → key_order b a ≡ ordering_reverse o
turned a b o h = key_total.antisymm b a ∙ ap ordering_reverse h

-- keys that are the same compare alike
alike : (a b c : RowKey) → key_order a b ≡ Equal → key_order c a ≡ key_order c b
alike a b c h = key_total.antisymm c a ∙ ap ordering_reverse (key_total.congr a b c h) ∙ sym (key_total.antisymm c b)

-- ---- a row that is put

values_put : (p : Place) (row : Row) (es : List (Place × Row)) → key_at p ≡ row_key row → ArePlaced es → values_of (insert_entry place_cmp es p row) ≡ put_row row (values_of es)
values_put p row [] at h = refl
values_put p row (e ∷ es) at h =
    let rows = values_of es in
    let key = row_key row in
    let first = row_key e.1 in
    let each : (o : Ordering) → values_of (match_ordering o ((p, row) ∷ e ∷ es) ((e.0, row) ∷ es) (e ∷ insert_entry place_cmp es p row)) ≡ cond (is_lt o) (row ∷ e.1 ∷ rows) (cond (is_eq o) (row ∷ rows) (e.1 ∷ put_row row rows)) =
    elim [
      | Less ↦ refl
      | Equal ↦ refl
      | Greater ↦ ap (λ (l : List Row). e.1 ∷ l) (values_put p row es at h.1)
    ]
    in
    let order : place_cmp p e.0 ≡ key_order key first = ap (λ k. key_order k (key_at e.0)) at ∙ alike (key_at e.0) first key h.0 in
    each (place_cmp p e.0)
    ∙ ap (λ o. cond (is_lt o) (row ∷ e.1 ∷ rows) (cond (is_eq o) (row ∷ rows) (e.1 ∷ put_row row rows))) order
    ∙ ap (λ b. cond b (row ∷ e.1 ∷ rows) (cond (is_eq (key_order key first)) (row ∷ rows) (e.1 ∷ put_row row rows))) (before_key key first)
    ∙ ap (λ b. cond (key_before key first) (row ∷ e.1 ∷ rows) (cond b (row ∷ rows) (e.1 ∷ put_row row rows))) (same_key key first)

one_turned : (o : Ordering) → o ≡ ordering_reverse o → o ≡ Equal
one_turned Less h = absurd (false≢true (sym (ap is_lt h)))
one_turned Equal h = refl
one_turned Greater h = absurd (false≢true (ap is_lt h))

same : (a b : RowKey) → a ≡ b → key_order a b ≡ Equal
same a b h = ap (key_order a) (sym h) ∙ one_turned (key_order a a) (key_total.antisymm a a)

placed_put : (p : Place) (row : Row) (es : List (Place × Row)) → key_at p ≡ row_key row → ArePlaced es → ArePlaced (insert_entry place_cmp es p row)
placed_put p row [] at h = (same (key_at p) (row_key row) at, tt)
placed_put p row (e ∷ es) at h =
    let each : (o : Ordering) → place_cmp p e.0 ≡ o → ArePlaced (match_ordering o ((p, row) ∷ e ∷ es) ((e.0, row) ∷ es) (e ∷ insert_entry place_cmp es p row)) =
    elim [
      | Less ↦ λ _. (same (key_at p) (row_key row) at, h)
      | Equal ↦ λ is. (ap (key_order (key_at e.0)) (sym at) ∙ turned (key_at p) (key_at e.0) Equal is, h.1)
      | Greater ↦ λ _. (h.0, placed_put p row es at h.1)
    ]
    in
    each (place_cmp p e.0) refl

-- ---- a row that is taken away

-- no row after one with the key has the key
none_behind : (p : Place) (key : RowKey) (es : List (Place × Row)) → key_order (key_at p) key ≡ Equal → AllByRecursion (λ q. place_cmp p q ≡ Less) (keys_of es) → ArePlaced es → drop_row key (values_of es) ≡ values_of es
none_behind p key [] at below h = refl
none_behind p key (e ∷ es) at below h =
    let rows = values_of es in
    let behind : key_order (row_key e.1) key ≡ Greater = sym (key_total.congr (key_at e.0) (row_key e.1) key h.0) ∙ sym (alike (key_at p) key (key_at e.0) at) ∙ turned (key_at p) (key_at e.0) Less below.0 in
    let apart : is_same_row_key (row_key e.1) key ≡ false = sym (same_key (row_key e.1) key) ∙ ap is_eq behind in
    ap (λ b. cond (not b) (e.1 ∷ drop_row key rows) (drop_row key rows)) apart
    ∙ ap (λ (l : List Row). e.1 ∷ l) (none_behind p key es at below.1 h.1)

flip : (o : Ordering) → is_eq (ordering_reverse o) ≡ is_eq o
flip Less = refl
flip Equal = refl
flip Greater = refl

values_dropped : (p : Place) (key : RowKey) (es : List (Place × Row)) → key_at p ≡ key → AreEntries es → values_of (remove_entry (is_at (place_cmp p)) es) ≡ drop_row key (values_of es)
unfolding IsStrictlySortedBy
values_dropped p key [] at h = refl
values_dropped p key (e ∷ es) at h =
    let rows = values_of es in
    let rising = h.rising in
    let placed = h.placed in
    let rest = drop_row key rows in
    let each : (b : Bool) → is_eq (place_cmp p e.0) ≡ b → values_of (cond b es (e ∷ remove_entry (is_at (place_cmp p)) es)) ≡ cond (not b) (e.1 ∷ rest) rest =
    elim [
      | true ↦ λ is. sym (none_behind e.0 key es (ap (key_order (key_at e.0)) (sym at) ∙ turned (key_at p) (key_at e.0) Equal (equal (place_cmp p e.0) is)) rising.0 placed.1)
      | false ↦ λ _. ap (λ (l : List Row). e.1 ∷ l) (values_dropped p key es at (record { rising = rising.1; placed = placed.1 }))
    ]
    in
    let order : is_eq (place_cmp p e.0) ≡ is_same_row_key (row_key e.1) key =
    ap (λ k. is_eq (key_order k (key_at e.0))) at
    ∙ ap is_eq (alike (key_at e.0) (row_key e.1) key placed.0 ∙ key_total.antisymm key (row_key e.1))
    ∙ flip (key_order (row_key e.1) key)
    ∙ same_key (row_key e.1) key
    in
    each (is_eq (place_cmp p e.0)) refl ∙ ap (λ b. cond (not b) (e.1 ∷ rest) rest) order

placed_dropped : (test : Place → Bool) (es : List (Place × Row)) → ArePlaced es → ArePlaced (remove_entry test es)
placed_dropped test [] h = h
placed_dropped test (e ∷ es) h =
    elim (test e.0) as (λ b. ArePlaced (cond b es (e ∷ remove_entry test es))) [ true ↦ h.1 | false ↦ (h.0, placed_dropped test es h.1) ]

-- ---- the same of a map, whose order is the derived one

pub entries_are : (es : List (Place × Row)) → ArePlaced es → IsStrictlySortedBy (derived.ghosts).cmp (keys_of es) → AreEntries es
entries_are es placed rising = record { rising = subst (λ (R : Place → Place → Ordering). IsStrictlySortedBy R (keys_of es)) derived_is rising; placed = placed }

inserted : (p : Place) (row : Row) (es fs : List (Place × Row)) → fs ≡ insert_entry (derived.ghosts).cmp es p row → fs ≡ insert_entry place_cmp es p row
inserted p row es fs is = is ∙ ap (λ (R : Place → Place → Ordering). insert_entry R es p row) derived_is

pub entries_put : (p : Place) (row : Row) (es fs : List (Place × Row)) → key_at p ≡ row_key row → AreEntries es → fs ≡ insert_entry (derived.ghosts).cmp es p row → IsStrictlySortedBy (derived.ghosts).cmp (keys_of fs) → AreEntries fs
entries_put p row es fs at old is rising = entries_are fs (subst ArePlaced (sym (inserted p row es fs is)) (placed_put p row es at old.placed)) rising

pub rows_put : (p : Place) (row : Row) (es fs : List (Place × Row)) → key_at p ≡ row_key row → AreEntries es → fs ≡ insert_entry (derived.ghosts).cmp es p row → values_of fs ≡ put_row row (values_of es)
rows_put p row es fs at old is = ap values_of (inserted p row es fs is) ∙ values_put p row es at old.placed

removed : (p : Place) (es fs : List (Place × Row)) → fs ≡ remove_entry (is_at ((derived.ghosts).cmp p)) es → fs ≡ remove_entry (is_at (place_cmp p)) es
removed p es fs is = is ∙ ap (λ (R : Place → Place → Ordering). remove_entry (is_at (R p)) es) derived_is

pub entries_dropped : (p : Place) (es fs : List (Place × Row)) → AreEntries es → fs ≡ remove_entry (is_at ((derived.ghosts).cmp p)) es → IsStrictlySortedBy (derived.ghosts).cmp (keys_of fs) → AreEntries fs
entries_dropped p es fs old is rising = entries_are fs (subst ArePlaced (sym (removed p es fs is)) (placed_dropped (is_at (place_cmp p)) es old.placed)) rising

pub rows_dropped : (p : Place) (key : RowKey) (es fs : List (Place × Row)) → key_at p ≡ key → AreEntries es → fs ≡ remove_entry (is_at ((derived.ghosts).cmp p)) es → values_of fs ≡ drop_row key (values_of es)
rows_dropped p key es fs at old is = ap values_of (removed p es fs is) ∙ values_dropped p key es at old
