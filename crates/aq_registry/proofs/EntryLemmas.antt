-- What the entries say of the list of their records.
use Rattle.std.proofs.Common.{◌≡◌, Bool, true, false, ◌&&◌, List, [], ◌∷◌, ◌++◌, cond, Option, Some, None, refl, ap, sym, subst, ◌∙◌, arith}
use Rattle.std.specs.Prelude.{length, not, find, filter, count_by, slice_get}
use Rattle.std.proofs.lemmas.List.Sums.{length-filter}
use Rattle.std.specs.declared.cmp.Ordering.{Ordering}
use Rattle.std.specs.declared.cmp.Ordering.TheVariants.{Less, Equal, Greater}
use Rattle.std.specs.declared.ops.Bound.{Bound}
use Rattle.std.specs.declared.ops.Bound.TheVariants.{Included, Excluded, Unbounded}
use Rattle.std.specs.Ordering.{is_eq, is_lt, match_ordering}
use Rattle.std.specs.List.{AllByRecursion, last_or}
use Rattle.std.specs.List.Sorted.{IsStrictlySortedBy}
use Rattle.std.proofs.lemmas.Cmp.{eq_by_cmp_equiv}
use Rattle.std.specs.Map.{lookup, keys_of, values_of, remove_entry}
use Rattle.std.specs.BTreeMap.{insert_entry, is_at}
use Rattle.std.specs.BTreeMap.Range.{entries_between, range_contains}
use Rattle.aq_base.specs.declared.office.OfficeRecord.{OfficeRecord}
use Rattle.aq_base.specs.declared.office.OfficeKey.{OfficeKey}
use Rattle.aq_rules.specs.Office.Office.{key_of, key_numbers, record_rank, comes_before, is_same, with_row, without_row}
use Rattle.aq_rules.specs.Office.Questions.{record_of, comes_after, following}
use Rattle.aq_registry.specs.declared.place.Place.{Place}
use Rattle.aq_registry.specs.Places.{place_of, place_cmp, places_of, behind, lies_between}
use Rattle.aq_registry.specs.Records.{ArePlaced, AreEntries}
use Rattle.aq_registry.proofs.PlaceOrder.{place_total, before-places, same-places, exact_places}

-- a place compares to a record's as the keys do
same-entry : (k : OfficeKey) (p : Place) (r : OfficeRecord) → p ≡ place_of (key_of r) → is_eq (place_cmp (place_of k) p) ≡ is_same (key_numbers k) (record_rank r)
same-entry k p r h = ap (λ q. is_eq (place_cmp (place_of k) q)) h ∙ same-places k (key_of r)

flip-places : (p q : Place) → is_eq (place_cmp p q) ≡ is_eq (place_cmp q p)
flip-places p q = (eq_by_cmp_equiv place_total).symm p q

-- the same with the record first
same-row : (k : OfficeKey) (p : Place) (r : OfficeRecord) → p ≡ place_of (key_of r) → is_eq (place_cmp (place_of k) p) ≡ is_same (record_rank r) (key_numbers k)
same-row k p r h = ap (λ q. is_eq (place_cmp (place_of k) q)) h ∙ flip-places (place_of k) (place_of (key_of r)) ∙ same-places (key_of r) k

-- a search of the map finds the key's record
lookup-entries : (k : OfficeKey) (es : List (Place × OfficeRecord)) → ArePlaced es → lookup (is_at (place_cmp (place_of k))) es ≡ record_of (values_of es) k
lookup-entries k [] h = refl
lookup-entries k (e ∷ es) h =
    ap (λ b. cond b (Some e.1) (lookup (is_at (place_cmp (place_of k))) es)) (same-row k e.0 e.1 h.0)
    ∙ ap (cond (is_same (record_rank e.1) (key_numbers k)) (Some e.1)) (lookup-entries k es h.1)

-- the same of a place that is the key's
pub lookup-place : (p : Place) (k : OfficeKey) (es : List (Place × OfficeRecord)) → p ≡ place_of k → ArePlaced es → lookup (is_at (place_cmp p)) es ≡ record_of (values_of es) k
lookup-place p k es is h = ap (λ q. lookup (is_at (place_cmp q)) es) is ∙ lookup-entries k es h

-- ---- a record that is put

values-insert_entry : (r : OfficeRecord) (es : List (Place × OfficeRecord)) → ArePlaced es → values_of (insert_entry place_cmp es (place_of (key_of r)) r) ≡ with_row record_rank r (values_of es)
values-insert_entry r [] h = refl
values-insert_entry r (e ∷ es) h =
    let p = place_of (key_of r) in
    let vs = values_of es in
    let at : (o : Ordering) → values_of (match_ordering o ((p, r) ∷ e ∷ es) ((e.0, r) ∷ es) (e ∷ insert_entry place_cmp es p r)) ≡ cond (is_lt o) (r ∷ e.1 ∷ vs) (cond (is_eq o) (r ∷ vs) (e.1 ∷ with_row record_rank r vs)) =
    elim [
      | Less ↦ refl
      | Equal ↦ refl
      | Greater ↦ ap (λ (l : List OfficeRecord). e.1 ∷ l) (values-insert_entry r es h.1)
    ]
    in
    at (place_cmp p e.0)
    ∙ ap (λ b. cond b (r ∷ e.1 ∷ vs) (cond (is_eq (place_cmp p e.0)) (r ∷ vs) (e.1 ∷ with_row record_rank r vs))) (ap (λ q. is_lt (place_cmp p q)) h.0 ∙ before-places (key_of r) (key_of e.1))
    ∙ ap (λ b. cond (comes_before (record_rank r) (record_rank e.1)) (r ∷ e.1 ∷ vs) (cond b (r ∷ vs) (e.1 ∷ with_row record_rank r vs))) (same-entry (key_of r) e.0 e.1 h.0)

placed-insert_entry : (r : OfficeRecord) (es : List (Place × OfficeRecord)) → ArePlaced es → ArePlaced (insert_entry place_cmp es (place_of (key_of r)) r)
placed-insert_entry r [] h = (refl, tt)
placed-insert_entry r (e ∷ es) h =
    let p = place_of (key_of r) in
    let at : (o : Ordering) → place_cmp p e.0 ≡ o → ArePlaced (match_ordering o ((p, r) ∷ e ∷ es) ((e.0, r) ∷ es) (e ∷ insert_entry place_cmp es p r)) =
    elim [
      | Less ↦ λ _. (refl, h)
      | Equal ↦ λ same. (sym (exact_places p e.0 (ap is_eq same)), h.1)
      | Greater ↦ λ _. (h.0, placed-insert_entry r es h.1)
    ]
    in
    at (place_cmp p e.0) refl

pub values-put : (p : Place) (r : OfficeRecord) (es : List (Place × OfficeRecord)) → p ≡ place_of (key_of r) → ArePlaced es → values_of (insert_entry place_cmp es p r) ≡ with_row record_rank r (values_of es)
values-put p r es at h = ap (λ q. values_of (insert_entry place_cmp es q r)) at ∙ values-insert_entry r es h

pub AreEntries-put : (p : Place) (r : OfficeRecord) (es fs : List (Place × OfficeRecord)) → p ≡ place_of (key_of r) → AreEntries es → fs ≡ insert_entry place_cmp es p r → IsStrictlySortedBy place_cmp (keys_of fs) → AreEntries fs
AreEntries-put p r es fs at old is sorted = record {
  rising = sorted;
  placed = subst ArePlaced (sym (is ∙ ap (λ q. insert_entry place_cmp es q r) at)) (placed-insert_entry r es old.placed);
}

-- ---- a record that is taken away

-- no record after one with the key has the key
none-behind : (k : OfficeKey) (es : List (Place × OfficeRecord)) → AllByRecursion (λ y. place_cmp (place_of k) y ≡ Less) (keys_of es) → ArePlaced es → without_row record_rank (key_numbers k) (values_of es) ≡ values_of es
none-behind k [] below h = refl
none-behind k (e ∷ es) below h =
    let vs = values_of es in
    let apart : is_same (record_rank e.1) (key_numbers k) ≡ false = sym (same-row k e.0 e.1 h.0) ∙ ap is_eq below.0 in
    ap (λ b. cond (not b) (e.1 ∷ without_row record_rank (key_numbers k) vs) (without_row record_rank (key_numbers k) vs)) apart
    ∙ ap (λ (l : List OfficeRecord). e.1 ∷ l) (none-behind k es below.1 h.1)

values-remove_entry : (k : OfficeKey) (es : List (Place × OfficeRecord)) → AreEntries es → values_of (remove_entry (is_at (place_cmp (place_of k))) es) ≡ without_row record_rank (key_numbers k) (values_of es)
unfolding IsStrictlySortedBy
values-remove_entry k [] h = refl
values-remove_entry k (e ∷ es) h =
    let p = place_of k in
    let vs = values_of es in
    let rest = without_row record_rank (key_numbers k) vs in
    let rising = h.rising in
    let placed = h.placed in
    let at : (b : Bool) → is_eq (place_cmp p e.0) ≡ b → values_of (cond b es (e ∷ remove_entry (is_at (place_cmp p)) es)) ≡ cond (not b) (e.1 ∷ rest) rest =
    elim [
      | true ↦ λ same.
          sym (none-behind k es (subst (λ q. AllByRecursion (λ y. place_cmp q y ≡ Less) (keys_of es)) (sym (exact_places p e.0 same)) rising.0) placed.1)
      | false ↦ λ _. ap (λ (l : List OfficeRecord). e.1 ∷ l) (values-remove_entry k es (record { rising = rising.1; placed = placed.1 }))
    ]
    in
    at (is_eq (place_cmp p e.0)) refl
    ∙ ap (λ b. cond (not b) (e.1 ∷ rest) rest) (same-row k e.0 e.1 placed.0)

pub values-removed : (p : Place) (k : OfficeKey) (es : List (Place × OfficeRecord)) → p ≡ place_of k → AreEntries es → values_of (remove_entry (is_at (place_cmp p)) es) ≡ without_row record_rank (key_numbers k) (values_of es)
values-removed p k es at h = ap (λ q. values_of (remove_entry (is_at (place_cmp q)) es)) at ∙ values-remove_entry k es h

placed-remove_entry : (test : Place → Bool) (es : List (Place × OfficeRecord)) → ArePlaced es → ArePlaced (remove_entry test es)
placed-remove_entry test [] h = h
placed-remove_entry test (e ∷ es) h =
    elim (test e.0) as (λ b. ArePlaced (cond b es (e ∷ remove_entry test es))) [ true ↦ h.1 | false ↦ (h.0, placed-remove_entry test es h.1) ]

pub AreEntries-remove_entry : (test : Place → Bool) (es fs : List (Place × OfficeRecord)) → AreEntries es → fs ≡ remove_entry test es → IsStrictlySortedBy place_cmp (keys_of fs) → AreEntries fs
AreEntries-remove_entry test es fs old is sorted = record {
  rising = sorted;
  placed = subst ArePlaced (sym is) (placed-remove_entry test es old.placed);
}

-- ---- a part of the map

-- a test of places that says what a test of records says
pub values-filter : (p : Place → Bool) (q : OfficeRecord → Bool) (es : List (Place × OfficeRecord)) → ((k : OfficeRecord) → p (place_of (key_of k)) ≡ q k) → ArePlaced es → values_of (filter (λ (e : Place × OfficeRecord). p e.0) es) ≡ filter q (values_of es)
values-filter p q [] tells h = refl
values-filter p q (e ∷ es) tells h =
    let vs = values_of es in
    let at : (b : Bool) → values_of (cond b (e ∷ filter (λ (f : Place × OfficeRecord). p f.0) es) (filter (λ (f : Place × OfficeRecord). p f.0) es)) ≡ cond b (e.1 ∷ filter q vs) (filter q vs) =
    elim [
      | true ↦ ap (λ (l : List OfficeRecord). e.1 ∷ l) (values-filter p q es tells h.1)
      | false ↦ values-filter p q es tells h.1
    ]
    in
    at (p e.0) ∙ ap (λ b. cond b (e.1 ∷ filter q vs) (filter q vs)) (ap p h.0 ∙ tells e.1)

first-filter : {X : Type 0} (q : X → Bool) (xs : List X) → slice_get (filter q xs) 0 ≡ find q xs
first-filter q [] = refl
first-filter q (x ∷ xs) =
    elim (q x) as (λ b. slice_get (cond b (x ∷ filter q xs) (filter q xs)) 0 ≡ cond b (Some x) (find q xs)) [ true ↦ refl | false ↦ first-filter q xs ]

follows : (after : Option OfficeKey) (r : OfficeRecord) → range_contains place_cmp (behind after) Unbounded (place_of (key_of r)) ≡ comes_after after r
follows None r = refl
follows (Some key) r =
    let at : (b : Bool) → (b && true) ≡ b = elim [ true ↦ refl | false ↦ refl ] in
    at (is_lt (place_cmp (place_of key) (place_of (key_of r)))) ∙ before-places key (key_of r)

pub following-entries : (after : Option OfficeKey) (start : Bound Place) (es fs : List (Place × OfficeRecord)) → start ≡ behind after → ArePlaced es → fs ≡ entries_between place_cmp start Unbounded es → slice_get (values_of fs) 0 ≡ following (values_of es) after
unfolding following
following-entries after start es fs begins h is =
    ap (λ (l : List (Place × OfficeRecord)). slice_get (values_of l) 0) (is ∙ ap (λ s. entries_between place_cmp s Unbounded es) begins)
    ∙ ap (λ (l : List OfficeRecord). slice_get l 0) (values-filter (range_contains place_cmp (behind after) Unbounded) (comes_after after) es (follows after) h)
    ∙ first-filter (comes_after after) (values_of es)

last_or-append : {X : Type 0} (o : Option X) (xs : List X) (x : X) → last_or o (xs ++ x ∷ []) ≡ Some x
last_or-append o [] x = refl
last_or-append o (y ∷ xs) x = last_or-append (Some y) xs x

values-append : (fs : List (Place × OfficeRecord)) (e : Place × OfficeRecord) → values_of (fs ++ e ∷ []) ≡ values_of fs ++ e.1 ∷ []
values-append [] e = refl
values-append (f ∷ fs) e = ap (λ (l : List OfficeRecord). f.1 ∷ l) (values-append fs e)

-- the last entry's record
pub last-entries : (es fs : List (Place × OfficeRecord)) (e : Place × OfficeRecord) → es ≡ fs ++ e ∷ [] → Some e.1 ≡ last_or None (values_of es)
last-entries es fs e is =
    sym (ap (λ (l : List (Place × OfficeRecord)). last_or None (values_of l)) is ∙ ap (last_or None) (values-append fs e) ∙ last_or-append None (values_of fs) e.1)

pub values-between : (start end : Place) (es fs : List (Place × OfficeRecord)) → ArePlaced es → fs ≡ entries_between place_cmp (Included start) (Excluded end) es → values_of fs ≡ filter (lies_between start end) (values_of es)
values-between start end es fs h is =
    ap values_of is
    ∙ values-filter (range_contains place_cmp (Included start) (Excluded end)) (lies_between start end) es (λ _. refl) h

pub first-between : (start end : Place) (rows part : List OfficeRecord) → part ≡ filter (lies_between start end) rows → slice_get part 0 ≡ find (lies_between start end) rows
first-between start end rows part is = ap (λ (l : List OfficeRecord). slice_get l 0) is ∙ first-filter (lies_between start end) rows

length-values : (es : List (Place × OfficeRecord)) → length es ≡ length (values_of es)
length-values [] = refl
length-values (e ∷ es) = let h = length-values es in omega arith

pub count-between : (start end : Place) (rows : List OfficeRecord) (part : List (Place × OfficeRecord)) → values_of part ≡ filter (lies_between start end) rows → length part ≡ count_by (lies_between start end) rows
count-between start end rows part is = length-values part ∙ ap length is ∙ length-filter (lies_between start end) rows

-- the records' places are the keys of the entries
places-entries : (es : List (Place × OfficeRecord)) → ArePlaced es → places_of (values_of es) ≡ keys_of es
places-entries [] h = refl
places-entries (e ∷ es) h = ap (λ (p : Place). p ∷ places_of (values_of es)) (sym h.0) ∙ ap (λ (l : List Place). e.0 ∷ l) (places-entries es h.1)

pub places-rise : (es : List (Place × OfficeRecord)) (rows : List OfficeRecord) → AreEntries es → values_of es ≡ rows → IsStrictlySortedBy place_cmp (places_of rows)
places-rise es rows h is =
    let rising = h.rising in
    subst (λ (ps : List Place). IsStrictlySortedBy place_cmp ps) (sym (places-entries es h.placed) ∙ ap places_of is) rising
