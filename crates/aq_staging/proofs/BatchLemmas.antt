-- The changes at the keys that a load touched are those at all keys.
use Rattle.std.proofs.Common.{◌≡◌, ℕ, Bool, true, false, cond, ◌++◌, Option, Some, None, is_some, unwrap_or, List, [], ◌∷◌, map, refl, ap, sym, subst, ◌∙◌}
use Rattle.std.specs.Prelude.{filter, option_map}
use Rattle.std.specs.List.{cons_option, filter_map}
use Rattle.std.proofs.lemmas.Bool.{and_from, and_parts}
use Rattle.std.proofs.lemmas.Slice.Eq.{bytes_eq-Decides}
use Rattle.aq_base.specs.declared.observation.ObsKey.{ObsKey}
use Rattle.aq_base.specs.declared.observation.Observation.{Observation}
use Rattle.aq_base.specs.declared.office.OfficeKey.{OfficeKey}
use Rattle.aq_base.specs.declared.office.OfficeRecord.{OfficeRecord}
use Rattle.aq_rules.proofs.BatchDone.{HasKey, found-key}
use Rattle.aq_rules.proofs.Changes.{either-rises, keys-rise, none-of_first, none-of_second}
use Rattle.aq_rules.proofs.Lookups.{none-behind, one_list, rises-rest}
use Rattle.aq_rules.proofs.OneKey.{one_office_key, one_observation_key}
use Rattle.aq_rules.proofs.SameRows.{content-itself, record-itself}
use Rattle.aq_rules.specs.Office.Load.{OfficeChange, PutObservation, PutRecord, keys_of_either, observation_change, record_change}
use Rattle.aq_rules.specs.Office.Office.{comes_before, content_of, is_same, key_numbers, key_of, observation_key, observation_numbers, observation_rank, record_rank, rises, rises_from, row_at}
use Rattle.aq_rules.specs.Office.RowOrder.{before-trans}
use Rattle.aq_staging.specs.declared.changes.Changes.{Changes}
use Rattle.aq_staging.specs.Batch.{observation_change_at, record_change_at}
use Rattle.aq_staging.specs.Changes.{with_changes, AreChanges}
use Rattle.aq_staging.specs.Keys.{either_keys, keys_in}
use Rattle.aq_staging.specs.Staged.{AreChangesOf, changes_between}
use Rattle.aq_staging.specs.Touched.{AreTouched}
use Rattle.aq_staging.proofs.ChangeLemmas.{found-with_changes, or_else, unless}

-- ---- keys at which nothing changes make no difference

module _ {K C : Type 0} (rank : K → List ℕ) (change : K → Option C) where
  abbrev keeps : K → Bool
  keeps key = is_some (change key)

  abbrev kept_if : Option K → Option K
  kept_if None = None
  kept_if (Some key) = cond (keeps key) (Some key) None

  of_kept : (keys : List K) → filter_map change keys ≡ filter_map change (filter keeps keys)
  of_kept [] = refl
  of_kept (key ∷ keys) = by_change (change key) refl (of_kept keys)
    where
      by_change : (c : Option C) → change key ≡ c → filter_map change keys ≡ filter_map change (filter keeps keys) → cons_option c (filter_map change keys) ≡ filter_map change (cond (is_some c) (key ∷ filter keeps keys) (filter keeps keys))
      by_change None e rest = rest
      by_change (Some c) e rest =
          ap (λ (l : List C). c ∷ l) rest
          ∙ ap (λ (o : Option C). cons_option o (filter_map change (filter keeps keys))) (sym e)

  from_earlier : (x y : K) (keys : List K) → comes_before (rank x) (rank y) ≡ true → rises_from rank y keys ≡ true → rises_from rank x keys ≡ true
  from_earlier x y [] before rising = refl
  from_earlier x y (next ∷ keys) before rising =
      let parts = and_parts (comes_before (rank y) (rank next)) (rises_from rank next keys) rising in
      and_from _ _ (before-trans (rank x) (rank y) (rank next) before parts.0) parts.1

  kept-from : (x : K) (keys : List K) → rises_from rank x keys ≡ true → rises_from rank x (filter keeps keys) ≡ true
  kept-from x [] rising = refl
  kept-from x (key ∷ keys) rising =
      let parts = and_parts (comes_before (rank x) (rank key)) (rises_from rank key keys) rising in
      by_test (keeps key) parts.0 (kept-from key keys parts.1) (kept-from x keys (from_earlier x key keys parts.0 parts.1))
    where
      by_test : (b : Bool) → comes_before (rank x) (rank key) ≡ true → rises_from rank key (filter keeps keys) ≡ true → rises_from rank x (filter keeps keys) ≡ true → rises_from rank x (cond b (key ∷ filter keeps keys) (filter keeps keys)) ≡ true
      by_test true before behind rest = and_from _ _ before behind
      by_test false before behind rest = rest

  kept-rises : (keys : List K) → rises rank keys ≡ true → rises rank (filter keeps keys) ≡ true
  kept-rises [] rising = refl
  kept-rises (key ∷ keys) rising = by_test (keeps key) (kept-from key keys rising) (kept-rises keys (rises-rest rank key keys rising))
    where
      by_test : (b : Bool) → rises_from rank key (filter keeps keys) ≡ true → rises rank (filter keeps keys) ≡ true → rises rank (cond b (key ∷ filter keeps keys) (filter keeps keys)) ≡ true
      by_test true behind rest = behind
      by_test false behind rest = rest

  found-kept : (q : List ℕ) (keys : List K) → rises rank keys ≡ true → row_at rank q (filter keeps keys) ≡ kept_if (row_at rank q keys)
  found-kept q [] rising = refl
  found-kept q (key ∷ keys) rising = by_tests (keeps key) (is_same (rank key) q) refl refl (found-kept q keys (rises-rest rank key keys rising))
    where
      by_tests : (b c : Bool) → keeps key ≡ b → is_same (rank key) q ≡ c → row_at rank q (filter keeps keys) ≡ kept_if (row_at rank q keys) → row_at rank q (cond b (key ∷ filter keeps keys) (filter keeps keys)) ≡ kept_if (cond c (Some key) (row_at rank q keys))
      by_tests true true keep same rest =
          ap (λ t. cond t (Some key) (row_at rank q (filter keeps keys))) same ∙ ap (λ t. cond t (Some key) None) (sym keep)
      by_tests true false keep other rest = ap (λ t. cond t (Some key) (row_at rank q (filter keeps keys))) other ∙ rest
      by_tests false true leave same rest =
          let none = ap (λ l. row_at rank l keys) (sym ((bytes_eq-Decides (rank key) q).0 same)) ∙ none-behind rank key keys rising in
          rest ∙ ap kept_if none ∙ ap (λ t. cond t (Some key) None) (sym leave)
      by_tests false false leave other rest = rest

  same-changes : (xs ys : List K) → rises rank xs ≡ true → rises rank ys ≡ true → ((q : List ℕ) → kept_if (row_at rank q xs) ≡ kept_if (row_at rank q ys)) → filter_map change xs ≡ filter_map change ys
  same-changes xs ys p q found =
      of_kept xs
      ∙ ap (filter_map change) (one_list rank (filter keeps xs) (filter keeps ys) (kept-rises xs p) (kept-rises ys q) (λ key. found-kept key xs p ∙ found key ∙ sym (found-kept key ys q)))
      ∙ sym (of_kept ys)

has-key : {K : Type 0} (rank : K → List ℕ) (q : List ℕ) (keys : List K) (key : K) → row_at rank q keys ≡ Some key → rank key ≡ q
unfolding HasKey
has-key rank q keys key found = subst (HasKey rank q) found (found-key rank q keys)

-- ---- keys, and what stands under them before and after

module _ {K V C : Type 0} (rank : K → List ℕ) (one_key : (a b : K) → rank a ≡ rank b → a ≡ b) (becomes : K → Option V → Option V → Option C) (idle : (key : K) (o : Option V) → becomes key o o ≡ None)
    (before after : List ℕ → Option V) where
  abbrev change_at : K → Option C
  change_at key = becomes key (before (rank key)) (after (rank key))

  -- at each other key the same stands before and after
  abbrev HaveChanges : List K → Type 0
  HaveChanges keys = (q : List ℕ) → row_at rank q keys ≡ None → before q ≡ after q

  none-at : (key : K) (q : List ℕ) → rank key ≡ q → before q ≡ after q → kept_if rank change_at (Some key) ≡ None
  none-at key q is same =
      let none : change_at key ≡ None = ap (λ l. becomes key (before l) (after l)) is ∙ ap (λ (o : Option V). becomes key o (after q)) same ∙ idle key (after q) in
      ap (λ (c : Option C). cond (is_some c) (Some key) None) none

  module _ (xs ys : List K) (xs_have : HaveChanges xs) (ys_have : HaveChanges ys) where
    agree : (q : List ℕ) → kept_if rank change_at (row_at rank q xs) ≡ kept_if rank change_at (row_at rank q ys)
    agree q = by_found (row_at rank q xs) refl (row_at rank q ys) refl
      where
        by_found : (x : Option K) → row_at rank q xs ≡ x → (y : Option K) → row_at rank q ys ≡ y → kept_if rank change_at x ≡ kept_if rank change_at y
        by_found None e None f = refl
        by_found (Some x) e None f = none-at x q (has-key rank q xs x e) (ys_have q f)
        by_found None e (Some y) f = sym (none-at y q (has-key rank q ys y f) (xs_have q e))
        by_found (Some x) e (Some y) f =
            ap (λ (k : K). kept_if rank change_at (Some k)) (one_key x y (has-key rank q xs x e ∙ sym (has-key rank q ys y f)))

    all-same : rises rank xs ≡ true → rises rank ys ≡ true → filter_map change_at xs ≡ filter_map change_at ys
    all-same p q = same-changes rank change_at xs ys p q agree

no-key : {X K : Type 0} (key : X → K) (rank : K → List ℕ) (q : List ℕ) (rows : List X) → row_at rank q (map key rows) ≡ None → row_at (λ x. rank (key x)) q rows ≡ None
no-key key rank q [] none = refl
no-key {X = X} key rank q (x ∷ rows) none = by_test (is_same (rank (key x)) q) none (no-key key rank q rows)
  where
    by_test : (b : Bool) → cond b (Some (key x)) (row_at rank q (map key rows)) ≡ None → (row_at rank q (map key rows) ≡ None → row_at (λ x. rank (key x)) q rows ≡ None) → cond b (Some x) (row_at (λ x. rank (key x)) q rows) ≡ None
    by_test true some rest = cc
    by_test false none rest = rest none

-- ---- records

record-idle : (key : OfficeKey) (o : Option OfficeRecord) → record_change key o o ≡ None
record-idle key None = refl
record-idle key (Some r) = ap (λ b. cond b None (Some (PutRecord r))) (record-itself r)

pub records-same : (before after touched : List OfficeRecord) → rises record_rank before ≡ true → AreTouched before after touched
    → filter_map (record_change_at before after) (map key_of touched) ≡ filter_map (record_change_at before after) (keys_of_either key_numbers (map key_of before) (map key_of after))
records-same before after touched rising are =
    all-same key_numbers one_office_key record_change record-idle (λ q. row_at record_rank q before) (λ q. row_at record_rank q after)
    (map key_of touched) (keys_of_either key_numbers (map key_of before) (map key_of after))
    (λ q none. are.others q (no-key key_of key_numbers q touched none))
    (λ q none.
    no-key key_of key_numbers q before (none-of_first key_numbers q (map key_of before) (map key_of after) none)
    ∙ sym (no-key key_of key_numbers q after (none-of_second key_numbers q (map key_of before) (map key_of after) none)))
    (keys-rise key_of key_numbers touched are.rising)
    (either-rises key_numbers (map key_of before) (map key_of after) (keys-rise key_of key_numbers before rising))

-- ---- observations

observation-idle : (key : ObsKey) (o : Option Observation) → observation_change key o o ≡ None
observation-idle key None = refl
observation-idle key (Some content) = ap (λ b. cond b None (Some (PutObservation key content))) (content-itself content)

pub observations-same : (rows : List (ObsKey × Observation)) (changes : Changes) → AreChanges rows changes
    → filter_map (observation_change_at rows (with_changes changes rows)) (either_keys (keys_in changes.dropped) (keys_in changes.left))
    ≡ filter_map (observation_change_at rows (with_changes changes rows)) (keys_of_either observation_numbers (keys_in rows) (keys_in (with_changes changes rows)))
observations-same rows changes are =
    let after = with_changes changes rows in
    all-same observation_numbers one_observation_key observation_change observation-idle (λ q. option_map content_of (row_at observation_rank q rows)) (λ q. option_map content_of (row_at observation_rank q after))
    (either_keys (keys_in changes.dropped) (keys_in changes.left)) (keys_of_either observation_numbers (keys_in rows) (keys_in after))
    (λ q none.
    let gone = no-key observation_key observation_numbers q changes.dropped (none-of_first observation_numbers q (keys_in changes.dropped) (keys_in changes.left) none) in
    let left = no-key observation_key observation_numbers q changes.left (none-of_second observation_numbers q (keys_in changes.dropped) (keys_in changes.left) none) in
    sym (ap (option_map content_of) (found-with_changes q changes rows are.left ∙ (λ i. or_else (left i) (unless (gone i) (row_at observation_rank q rows))))))
    (λ q none.
    ap (option_map content_of) (no-key observation_key observation_numbers q rows (none-of_first observation_numbers q (keys_in rows) (keys_in after) none)
    ∙ sym (no-key observation_key observation_numbers q after (none-of_second observation_numbers q (keys_in rows) (keys_in after) none))))
    (either-rises observation_numbers (keys_in changes.dropped) (keys_in changes.left) (keys-rise observation_key observation_numbers changes.dropped are.dropped))
    (either-rises observation_numbers (keys_in rows) (keys_in after) (keys-rise observation_key observation_numbers rows are.rising))

-- ---- the whole

pub batch-is : (left : Option (List OfficeRecord)) (touched : List OfficeRecord) (changes : Changes) (records : List OfficeRecord) (observations : List (ObsKey × Observation))
    → AreTouched records (unwrap_or left records) touched → AreChanges observations changes → rises record_rank records ≡ true
    → (start middle end : List OfficeChange) → start ≡ [] → middle ≡ start ++ filter_map (record_change_at records (unwrap_or left records)) (map key_of touched)
    → end ≡ middle ++ filter_map (observation_change_at observations (with_changes changes observations)) (either_keys (keys_in changes.dropped) (keys_in changes.left))
    → AreChangesOf records observations left changes end
unfolding changes_between
batch-is left touched changes records observations are_touched are rising start middle end none first second loads =
    let of_records = first ∙ ap (λ (l : List OfficeChange). l ++ filter_map (record_change_at records (unwrap_or left records)) (map key_of touched)) none ∙ records-same records (unwrap_or left records) touched rising are_touched in
    second ∙ (λ i. of_records i ++ observations-same observations changes are i)
