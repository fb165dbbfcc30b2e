-- Each change of a load's batch changes the rows of the office.
use Rattle.std.proofs.Common.{◌≡◌, ℕ, Bool, true, false, cond, not, List, [], ◌∷◌, ◌++◌, map, refl, sym, ap, ◌∙◌, subst, inl, inr}
use Rattle.std.specs.Prelude.{Option, Some, None, IsSome, All, find, option_map, pos, ◌==◌}
use Rattle.std.proofs.lemmas.Bool.{false≢true, cases_Bool}
use Rattle.std.proofs.lemmas.Bool.Decides.{Decides-int_eq}
use lib.Pointwise.{pointwise_decides}
use Rattle.aq_base.specs.declared.observation.ObsKey.{ObsKey}
use Rattle.aq_base.specs.declared.observation.Observation.{Observation}
use Rattle.aq_base.specs.declared.office.OfficeRecord.{OfficeRecord}
use Rattle.aq_base.specs.declared.office.OfficeKey.{OfficeKey}
use Rattle.aq_rules.specs.Lines.Lines.{body_lines}
use Rattle.aq_rules.specs.Office.Office.{Office, StoredLoad, IsOffice, is_same, key_of, key_numbers, observation_numbers, observation_key, content_of, record_rank, observation_rank, load_rank, is_key, is_site, is_record, row_at, record_at, observation_at, load_at}
use Rattle.aq_rules.specs.Office.Load.{OfficeChange, PutRecord, PutObservation, PutLoad, is_same_record, is_same_content, record_change, observation_change, record_changes, observation_changes, keys_of_either, load_change, batch, stored, after_all}
use Rattle.aq_rules.specs.Kept.Rows.{Row, office_row, obs_row, rows_of, record_of_row, observation_of_row}
use Rattle.aq_rules.specs.Kept.RowChanges.{RowKey, LoadRowKey, row_key, columns, key_before, is_same_row_key, put_row, drop_row, with_row_change, PutRow, DropRow, row_with, office_row_key, obs_row_key, RowChange, Alters, row_change, row_batch}
use Rattle.aq_rules.proofs.Elements.{Every, every-All, every-append, every-to}
use Rattle.aq_rules.proofs.SameRows.{record-itself, content-itself}
use Rattle.aq_rules.proofs.RowsBack.{record-back}
use Rattle.aq_rules.proofs.OfficeBack.{IsSpelled, spelled-back, R, O, L, record_rows, load_rows, observation_rows}
use Rattle.aq_rules.proofs.SpelledOffice.{AllSpelled, valid-spelled, spelled-after_all}
use Rattle.aq_rules.proofs.RowOrder.{office-agree, obs-agree, load-agree}
use Rattle.aq_rules.proofs.OneKey.{one_observation_key}
use Rattle.aq_rules.proofs.BatchDone.{HasKey, found-key}
use Rattle.aq_rules.proofs.RowBatch.{IfOne, record-key, each, found-every, filter-every, record-keys, observation-keys}

-- ---- what stands under a row's key

find-none : (p : Row → Bool) (xs ys : List Row) → Every (λ row. p row ≡ false) xs → find p (xs ++ ys) ≡ find p ys
find-none p [] ys every = refl
find-none p (x ∷ xs) ys every = ap (λ b. cond b (Some x) (find p (xs ++ ys))) every.0 ∙ find-none p xs ys every.1

no-row : (p : Row → Bool) (xs : List Row) → Every (λ row. p row ≡ false) xs → find p xs ≡ None
no-row p [] every = refl
no-row p (x ∷ xs) every = ap (λ b. cond b (Some x) (find p xs)) every.0 ∙ no-row p xs every.1

find-front : (p : Row → Bool) (xs ys : List Row) → Every (λ row. p row ≡ false) ys → find p (xs ++ ys) ≡ find p xs
find-front p [] ys every = no-row p ys every
find-front p (x ∷ xs) ys every = ap (λ o. cond (p x) (Some x) o) (find-front p xs ys every)

find-map : {X : Type 0} (write : X → Row) (rank : X → List ℕ) (p : Row → Bool) (key : List ℕ) (xs : List X) → Every (λ x. p (write x) ≡ is_same (rank x) key) xs
    → find p (map write xs) ≡ option_map write (row_at rank key xs)
find-map write rank p key [] every = refl
find-map write rank p key (x ∷ xs) every =
    (λ i. cond (every.0 i) (Some (write x)) (find-map write rank p key xs every.1 i)) ∙ written (is_same (rank x) key)
  where
    written : (b : Bool) → cond b (Some (write x)) (option_map write (row_at rank key xs)) ≡ option_map write (cond b (Some x) (row_at rank key xs))
    written true = refl
    written false = refl

module _ (office : Office) (all : AllSpelled office) where
  office-found : (key : OfficeKey) → is_key key ≡ true → row_with (office_row_key key) (rows_of office) ≡ option_map R (record_at office key)
  unfolding rows_of
  office-found key is =
      let p : Row → Bool = λ row. is_same_row_key (row_key row) (office_row_key key) in
      find-front p (record_rows office ++ load_rows office) (observation_rows office) (each (λ row. p row ≡ false) O (λ o. refl) office.observations)
      ∙ find-front p (record_rows office) (load_rows office) (each (λ row. p row ≡ false) L (λ l. refl) office.loads)
      ∙ find-map R record_rank p (key_numbers key) office.records
      (every-to (λ r. is_record r ≡ true) (λ r. p (R r) ≡ is_same (record_rank r) (key_numbers key)) (λ r h. (office-agree (key_of r) key (record-key r h) is).same) office.records all.records)

  obs-found : (key : ObsKey) → is_site key.monitor.site ≡ true → row_with (obs_row_key key) (rows_of office) ≡ option_map O (row_at observation_rank (observation_numbers key) office.observations)
  unfolding rows_of
  obs-found key is =
      let p : Row → Bool = λ row. is_same_row_key (row_key row) (obs_row_key key) in
      find-none p (record_rows office ++ load_rows office) (observation_rows office)
      (every-append (λ row. p row ≡ false) (record_rows office) (load_rows office) (each (λ row. p row ≡ false) R (λ r. refl) office.records) (each (λ row. p row ≡ false) L (λ l. refl) office.loads))
      ∙ find-map O observation_rank p (observation_numbers key) office.observations
      (every-to IsSpelled (λ o. p (O o) ≡ is_same (observation_rank o) (observation_numbers key)) (λ o h. (obs-agree o.0 key h.site is).same) office.observations all.observations)

  load-found : (number : ℕ) → row_with (LoadRowKey (pos number)) (rows_of office) ≡ option_map L (load_at office number)
  unfolding rows_of
  load-found number =
      let p : Row → Bool = λ row. is_same_row_key (row_key row) (LoadRowKey (pos number)) in
      find-front p (record_rows office ++ load_rows office) (observation_rows office) (each (λ row. p row ≡ false) O (λ o. refl) office.observations)
      ∙ find-none p (record_rows office) (load_rows office) (each (λ row. p row ≡ false) R (λ r. refl) office.records)
      ∙ find-map L load_rank p (number ∷ []) office.loads (all-loads office.loads)
    where
      all-loads : (loads : List StoredLoad) → Every (λ l. is_same_row_key (row_key (L l)) (LoadRowKey (pos number)) ≡ is_same (load_rank l) (number ∷ [])) loads
      all-loads [] = tt
      all-loads (l ∷ loads) = ((load-agree l.number number).same, all-loads loads)

  -- ---- records

  one_record : (r s : OfficeRecord) → is_record r ≡ true → is_record s ≡ true → R r ≡ R s → r ≡ s
  one_record r s p q same =
      let rows : office_row r ≡ office_row s = cc in
      let found : Some r ≡ Some s = sym (record-back r p) ∙ ap record_of_row rows ∙ record-back s q in
      cc

  record-alters : (key : OfficeKey) (old new : Option OfficeRecord) → is_key key ≡ true → record_at office key ≡ old → HasKey record_rank (key_numbers key) new
      → IfOne (λ r. is_record r ≡ true) old → IfOne (λ r. is_record r ≡ true) new
      → IfOne (λ c. Alters (rows_of office) (row_change c)) (record_change key old new)
  unfolding IfOne HasKey
  record-alters key None None is here has was spelled = tt
  record-alters key None (Some new) is here has was spelled =
      λ standing.
      let found : row_with (office_row_key (key_of new)) (rows_of office) ≡ None =
      office-found (key_of new) (record-key new spelled) ∙ ap (λ l. option_map R (row_at record_rank l office.records)) has ∙ ap (option_map R) here
      in
      let both : None ≡ Some (R new) = sym found ∙ standing in
      cc
  record-alters key (Some old) None is here has was spelled =
      let found : Some (R old) ≡ row_with (office_row_key key) (rows_of office) = sym (office-found key is ∙ ap (option_map R) here) in
      subst (λ (o : Option Row). IsSome o) found refl
  record-alters key (Some old) (Some new) is here has was spelled = by_test (is_same_record old new) refl
    where
      found : row_with (office_row_key (key_of new)) (rows_of office) ≡ Some (R old)
      found = office-found (key_of new) (record-key new spelled) ∙ ap (λ l. option_map R (row_at record_rank l office.records)) has ∙ ap (option_map R) here

      by_test : (b : Bool) → is_same_record old new ≡ b → IfOne (λ c. Alters (rows_of office) (row_change c)) (cond b None (Some (PutRecord new)))
      by_test true e = tt
      by_test false e = λ standing.
          let both : Some (R old) ≡ Some (R new) = sym found ∙ standing in
          let rows : R old ≡ R new = cc in
          let one = one_record old new was spelled rows in
          false≢true (sym e ∙ subst (λ s. is_same_record old s ≡ true) one (record-itself old))

  -- ---- observations

  one_entry : (a b : ObsKey × Observation) → IsSpelled a → IsSpelled b → O a ≡ O b → a ≡ b
  one_entry a b p q same =
      let rows : obs_row a ≡ obs_row b = cc in
      let found : Some a ≡ Some b = sym (spelled-back a p) ∙ ap observation_of_row rows ∙ spelled-back b q in
      cc

  observation-alters : (key : ObsKey) (old new : Option (ObsKey × Observation)) → is_site key.monitor.site ≡ true → row_at observation_rank (observation_numbers key) office.observations ≡ old
      → HasKey observation_rank (observation_numbers key) old → HasKey observation_rank (observation_numbers key) new → IfOne IsSpelled old → IfOne IsSpelled new
      → IfOne (λ c. Alters (rows_of office) (row_change c)) (observation_change key (option_map content_of old) (option_map content_of new))
  unfolding IfOne HasKey
  observation-alters key None None is here had has was spelled = tt
  observation-alters key None (Some new) is here had has was spelled =
      λ standing.
      let both : None ≡ Some (O (key, new.1)) = sym (obs-found key is ∙ ap (option_map O) here) ∙ standing in
      cc
  observation-alters key (Some old) None is here had has was spelled =
      let found : Some (O old) ≡ row_with (obs_row_key key) (rows_of office) = sym (obs-found key is ∙ ap (option_map O) here) in
      subst (λ (o : Option Row). IsSome o) found refl
  observation-alters key (Some old) (Some new) is here had has was spelled = by_test (is_same_content old.1 new.1) refl
    where
      by_test : (b : Bool) → is_same_content old.1 new.1 ≡ b → IfOne (λ c. Alters (rows_of office) (row_change c)) (cond b None (Some (PutObservation key new.1)))
      by_test true e = tt
      by_test false e = λ standing.
          let both : Some (O old) ≡ Some (O (key, new.1)) = sym (obs-found key is ∙ ap (option_map O) here) ∙ standing in
          let rows : O old ≡ O (key, new.1) = cc in
          let put : IsSpelled (key, new.1) = subst (λ k. IsSpelled (k, new.1)) (one_observation_key new.0 key has) spelled in
          let one = one_entry old (key, new.1) was put rows in
          false≢true (sym e ∙ subst (λ (o : ObsKey × Observation). is_same_content old.1 o.1 ≡ true) one (content-itself old.1))

-- ---- the batch

every-change : (rows : List Row) (changes : List OfficeChange) → Every (λ c. Alters rows (row_change c)) changes → Every (Alters rows) (map row_change changes)
every-change rows [] every = tt
every-change rows (c ∷ changes) every = (every.0, every-change rows changes every.1)

module _ (office : Office) (valid : IsOffice office) (number : ℕ) (digest body : List ℕ) where
  abbrev now : Office
  now = after_all office (body_lines body)

  was : AllSpelled office
  was = valid-spelled office valid

  spelled : AllSpelled now
  spelled = spelled-after_all (body_lines body) office was

  records-alter : Every (λ c. Alters (rows_of office) (row_change c)) (record_changes office now)
  records-alter =
      filter-every (λ c. Alters (rows_of office) (row_change c)) (λ k. record_change k (record_at office k) (record_at now k)) (keys_of_either key_numbers (map key_of office.records) (map key_of now.records))
      (every-to (λ k. is_key k ≡ true) (λ k. IfOne (λ c. Alters (rows_of office) (row_change c)) (record_change k (record_at office k) (record_at now k)))
      (λ k h. record-alters office was k (record_at office k) (record_at now k) h refl (found-key record_rank (key_numbers k) now.records)
      (found-every (λ r. is_record r ≡ true) record_rank (key_numbers k) office.records was.records)
      (found-every (λ r. is_record r ≡ true) record_rank (key_numbers k) now.records spelled.records))
      (keys_of_either key_numbers (map key_of office.records) (map key_of now.records)) (record-keys office now was spelled))

  observations-alter : Every (λ c. Alters (rows_of office) (row_change c)) (observation_changes office now)
  observations-alter =
      filter-every (λ c. Alters (rows_of office) (row_change c)) (λ k. observation_change k (observation_at office k) (observation_at now k)) (keys_of_either observation_numbers (map observation_key office.observations) (map observation_key now.observations))
      (every-to (λ (k : ObsKey). is_site k.monitor.site ≡ true) (λ k. IfOne (λ c. Alters (rows_of office) (row_change c)) (observation_change k (observation_at office k) (observation_at now k)))
      (λ k h. observation-alters office was k (row_at observation_rank (observation_numbers k) office.observations) (row_at observation_rank (observation_numbers k) now.observations) h refl
      (found-key observation_rank (observation_numbers k) office.observations) (found-key observation_rank (observation_numbers k) now.observations)
      (found-every IsSpelled observation_rank (observation_numbers k) office.observations was.observations)
      (found-every IsSpelled observation_rank (observation_numbers k) now.observations spelled.observations))
      (keys_of_either observation_numbers (map observation_key office.observations) (map observation_key now.observations)) (observation-keys office now was spelled))

  load-alters : (zero : Bool) → load_at office number ≡ None → Every (λ c. Alters (rows_of office) (row_change c)) (cond zero [] (PutLoad (stored office number digest body) ∷ []))
  load-alters true new = tt
  load-alters false new = (
    λ standing.
        let both : None ≡ Some (L (stored office number digest body)) = sym (load-found office was number ∙ ap (option_map L) new) ∙ standing in
        cc,
    tt,
  )

  pub batch-alters : load_at office number ≡ None → All (Alters (rows_of office)) (row_batch office number digest body)
  unfolding row_batch
  batch-alters new =
      every-All (Alters (rows_of office)) (row_batch office number digest body)
      (every-change (rows_of office) (batch office number digest body)
      (every-append (λ c. Alters (rows_of office) (row_change c)) (record_changes office now ++ observation_changes office now) (load_change (stored office number digest body))
      (every-append (λ c. Alters (rows_of office) (row_change c)) (record_changes office now) (observation_changes office now) records-alter observations-alter)
      (load-alters (number == 0) new)))

-- ---- what a change that alters does

same_key-itself : (key : RowKey) → is_same_row_key key key ≡ true
same_key-itself key = (pointwise_decides Decides-int_eq (columns key) (columns key)).1 refl

same_key-turned : (a b : RowKey) → is_same_row_key a b ≡ false → is_same_row_key b a ≡ false
same_key-turned a b differ =
    elim (cases_Bool (is_same_row_key b a)) [
      | inr other ↦ other
      | inl same ↦
          let equal : columns b ≡ columns a = (pointwise_decides Decides-int_eq (columns b) (columns a)).0 same in
          absurd (false≢true (sym differ ∙ (pointwise_decides Decides-int_eq (columns a) (columns b)).1 (sym equal)))
    ]

put-stands : (row : Row) (rows : List Row) → row_with (row_key row) (put_row row rows) ≡ Some row
put-stands row [] = ap (λ b. cond b (Some row) None) (same_key-itself (row_key row))
put-stands row (first ∷ rows) = by_tests (key_before (row_key row) (row_key first)) (is_same_row_key (row_key row) (row_key first)) refl (put-stands row rows)
  where
    here : (rest : List Row) → row_with (row_key row) (row ∷ rest) ≡ Some row
    here rest = ap (λ b. cond b (Some row) (row_with (row_key row) rest)) (same_key-itself (row_key row))

    by_tests : (b s : Bool) → is_same_row_key (row_key row) (row_key first) ≡ s → row_with (row_key row) (put_row row rows) ≡ Some row
        → row_with (row_key row) (cond b (row ∷ first ∷ rows) (cond s (row ∷ rows) (first ∷ put_row row rows))) ≡ Some row
    by_tests true s e rest = here (first ∷ rows)
    by_tests false true e rest = here rows
    by_tests false false e rest = ap (λ b. cond b (Some first) (row_with (row_key row) (put_row row rows))) (same_key-turned (row_key row) (row_key first) e) ∙ rest

drop-gone : (key : RowKey) (rows : List Row) → row_with key (drop_row key rows) ≡ None
drop-gone key [] = refl
drop-gone key (first ∷ rows) = by_test (is_same_row_key (row_key first) key) refl (drop-gone key rows)
  where
    by_test : (b : Bool) → is_same_row_key (row_key first) key ≡ b → row_with key (drop_row key rows) ≡ None
        → row_with key (cond (not b) (first ∷ drop_row key rows) (drop_row key rows)) ≡ None
    by_test true e rest = rest
    by_test false e rest = ap (λ b. cond b (Some first) (row_with key (drop_row key rows))) e ∙ rest

pub altered-differ : (rows : List Row) (change : RowChange) → Alters rows change → with_row_change rows change ≡ rows → ⊥
altered-differ rows (PutRow row) alters same = alters (ap (row_with (row_key row)) (sym same) ∙ put-stands row rows)
altered-differ rows (DropRow key) alters same =
    let none : None ≡ row_with key rows = sym (drop-gone key rows) ∙ ap (row_with key) same in
    let some : IsSome {T = Row} None = subst (λ (o : Option Row). IsSome o) (sym none) alters in
    false≢true some
