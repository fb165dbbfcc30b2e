-- The batch of a load, as changes of rows: done to the office's rows it gives the rows of the office after the load.
use Rattle.std.proofs.Common.{◌≡◌, ℕ, Bool, true, false, cond, not, List, [], ◌∷◌, ◌++◌, map, refl, ap, ◌∙◌, subst}
use Rattle.std.specs.Prelude.{Option, Some, None, fold, filter_map, option_map, ◌==◌}
use Rattle.std.specs.List.{cons_option}
use Rattle.std.proofs.lemmas.List.Elements.{filter-append}
use Rattle.std.proofs.lemmas.Bool.{and_parts}
use Rattle.aq_base.specs.declared.observation.ObsKey.{ObsKey}
use Rattle.aq_base.specs.declared.observation.Observation.{Observation}
use Rattle.aq_base.specs.declared.office.OfficeRecord.{OfficeRecord}
use Rattle.aq_base.specs.declared.office.OfficeKey.{OfficeKey}
use Rattle.aq_rules.specs.Lines.Lines.{body_lines}
use Rattle.aq_rules.specs.Office.Office.{Office, StoredLoad, IsOffice, is_same, comes_before, key_of, key_numbers, observation_numbers, observation_key, content_of, record_rank, observation_rank, load_rank, is_key, is_site, is_record, is_content_of, row_at, with_row, without_row, record_at, observation_at}
use Rattle.aq_rules.specs.Office.Load.{OfficeChange, PutRecord, DropRecord, PutObservation, DropObservation, PutLoad, with_change, is_same_record, is_same_content, record_change, observation_change, record_changes, observation_changes, keys_of_either, load_change, batch, stored, load, after_all}
use Rattle.aq_rules.specs.Kept.Rows.{Row, rows_of}
use Rattle.aq_rules.specs.Kept.RowChanges.{RowKey, row_key, key_before, is_same_row_key, office_row_key, obs_row_key, put_row, drop_row, with_row_change, with_row_changes, row_change, row_batch}
use Rattle.aq_rules.proofs.Elements.{Every, every-append, every-map, every-to}
use Rattle.aq_rules.proofs.OfficeBack.{IsSpelled, R, O, L, record_rows, load_rows, observation_rows}
use Rattle.aq_rules.proofs.SpelledOffice.{AllSpelled, valid-spelled, spelled-after_all, every-with, every-without}
use Rattle.aq_rules.proofs.RowOrder.{Agree, office-agree, obs-agree, load-agree}
use Rattle.aq_rules.proofs.OneKey.{one_observation_key}
use Rattle.aq_rules.proofs.BatchDone.{HasKey, found-key, batch-done}

-- ---- a table's rows put and dropped

module _ {X : Type 0} (write : X → Row) (rank : X → List ℕ) where
  put-map : (x : X) (rows : List X) → Every (λ y. Agree (rank x) (rank y) (row_key (write x)) (row_key (write y))) rows
      → put_row (write x) (map write rows) ≡ map write (with_row rank x rows)
  put-map x [] agree = refl
  put-map x (first ∷ rows) agree =
      let k = row_key (write x) in
      let l = row_key (write first) in
      (λ i. cond (agree.0.before i) (write x ∷ write first ∷ map write rows) (cond (agree.0.same i) (write x ∷ map write rows) (write first ∷ put-map x rows agree.1 i)))
      ∙ written (comes_before (rank x) (rank first)) (is_same (rank x) (rank first))
    where
      written : (b s : Bool) → cond b (write x ∷ write first ∷ map write rows) (cond s (write x ∷ map write rows) (write first ∷ map write (with_row rank x rows)))
          ≡ map write (cond b (x ∷ first ∷ rows) (cond s (x ∷ rows) (first ∷ with_row rank x rows)))
      written true s = refl
      written false true = refl
      written false false = refl

  drop-map : (key : List ℕ) (row : RowKey) (rows : List X) → Every (λ y. is_same_row_key (row_key (write y)) row ≡ is_same (rank y) key) rows
      → drop_row row (map write rows) ≡ map write (without_row rank key rows)
  drop-map key row [] agree = refl
  drop-map key row (first ∷ rows) agree =
      (λ i. cond (not (agree.0 i)) (write first ∷ drop-map key row rows agree.1 i) (drop-map key row rows agree.1 i)) ∙ written (not (is_same (rank first) key))
    where
      written : (b : Bool) → cond b (write first ∷ map write (without_row rank key rows)) (map write (without_row rank key rows)) ≡ map write (cond b (first ∷ without_row rank key rows) (without_row rank key rows))
      written true = refl
      written false = refl

-- ---- a row among the tables

-- rows that come after a key, and rows that come before it
abbrev After : RowKey → List Row → Type 0
After key rows = Every (λ row. key_before key (row_key row) ≡ true) rows

abbrev Earlier : RowKey → List Row → Type 0
Earlier key rows = Every (λ row. (key_before key (row_key row) ≡ false) × (is_same_row_key key (row_key row) ≡ false)) rows

abbrev Others : RowKey → List Row → Type 0
Others key rows = Every (λ row. is_same_row_key (row_key row) key ≡ false) rows

put-front : (row : Row) (xs ys : List Row) → After (row_key row) ys → put_row row (xs ++ ys) ≡ put_row row xs ++ ys
put-front row [] [] after = refl
put-front row [] (y ∷ ys) after = ap (λ b. cond b (row ∷ y ∷ ys) (cond (is_same_row_key (row_key row) (row_key y)) (row ∷ ys) (y ∷ put_row row ys))) after.0
put-front row (x ∷ xs) ys after =
    ap (λ l. cond (key_before (row_key row) (row_key x)) (row ∷ x ∷ (xs ++ ys)) (cond (is_same_row_key (row_key row) (row_key x)) (row ∷ (xs ++ ys)) (x ∷ l))) (put-front row xs ys after)
    ∙ cut (key_before (row_key row) (row_key x)) (is_same_row_key (row_key row) (row_key x))
  where
    cut : (b s : Bool) → cond b (row ∷ x ∷ (xs ++ ys)) (cond s (row ∷ (xs ++ ys)) (x ∷ (put_row row xs ++ ys))) ≡ cond b (row ∷ x ∷ xs) (cond s (row ∷ xs) (x ∷ put_row row xs)) ++ ys
    cut true s = refl
    cut false true = refl
    cut false false = refl

put-behind : (row : Row) (xs ys : List Row) → Earlier (row_key row) xs → put_row row (xs ++ ys) ≡ xs ++ put_row row ys
put-behind row [] ys earlier = refl
put-behind row (x ∷ xs) ys earlier =
    (λ i. cond (earlier.0.0 i) (row ∷ x ∷ (xs ++ ys)) (cond (earlier.0.1 i) (row ∷ (xs ++ ys)) (x ∷ put-behind row xs ys earlier.1 i)))

drop-others : (key : RowKey) (rows : List Row) → Others key rows → drop_row key rows ≡ rows
drop-others key [] others = refl
drop-others key (row ∷ rows) others = λ i. cond (not (others.0 i)) (row ∷ drop-others key rows others.1 i) (drop-others key rows others.1 i)

pub each : {X : Type 0} (P : Row → Type 0) (write : X → Row) → ((x : X) → P (write x)) → (xs : List X) → Every P (map write xs)
each P write h [] = tt
each P write h (x ∷ xs) = (h x, each P write h xs)

drop-three : (key : RowKey) (a b c : List Row) → drop_row key (a ++ b ++ c) ≡ drop_row key a ++ drop_row key b ++ drop_row key c
drop-three key a b c =
    filter-append (λ row. not (is_same_row_key (row_key row) key)) (a ++ b) c
    ∙ ap (λ l. l ++ drop_row key c) (filter-append (λ row. not (is_same_row_key (row_key row) key)) a b)

-- ---- one change

-- a change to rows that lines can spell
unfoldable pub IsSpelledChange : OfficeChange → Type 0
IsSpelledChange (PutRecord r) = is_record r ≡ true
IsSpelledChange (DropRecord key) = is_key key ≡ true
IsSpelledChange (PutObservation key content) = IsSpelled (key, content)
IsSpelledChange (DropObservation key) = is_site key.monitor.site ≡ true
IsSpelledChange (PutLoad kept) = Unit {0}

pub record-key : (r : OfficeRecord) → is_record r ≡ true → is_key (key_of r) ≡ true
record-key r is = (and_parts (is_key (key_of r)) (is_content_of r) is).0

module _ (office : Office) (all : AllSpelled office) where
  change-written : (change : OfficeChange) → IsSpelledChange change → with_row_change (rows_of office) (row_change change) ≡ rows_of (with_change office change)
  unfolding rows_of IsSpelledChange
  change-written (PutRecord r) is =
      let agree = every-to (λ s. is_record s ≡ true) (λ s. Agree (record_rank r) (record_rank s) (row_key (R r)) (row_key (R s)))
      (λ s h. office-agree (key_of r) (key_of s) (record-key r is) (record-key s h)) office.records all.records
      in
      put-front (R r) (record_rows office ++ load_rows office) (observation_rows office) (each (λ row. key_before (row_key (R r)) (row_key row) ≡ true) O (λ o. refl) office.observations)
      ∙ ap (λ l. l ++ observation_rows office) (put-front (R r) (record_rows office) (load_rows office) (each (λ row. key_before (row_key (R r)) (row_key row) ≡ true) L (λ l. refl) office.loads))
      ∙ ap (λ l. l ++ load_rows office ++ observation_rows office) (put-map R record_rank r office.records agree)
  change-written (DropRecord key) is =
      let agree = every-to (λ s. is_record s ≡ true) (λ s. is_same_row_key (row_key (R s)) (office_row_key key) ≡ is_same (record_rank s) (key_numbers key))
      (λ s h. (office-agree (key_of s) key (record-key s h) is).same) office.records all.records
      in
      drop-three (office_row_key key) (record_rows office) (load_rows office) (observation_rows office)
      ∙ (λ i. drop-map R record_rank (key_numbers key) (office_row_key key) office.records agree i
      ++ drop-others (office_row_key key) (load_rows office) (each (λ row. is_same_row_key (row_key row) (office_row_key key) ≡ false) L (λ l. refl) office.loads) i
      ++ drop-others (office_row_key key) (observation_rows office) (each (λ row. is_same_row_key (row_key row) (office_row_key key) ≡ false) O (λ o. refl) office.observations) i)
  change-written (PutObservation key content) is =
      let o : ObsKey × Observation = (key, content) in
      let agree = every-to IsSpelled (λ p. Agree (observation_rank o) (observation_rank p) (row_key (O o)) (row_key (O p)))
      (λ p h. obs-agree key p.0 is.site h.site) office.observations all.observations
      in
      put-behind (O o) (record_rows office ++ load_rows office) (observation_rows office)
      (every-append (λ row. (key_before (row_key (O o)) (row_key row) ≡ false) × (is_same_row_key (row_key (O o)) (row_key row) ≡ false)) (record_rows office) (load_rows office)
      (each (λ row. (key_before (row_key (O o)) (row_key row) ≡ false) × (is_same_row_key (row_key (O o)) (row_key row) ≡ false)) R (λ r. (refl, refl)) office.records)
      (each (λ row. (key_before (row_key (O o)) (row_key row) ≡ false) × (is_same_row_key (row_key (O o)) (row_key row) ≡ false)) L (λ l. (refl, refl)) office.loads))
      ∙ ap (λ l. record_rows office ++ load_rows office ++ l) (put-map O observation_rank o office.observations agree)
  change-written (DropObservation key) is =
      let agree = every-to IsSpelled (λ p. is_same_row_key (row_key (O p)) (obs_row_key key) ≡ is_same (observation_rank p) (observation_numbers key))
      (λ p h. (obs-agree p.0 key h.site is).same) office.observations all.observations
      in
      drop-three (obs_row_key key) (record_rows office) (load_rows office) (observation_rows office)
      ∙ (λ i. drop-others (obs_row_key key) (record_rows office) (each (λ row. is_same_row_key (row_key row) (obs_row_key key) ≡ false) R (λ r. refl) office.records) i
      ++ drop-others (obs_row_key key) (load_rows office) (each (λ row. is_same_row_key (row_key row) (obs_row_key key) ≡ false) L (λ l. refl) office.loads) i
      ++ drop-map O observation_rank (observation_numbers key) (obs_row_key key) office.observations agree i)
  change-written (PutLoad kept) is =
      put-front (L kept) (record_rows office ++ load_rows office) (observation_rows office) (each (λ row. key_before (row_key (L kept)) (row_key row) ≡ true) O (λ o. refl) office.observations)
      ∙ ap (λ l. l ++ observation_rows office) (put-behind (L kept) (record_rows office) (load_rows office) (each (λ row. (key_before (row_key (L kept)) (row_key row) ≡ false) × (is_same_row_key (row_key (L kept)) (row_key row) ≡ false)) R (λ r. (refl, refl)) office.records))
      ∙ ap (λ l. record_rows office ++ l ++ observation_rows office) (put-map L load_rank kept office.loads (all-loads office.loads))
    where
      all-loads : (loads : List StoredLoad) → Every (λ l. Agree (load_rank kept) (load_rank l) (row_key (L kept)) (row_key (L l))) loads
      all-loads [] = tt
      all-loads (l ∷ loads) = (load-agree kept.number l.number, all-loads loads)

  change-spelled : (change : OfficeChange) → IsSpelledChange change → AllSpelled (with_change office change)
  unfolding IsSpelledChange
  change-spelled (PutRecord r) is = record { records = every-with (λ s. is_record s ≡ true) record_rank r office.records is all.records; observations = all.observations }
  change-spelled (DropRecord key) is = record { records = every-without (λ s. is_record s ≡ true) record_rank (key_numbers key) office.records all.records; observations = all.observations }
  change-spelled (PutObservation key content) is = record { records = all.records; observations = every-with IsSpelled observation_rank (key, content) office.observations is all.observations }
  change-spelled (DropObservation key) is = record { records = all.records; observations = every-without IsSpelled observation_rank (observation_numbers key) office.observations all.observations }
  change-spelled (PutLoad kept) is = record { records = all.records; observations = all.observations }

-- ---- all changes

changes-written : (changes : List OfficeChange) (office : Office) → AllSpelled office → Every IsSpelledChange changes
    → with_row_changes (rows_of office) (map row_change changes) ≡ rows_of (fold with_change office changes)
changes-written [] office all every = refl
changes-written (change ∷ changes) office all every =
    ap (λ rows. with_row_changes rows (map row_change changes)) (change-written office all change every.0)
    ∙ changes-written changes (with_change office change) (change-spelled office all change every.0) every.1

-- ---- the changes of a load are spelled

unfoldable pub IfOne : {X : Type 0} → (X → Type 0) → Option X → Type 0
IfOne P None = Unit {0}
IfOne P (Some x) = P x

pub found-every : {X : Type 0} (P : X → Type 0) (rank : X → List ℕ) (key : List ℕ) (rows : List X) → Every P rows → IfOne P (row_at rank key rows)
unfolding IfOne
found-every P rank key [] every = tt
found-every P rank key (first ∷ rows) every = by_test (is_same (rank first) key) (found-every P rank key rows every.1)
  where
    by_test : (b : Bool) → IfOne P (row_at rank key rows) → IfOne P (cond b (Some first) (row_at rank key rows))
    by_test true rest = every.0
    by_test false rest = rest

pub filter-every : {K C : Type 0} (Q : C → Type 0) (change : K → Option C) (keys : List K) → Every (λ k. IfOne Q (change k)) keys → Every Q (filter_map change keys)
unfolding IfOne
filter-every Q change [] every = tt
filter-every {C = C} Q change (k ∷ keys) every = by_option (change k) every.0 (filter-every Q change keys every.1)
  where
    by_option : (c : Option C) → IfOne Q c → Every Q (filter_map change keys) → Every Q (cons_option c (filter_map change keys))
    by_option None one rest = rest
    by_option (Some c) one rest = (one, rest)

pub either-every : {K : Type 0} (P : K → Type 0) (rank : K → List ℕ) (before now : List K) → Every P before → Every P now → Every P (keys_of_either rank before now)
either-every P rank before [] was is = was
either-every P rank before (key ∷ now) was is = either-every P rank (with_row rank key before) now (every-with P rank key before is.0 was) is.1

-- a change, unless the new row is the old one
if_changed : (same : Bool) (change : OfficeChange) → IsSpelledChange change → IfOne IsSpelledChange (cond same None (Some change))
unfolding IfOne
if_changed true change is = tt
if_changed false change is = is

record-spelled : (key : OfficeKey) (old new : Option OfficeRecord) → is_key key ≡ true → IfOne (λ r. is_record r ≡ true) new → IfOne IsSpelledChange (record_change key old new)
unfolding IfOne IsSpelledChange
record-spelled key None None is has = tt
record-spelled key None (Some new) is has = has
record-spelled key (Some old) None is has = is
record-spelled key (Some old) (Some new) is has = if_changed (is_same_record old new) (PutRecord new) has

-- an entry stands at its key
entry-content : (key : ObsKey) (new : Option (ObsKey × Observation)) → HasKey observation_rank (observation_numbers key) new → IfOne IsSpelled new → IfOne (λ content. IsSpelled (key, content)) (option_map content_of new)
unfolding IfOne HasKey
entry-content key None has spelled = tt
entry-content key (Some new) has spelled = subst (λ k. IsSpelled (k, new.1)) (one_observation_key new.0 key has) spelled

observation-spelled : (key : ObsKey) (old new : Option Observation) → is_site key.monitor.site ≡ true → IfOne (λ content. IsSpelled (key, content)) new → IfOne IsSpelledChange (observation_change key old new)
unfolding IfOne IsSpelledChange
observation-spelled key None None is has = tt
observation-spelled key None (Some new) is has = has
observation-spelled key (Some old) None is has = is
observation-spelled key (Some old) (Some new) is has = if_changed (is_same_content old new) (PutObservation key new) has

module _ (before now : Office) (was : AllSpelled before) (is : AllSpelled now) where
  pub record-keys : Every (λ k. is_key k ≡ true) (keys_of_either key_numbers (map key_of before.records) (map key_of now.records))
  record-keys =
      either-every (λ k. is_key k ≡ true) key_numbers (map key_of before.records) (map key_of now.records)
      (every-map (λ r. is_record r ≡ true) (λ k. is_key k ≡ true) key_of record-key before.records was.records)
      (every-map (λ r. is_record r ≡ true) (λ k. is_key k ≡ true) key_of record-key now.records is.records)

  pub observation-keys : Every (λ (k : ObsKey). is_site k.monitor.site ≡ true) (keys_of_either observation_numbers (map observation_key before.observations) (map observation_key now.observations))
  observation-keys =
      either-every (λ (k : ObsKey). is_site k.monitor.site ≡ true) observation_numbers (map observation_key before.observations) (map observation_key now.observations)
      (every-map IsSpelled (λ (k : ObsKey). is_site k.monitor.site ≡ true) observation_key (λ o h. h.site) before.observations was.observations)
      (every-map IsSpelled (λ (k : ObsKey). is_site k.monitor.site ≡ true) observation_key (λ o h. h.site) now.observations is.observations)

  records-spelled : Every IsSpelledChange (record_changes before now)
  records-spelled =
      filter-every IsSpelledChange (λ k. record_change k (record_at before k) (record_at now k)) (keys_of_either key_numbers (map key_of before.records) (map key_of now.records))
      (every-to (λ k. is_key k ≡ true) (λ k. IfOne IsSpelledChange (record_change k (record_at before k) (record_at now k)))
      (λ k h. record-spelled k (record_at before k) (record_at now k) h (found-every (λ r. is_record r ≡ true) record_rank (key_numbers k) now.records is.records)) _ record-keys)

  observations-spelled : Every IsSpelledChange (observation_changes before now)
  observations-spelled =
      filter-every IsSpelledChange (λ k. observation_change k (observation_at before k) (observation_at now k)) (keys_of_either observation_numbers (map observation_key before.observations) (map observation_key now.observations))
      (every-to (λ (k : ObsKey). is_site k.monitor.site ≡ true) (λ k. IfOne IsSpelledChange (observation_change k (observation_at before k) (observation_at now k)))
      (λ k h. observation-spelled k (observation_at before k) (observation_at now k) h
      (entry-content k (row_at observation_rank (observation_numbers k) now.observations) (found-key observation_rank (observation_numbers k) now.observations)
      (found-every IsSpelled observation_rank (observation_numbers k) now.observations is.observations))) _ observation-keys)

load-spelled : (zero : Bool) (kept : StoredLoad) → Every IsSpelledChange (cond zero [] (PutLoad kept ∷ []))
unfolding IsSpelledChange
load-spelled true kept = tt
load-spelled false kept = (tt, tt)

module _ (office : Office) (valid : IsOffice office) (number : ℕ) (digest body : List ℕ) where
  abbrev now : Office
  now = after_all office (body_lines body)

  was : AllSpelled office
  was = valid-spelled office valid

  pub batch-spelled : Every IsSpelledChange (batch office number digest body)
  batch-spelled =
      let is = spelled-after_all (body_lines body) office was in
      every-append IsSpelledChange (record_changes office now ++ observation_changes office now) (load_change (stored office number digest body))
      (every-append IsSpelledChange (record_changes office now) (observation_changes office now) (records-spelled office now was is) (observations-spelled office now was is))
      (load-spelled (number == 0) (stored office number digest body))

  pub batch-written : with_row_changes (rows_of office) (row_batch office number digest body) ≡ rows_of (load office number digest body)
  unfolding row_batch
  batch-written = changes-written (batch office number digest body) office was batch-spelled ∙ ap rows_of (batch-done office number digest body valid.keys_rise)
