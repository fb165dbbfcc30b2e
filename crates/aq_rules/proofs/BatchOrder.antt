-- The changes of a load stand in the order of a batch, none at one key.
use Rattle.std.proofs.Common.{append-nil, ◌≡◌, ℕ, ◌<◌, ◌≤◌, Bool, true, false, cond, ◌&&◌, ◌||◌, List, [], ◌∷◌, ◌++◌, map, refl, ◌∙◌, arith, ap, sym}
use Rattle.std.specs.Prelude.{Option, Some, None, All, filter_map, nat_lt, ◌==◌}
use Rattle.std.specs.List.{cons_option}
use Rattle.std.proofs.lemmas.List.{map-append}
use Rattle.std.proofs.lemmas.Bool.Decides.{nat_tests}
use Rattle.std.proofs.lemmas.Bool.{and_from, and_parts}
use Rattle.aq_base.specs.declared.observation.ObsKey.{ObsKey}
use Rattle.aq_base.specs.declared.observation.Observation.{Observation}
use Rattle.aq_base.specs.declared.office.OfficeRecord.{OfficeRecord}
use Rattle.aq_base.specs.declared.office.OfficeKey.{OfficeKey}
use Rattle.aq_rules.specs.Lines.Lines.{body_lines}
use Rattle.aq_rules.specs.Office.Office.{Office, StoredLoad, IsOffice, comes_before, key_of, key_numbers, observation_numbers, observation_key, record_rank, observation_rank, rises, rises_from, record_at, observation_at}
use Rattle.aq_rules.specs.Office.Load.{OfficeChange, PutRecord, DropRecord, PutObservation, DropObservation, PutLoad, is_same_record, is_same_content, record_change, observation_change, record_changes, observation_changes, keys_of_either, load_change, batch, stored, after_all}
use Rattle.aq_rules.specs.Kept.Rows.{OfLoadRow, load_row}
use Rattle.aq_rules.specs.Kept.RowChanges.{PutRow, batch_before, batch_rises, batch_rises_from, changed_key, row_change, row_batch}
use Rattle.aq_rules.proofs.Elements.{Every, every-All, every-append}
use Rattle.aq_rules.specs.Office.RowOrder.{before-trans}
use Rattle.aq_rules.proofs.RowOrder.{office-agree, obs-agree, lift-before}
use Rattle.aq_rules.proofs.BatchDone.{HasKey, found-key}
use Rattle.aq_rules.proofs.Changes.{either-rises, keys-rise}
use Rattle.aq_rules.proofs.RowBatch.{IfOne, IsSpelledChange, record-key, batch-spelled}

-- the place of a change's table in a batch, and its key as numbers
abbrev table : OfficeChange → ℕ
table (PutRecord r) = 0
table (DropRecord key) = 0
table (PutObservation key content) = 3
table (DropObservation key) = 3
table (PutLoad kept) = 4

abbrev numbers : OfficeChange → List ℕ
numbers (PutRecord r) = record_rank r
numbers (DropRecord key) = key_numbers key
numbers (PutObservation key content) = observation_numbers key
numbers (DropObservation key) = observation_numbers key
numbers (PutLoad kept) = kept.number ∷ []

abbrev rank : OfficeChange → List ℕ
rank change = table change ∷ numbers change

same-table : (t : ℕ) (xs ys : List ℕ) → comes_before xs ys ≡ true → comes_before (t ∷ xs) (t ∷ ys) ≡ true
same-table t xs ys h = tested (comes_before xs ys) h
  where
    tested : (b : Bool) → b ≡ true → (nat_lt t t || ((t == t) && b)) ≡ true
    tested b h = rw h (grind (arith, nat_tests))

earlier-table : (t u : ℕ) (xs ys : List ℕ) → t < u → comes_before (t ∷ xs) (u ∷ ys) ≡ true
earlier-table t u xs ys h = tested (comes_before xs ys)
  where
    tested : (b : Bool) → (nat_lt t u || ((t == u) && b)) ≡ true
    tested b = grind (arith, nat_tests)

-- ---- changes at rising keys

-- what a key gives is of one table and at the key
record At (t : ℕ) (key : List ℕ) (change : OfficeChange) : Type 0 where
  in_table : table change ≡ t
  at_key : numbers change ≡ key

module _ {K : Type 0} (krank : K → List ℕ) (t : ℕ) (change : K → Option OfficeChange) (at : (k : K) → IfOne (At t (krank k)) (change k)) where
  From : List ℕ → List K → Type 0
  From key [] = Unit {0}
  From key (k ∷ keys) = (comes_before key (krank k) ≡ true) × (rises_from krank k keys ≡ true)

  behind : (k : K) (keys : List K) → rises_from krank k keys ≡ true → From (krank k) keys
  unfolding From
  behind k [] rising = tt
  behind k (next ∷ keys) rising = and_parts (comes_before (krank k) (krank next)) (rises_from krank next keys) rising

  skipped : (key : List ℕ) (k : K) (keys : List K) → From key (k ∷ keys) → From key keys
  unfolding From
  skipped key k [] from = tt
  skipped key k (next ∷ keys) from =
      let parts = and_parts (comes_before (krank k) (krank next)) (rises_from krank next keys) from.1 in
      (before-trans key (krank k) (krank next) from.0 parts.0, parts.1)

  changes-from : (first : OfficeChange) (key : List ℕ) → At t key first → (keys : List K) → From key keys → rises_from rank first (filter_map change keys) ≡ true
  unfolding From IfOne
  changes-from first key here [] from = refl
  changes-from first key here (k ∷ keys) from =
      by_option (change k) (at k) (changes-from first key here keys (skipped key k keys from)) (λ c there. changes-from c (krank k) there keys (behind k keys from.1))
    where
      by_option : (c : Option OfficeChange) → IfOne (At t (krank k)) c → rises_from rank first (filter_map change keys) ≡ true
          → ((c : OfficeChange) → At t (krank k) c → rises_from rank c (filter_map change keys) ≡ true) → rises_from rank first (cons_option c (filter_map change keys)) ≡ true
      by_option None none skip next = skip
      by_option (Some c) there skip next =
          let before : comes_before (rank first) (rank c) ≡ true =
          (λ i. comes_before (here.in_table i ∷ here.at_key i) (there.in_table i ∷ there.at_key i)) ∙ same-table t key (krank k) from.0
          in
          and_from _ _ before (next c there)

  changes-rise : (keys : List K) → rises krank keys ≡ true → rises rank (filter_map change keys) ≡ true
  unfolding IfOne
  changes-rise [] rising = refl
  changes-rise (k ∷ keys) rising = by_option (change k) (at k) (changes-rise keys (rest k keys rising)) (λ c there. changes-from c (krank k) there keys (behind k keys rising))
    where
      rest : (k : K) (keys : List K) → rises_from krank k keys ≡ true → rises krank keys ≡ true
      rest k [] rising = refl
      rest k (next ∷ keys) rising = (and_parts (comes_before (krank k) (krank next)) (rises_from krank next keys) rising).1

      by_option : (c : Option OfficeChange) → IfOne (At t (krank k)) c → rises rank (filter_map change keys) ≡ true
          → ((c : OfficeChange) → At t (krank k) c → rises_from rank c (filter_map change keys) ≡ true) → rises rank (cons_option c (filter_map change keys)) ≡ true
      by_option None none skip next = skip
      by_option (Some c) there skip next = next c there

  all-in_table : (keys : List K) → Every (λ c. table c ≡ t) (filter_map change keys)
  unfolding IfOne
  all-in_table [] = tt
  all-in_table (k ∷ keys) = by_option (change k) (at k) (all-in_table keys)
    where
      by_option : (c : Option OfficeChange) → IfOne (At t (krank k)) c → Every (λ c. table c ≡ t) (filter_map change keys) → Every (λ c. table c ≡ t) (cons_option c (filter_map change keys))
      by_option None none rest = rest
      by_option (Some c) there rest = (there.in_table, rest)

-- ---- one table after the other

BeforeAll : List OfficeChange → OfficeChange → Type 0
BeforeAll later c = Every (λ d. comes_before (rank c) (rank d) ≡ true) later

from-append : (first : OfficeChange) (xs ys : List OfficeChange) → rises_from rank first xs ≡ true → rises rank ys ≡ true → BeforeAll ys first → Every (BeforeAll ys) xs → rises_from rank first (xs ++ ys) ≡ true
unfolding BeforeAll
from-append first [] [] from rising here all = refl
from-append first [] (y ∷ ys) from rising here all = and_from _ _ here.0 rising
from-append first (x ∷ xs) ys from rising here all =
    let parts = and_parts (comes_before (rank first) (rank x)) (rises_from rank x xs) from in
    and_from _ _ parts.0 (from-append x xs ys parts.1 rising all.0 all.1)

rises-append : (xs ys : List OfficeChange) → rises rank xs ≡ true → rises rank ys ≡ true → Every (BeforeAll ys) xs → rises rank (xs ++ ys) ≡ true
rises-append [] ys from rising all = rising
rises-append (x ∷ xs) ys from rising all = from-append x xs ys from rising all.0 all.1

before-all : (t u : ℕ) → t < u → (c : OfficeChange) → table c ≡ t → (later : List OfficeChange) → Every (λ d. table d ≡ u) later → BeforeAll later c
unfolding BeforeAll
before-all t u low c is [] every = tt
before-all t u low c is (d ∷ later) every =
    ((λ i. comes_before (is i ∷ numbers c) (every.0 i ∷ numbers d)) ∙ earlier-table t u (numbers c) (numbers d) low, before-all t u low c is later every.1)

all-before : (t u : ℕ) → t < u → (xs later : List OfficeChange) → Every (λ c. table c ≡ t) xs → Every (λ d. table d ≡ u) later → Every (BeforeAll later) xs
all-before t u low [] later every laters = tt
all-before t u low (x ∷ xs) later every laters = (before-all t u low x every.0 later laters, all-before t u low xs later every.1 laters)

-- ---- what each key gives

record-at : (key : OfficeKey) (old new : Option OfficeRecord) → HasKey record_rank (key_numbers key) new → IfOne (At 0 (key_numbers key)) (record_change key old new)
unfolding IfOne HasKey
record-at key None None has = tt
record-at key None (Some new) has = record { in_table = refl; at_key = has }
record-at key (Some old) None has = record { in_table = refl; at_key = refl }
record-at key (Some old) (Some new) has = by_test (is_same_record old new)
  where
    by_test : (b : Bool) → IfOne (At 0 (key_numbers key)) (cond b None (Some (PutRecord new)))
    by_test true = tt
    by_test false = record { in_table = refl; at_key = has }

observation-at : (key : ObsKey) (old new : Option Observation) → IfOne (At 3 (observation_numbers key)) (observation_change key old new)
unfolding IfOne
observation-at key None None = tt
observation-at key None (Some new) = record { in_table = refl; at_key = refl }
observation-at key (Some old) None = record { in_table = refl; at_key = refl }
observation-at key (Some old) (Some new) = by_test (is_same_content old new)
  where
    by_test : (b : Bool) → IfOne (At 3 (observation_numbers key)) (cond b None (Some (PutObservation key new)))
    by_test true = tt
    by_test false = record { in_table = refl; at_key = refl }

load-rises : (zero : Bool) (kept : StoredLoad) → rises rank (cond zero [] (PutLoad kept ∷ [])) ≡ true
load-rises true kept = refl
load-rises false kept = refl

load-in_table : (zero : Bool) (kept : StoredLoad) → Every (λ c. table c ≡ 4) (cond zero [] (PutLoad kept ∷ []))
load-in_table true kept = tt
load-in_table false kept = (refl, tt)

-- ---- rows

rows-agree : (c d : OfficeChange) → IsSpelledChange c → IsSpelledChange d → batch_before (changed_key (row_change c)) (changed_key (row_change d)) ≡ comes_before (rank c) (rank d)
unfolding IsSpelledChange
rows-agree (PutRecord r) (PutRecord s) p q = (office-agree (key_of r) (key_of s) (record-key r p) (record-key s q)).before
rows-agree (PutRecord r) (DropRecord l) p q = (office-agree (key_of r) l (record-key r p) q).before
rows-agree (DropRecord k) (PutRecord s) p q = (office-agree k (key_of s) p (record-key s q)).before
rows-agree (DropRecord k) (DropRecord l) p q = (office-agree k l p q).before
rows-agree (PutObservation k content) (PutObservation l other) p q = (obs-agree k l p.site q.site).before
rows-agree (PutObservation k content) (DropObservation l) p q = (obs-agree k l p.site q).before
rows-agree (DropObservation k) (PutObservation l other) p q = (obs-agree k l p q.site).before
rows-agree (DropObservation k) (DropObservation l) p q = (obs-agree k l p q).before
rows-agree (PutLoad kept) (PutLoad other) p q = lift-before (4 ∷ kept.number ∷ []) (4 ∷ other.number ∷ [])
rows-agree c d p q = refl

rows-from : (first : OfficeChange) (changes : List OfficeChange) → IsSpelledChange first → Every IsSpelledChange changes
    → batch_rises_from (changed_key (row_change first)) (map changed_key (map row_change changes)) ≡ rises_from rank first changes
rows-from first [] is every = refl
rows-from first (c ∷ changes) is every = λ i. rows-agree first c is every.0 i && rows-from c changes every.0 every.1 i

rows-rise : (changes : List OfficeChange) → Every IsSpelledChange changes → batch_rises (map changed_key (map row_change changes)) ≡ rises rank changes
rows-rise [] every = refl
rows-rise (c ∷ changes) every = rows-from c changes every.0 every.1

module _ (before now : Office) where
  abbrev office_keys : List OfficeKey
  office_keys = keys_of_either key_numbers (map key_of before.records) (map key_of now.records)

  abbrev places : List ObsKey
  places = keys_of_either observation_numbers (map observation_key before.observations) (map observation_key now.observations)

  abbrev change_of_record : OfficeKey → Option OfficeChange
  change_of_record k = record_change k (record_at before k) (record_at now k)

  abbrev change_of_observation : ObsKey → Option OfficeChange
  change_of_observation k = observation_change k (observation_at before k) (observation_at now k)

  record-ats : (k : OfficeKey) → IfOne (At 0 (key_numbers k)) (change_of_record k)
  record-ats k = record-at k (record_at before k) (record_at now k) (found-key record_rank (key_numbers k) now.records)

  observation-ats : (k : ObsKey) → IfOne (At 3 (observation_numbers k)) (change_of_observation k)
  observation-ats k = observation-at k (observation_at before k) (observation_at now k)

  record-tables : Every (λ c. table c ≡ 0) (record_changes before now)
  record-tables = all-in_table key_numbers 0 change_of_record record-ats office_keys

  observation-tables : Every (λ c. table c ≡ 3) (observation_changes before now)
  observation-tables = all-in_table observation_numbers 3 change_of_observation observation-ats places

  records-rise : rises record_rank before.records ≡ true → rises rank (record_changes before now) ≡ true
  records-rise rise =
      changes-rise key_numbers 0 change_of_record record-ats office_keys
      (either-rises key_numbers (map key_of before.records) (map key_of now.records) (keys-rise key_of key_numbers before.records rise))

  observations-rise : rises observation_rank before.observations ≡ true → rises rank (observation_changes before now) ≡ true
  observations-rise rise =
      changes-rise observation_numbers 3 change_of_observation observation-ats places
      (either-rises observation_numbers (map observation_key before.observations) (map observation_key now.observations) (keys-rise observation_key observation_numbers before.observations rise))

module _ (office : Office) (valid : IsOffice office) (number : ℕ) (digest body : List ℕ) where
  abbrev now : Office
  now = after_all office (body_lines body)

  batch-rises : rises rank (batch office number digest body) ≡ true
  batch-rises =
      let rs = record_changes office now in
      let os = observation_changes office now in
      let ls = load_change (stored office number digest body) in
      let load_tables = load-in_table (number == 0) (stored office number digest body) in
      rises-append (rs ++ os) ls
      (rises-append rs os (records-rise office now valid.keys_rise.records) (observations-rise office now valid.keys_rise.observations)
      (all-before 0 3 (omega arith) rs os (record-tables office now) (observation-tables office now)))
      (load-rises (number == 0) (stored office number digest body))
      (every-append (BeforeAll ls) rs os (all-before 0 4 (omega arith) rs ls (record-tables office now) load_tables) (all-before 3 4 (omega arith) os ls (observation-tables office now) load_tables))

  pub batch-in_order : batch_rises (map changed_key (row_batch office number digest body)) ≡ true
  unfolding row_batch
  batch-in_order = rows-rise (batch office number digest body) (batch-spelled office valid number digest body) ∙ batch-rises

-- ---- the load's own row

module _ (office : Office) (digest body : List ℕ) where
  abbrev changed : List OfficeChange
  changed = record_changes office (after_all office (body_lines body)) ++ observation_changes office (after_all office (body_lines body))

  pub load-last : (number : ℕ) → 1 ≤ number → batch office number digest body ≡ batch office 0 digest body ++ PutLoad (stored office number digest body) ∷ []
  load-last number h =
      let is : (number == 0) ≡ false = grind (arith, nat_tests) in
      ap (λ b. changed ++ cond b [] (PutLoad (stored office number digest body) ∷ [])) is
      ∙ ap (λ l. l ++ PutLoad (stored office number digest body) ∷ []) (sym (append-nil changed))

  -- the same of rows
  pub load_row-last : (number : ℕ) → 1 ≤ number → row_batch office number digest body ≡ row_batch office 0 digest body ++ PutRow (OfLoadRow (load_row (stored office number digest body))) ∷ []
  unfolding row_batch
  load_row-last number h =
      ap (map row_change) (load-last number h)
      ∙ map-append row_change (batch office 0 digest body) (PutLoad (stored office number digest body) ∷ [])

  abbrev IsNoLoad : OfficeChange → Type 0
  IsNoLoad change = (load : StoredLoad) → change ≡ PutLoad load → ⊥

  no-load : (t : ℕ) → (t ≡ 4 → ⊥) → (changes : List OfficeChange) → Every (λ c. table c ≡ t) changes → Every IsNoLoad changes
  no-load t other [] every = tt
  no-load t other (c ∷ changes) every = ((λ load is. other (sym every.0 ∙ ap table is)), no-load t other changes every.1)

  pub load-none : All IsNoLoad (batch office 0 digest body)
  load-none =
      let later = after_all office (body_lines body) in
      every-All IsNoLoad (batch office 0 digest body)
      (every-append IsNoLoad changed []
      (every-append IsNoLoad (record_changes office later) (observation_changes office later)
      (no-load 0 (λ e. omega (arith, e)) (record_changes office later) (record-tables office later))
      (no-load 3 (λ e. omega (arith, e)) (observation_changes office later) (observation-tables office later)))
      tt)
