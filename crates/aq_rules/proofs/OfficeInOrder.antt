-- The rows of a valid office are in the order of their keys.
use Rattle.std.proofs.Common.{◌≡◌, true, ◌&&◌, List, [], ◌∷◌, ◌++◌, ℕ, map, refl, ◌∙◌}
use Rattle.std.proofs.lemmas.Bool.{and_from, and_parts}
use Rattle.aq_rules.specs.Office.Office.{Office, StoredLoad, IsOffice, comes_before, key_of, record_rank, observation_rank, load_rank, is_record, rises, rises_from}
use Rattle.aq_rules.specs.Kept.Rows.{Row, rows_of}
use Rattle.aq_rules.specs.Kept.RowChanges.{row_key, key_before, keys_rise, keys_rise_from}
use Rattle.aq_rules.proofs.Elements.{Every, every-append}
use Rattle.aq_rules.proofs.OfficeBack.{IsSpelled, R, O, L}
use Rattle.aq_rules.proofs.SpelledOffice.{valid-spelled}
use Rattle.aq_rules.proofs.RowOrder.{office-agree, obs-agree, load-agree}
use Rattle.aq_rules.proofs.RowBatch.{record-key, each}

-- ---- one table

module _ {X : Type 0} (write : X → Row) (rank : X → List ℕ) (P : X → Type 0)
    (agree : (x y : X) → P x → P y → key_before (row_key (write x)) (row_key (write y)) ≡ comes_before (rank x) (rank y)) where
  table-from : (first : X) (xs : List X) → P first → Every P xs → keys_rise_from (row_key (write first)) (map row_key (map write xs)) ≡ rises_from rank first xs
  table-from first [] p every = refl
  table-from first (x ∷ xs) p every = λ i. agree first x p every.0 i && table-from x xs every.0 every.1 i

  table-rises : (xs : List X) → Every P xs → keys_rise (map row_key (map write xs)) ≡ rises rank xs
  table-rises [] every = refl
  table-rises (x ∷ xs) every = table-from x xs every.0 every.1

-- ---- one table after the other

Before : List Row → Row → Type 0
Before later row = Every (λ other. key_before (row_key row) (row_key other) ≡ true) later

append-from : (first : Row) (xs ys : List Row) → keys_rise_from (row_key first) (map row_key xs) ≡ true → keys_rise (map row_key ys) ≡ true → Before ys first → Every (Before ys) xs
    → keys_rise_from (row_key first) (map row_key (xs ++ ys)) ≡ true
unfolding Before
append-from first [] [] p q before all = refl
append-from first [] (y ∷ ys) p q before all = and_from (key_before (row_key first) (row_key y)) _ before.0 q
append-from first (x ∷ xs) ys p q before all =
    let parts = and_parts (key_before (row_key first) (row_key x)) (keys_rise_from (row_key x) (map row_key xs)) p in
    and_from (key_before (row_key first) (row_key x)) _ parts.0 (append-from x xs ys parts.1 q all.0 all.1)

append-rises : (xs ys : List Row) → keys_rise (map row_key xs) ≡ true → keys_rise (map row_key ys) ≡ true → Every (Before ys) xs → keys_rise (map row_key (xs ++ ys)) ≡ true
append-rises [] ys p q all = q
append-rises (x ∷ xs) ys p q all = append-from x xs ys p q all.0 all.1

tables-apart : {X Y : Type 0} (write : X → Row) (later : Y → Row) → ((x : X) (y : Y) → key_before (row_key (write x)) (row_key (later y)) ≡ true) → (xs : List X) (ys : List Y)
    → Every (Before (map later ys)) (map write xs)
unfolding Before
tables-apart write later apart xs ys = each (Before (map later ys)) write (λ x. each (λ other. key_before (row_key (write x)) (row_key other) ≡ true) later (apart x) ys) xs

every-load : (loads : List StoredLoad) → Every (λ l. l ≡ l) loads
every-load [] = tt
every-load (l ∷ loads) = (refl, every-load loads)

pub office-in_order : (office : Office) → IsOffice office → keys_rise (map row_key (rows_of office)) ≡ true
unfolding rows_of
office-in_order office valid =
    let spelled = valid-spelled office valid in
    let A = map R office.records in
    let B = map L office.loads in
    let C = map O office.observations in
    let records = table-rises R record_rank (λ r. is_record r ≡ true) (λ r s p q. (office-agree (key_of r) (key_of s) (record-key r p) (record-key s q)).before) office.records spelled.records ∙ valid.keys_rise.records in
    let observations = table-rises O observation_rank IsSpelled (λ o p h k. (obs-agree o.0 p.0 h.site k.site).before) office.observations spelled.observations ∙ valid.keys_rise.observations in
    let loads = table-rises L load_rank (λ l. l ≡ l) (λ l m p q. (load-agree l.number m.number).before) office.loads (every-load office.loads) ∙ valid.keys_rise.loads in
    append-rises (A ++ B) C
    (append-rises A B records loads (tables-apart R L (λ r l. refl) office.records office.loads)) observations
    (every-append (Before C) A B (tables-apart R O (λ r o. refl) office.records office.observations) (tables-apart L O (λ l o. refl) office.loads office.observations))
