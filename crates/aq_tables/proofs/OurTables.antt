-- Each of the tables in a sound database whose rowids are distinct.
use Rattle.std.proofs.Common.{◌≡◌, ◌&&◌, ℕ, ℤ, Bool, List, [], ◌∷◌, true, false, refl, sym, ap, ap₂, subst₂, ◌∙◌}
use Rattle.std.specs.Ordering.{is_eq, int_cmp}
use Rattle.sqlite.specs.declared.types.Value.TheVariants.{Null, Int}
use Rattle.sqlite.specs.Order.{Row}
use Rattle.sqlite.specs.Ops.{binary}
use Rattle.sqlite.specs.Tree.{rowid}
use Rattle.sqlite.specs.Effect.{Database, IsDatabase}
use Rattle.sqlite_value.specs.Order.{value_cmp, column, bytes}
use Rattle.sqlite_trees.specs.View.{is_int}
use Rattle.sqlite_value.specs.Keys.{plain, first_key}
use Rattle.sqlite_value.proofs.OrderLemmas.{value_cmp-Int, value_cmp-Text}
use Rattle.sqlite_schema.specs.Rules.{agree}
use Rattle.sqlite_rules.specs.Edit.{id_in}
use Rattle.aq_rules.specs.Kept.Rows.{OfficeRow}
use Rattle.aq_rules.specs.Kept.RowChanges.{OfficeRowKey, LoadRowKey, row_key, is_same_row_key}
use Rattle.aq_tables.specs.declared.missing.Missing.{Missing}
use Rattle.aq_tables.specs.All.{HasOurs}
use Rattle.aq_tables.specs.Forms.{records_form, observations_form, loads_form, second_form, third_form}
use Rattle.aq_tables.specs.Made.{AreAllApart, AreMissing, AreThere, HasForm, IsMissing, IsThere}
use Rattle.aq_tables.specs.Rowids.{AreApart}
use Rattle.aq_tables.specs.Standing.{Ours, Stands, HasTable, HaveOtherRowids, HaveOtherKeys}
use Rattle.aq_tables.specs.Told.{records, observations, loads, second, third, record_stored}
use Rattle.aq_tables.proofs.Numbers.{key_in, same_numbers}
use Rattle.aq_tables.proofs.Cells.{two_kept, four_kept, same-texts}
use Rattle.aq_tables.proofs.Storing.{int_cell, optional_cell, text_cell, blob_cell, int_is, IsKnown, keyed, keyed_by_rowid, has_table}

-- ---- records

record_agrees : (i j : ℤ) (a b : OfficeRow) → agree plain (1 ∷ 2 ∷ []) (record_stored i a) (1 ∷ 2 ∷ []) (record_stored j b) ≡ is_same_row_key (OfficeRowKey a.kind a.key) (OfficeRowKey b.kind b.key)
unfolding binary first_key
record_agrees i j a b =
    two_kept (is_eq (value_cmp (Int a.kind) (Int b.kind))) _
    ∙ ap₂ ◌&&◌ (ap is_eq (value_cmp-Int a.kind b.kind)) (ap is_eq (value_cmp-Text a.key b.key) ∙ same-texts a.key b.key)

abbrev said_record : Row → OfficeRow
said_record r = record { kind = id_in (column r 1); key = bytes (column r 2); line = bytes (column r 3) }

has_records : (db : Database) → IsDatabase db → HasForm db.schema records_form → AreApart records_form db → HasOurs records db
has_records db sound h apart = record {
  at = h.at;
  tree = h.tree;
  has = has_table records db sound h.at h.tree h.stands apart (int_cell, (text_cell, (text_cell, tt))) (refl, refl) (λ _ _. refl) (λ r. refl)
      (keyed records db sound h.at h.tree h.stands apart (1 ∷ 2 ∷ []) refl refl
      (λ a b p q. subst₂ (λ x y. agree plain (1 ∷ 2 ∷ []) x (1 ∷ 2 ∷ []) y ≡ is_same_row_key (row_key (records.says x)) (row_key (records.says y))) (sym p) (sym q)
      (record_agrees (id_in (rowid a)) (id_in (rowid b)) (said_record a) (said_record b))));
}

-- ---- the two tables of observations

abbrev places : List ℕ
places = 1 ∷ 2 ∷ 3 ∷ 4 ∷ []

-- only the four places are looked at
four_agree : (site pollutant poc hour site' pollutant' poc' hour' : ℤ)
    → agree plain places (Null ∷ Int site ∷ Int pollutant ∷ Int poc ∷ Int hour ∷ []) places (Null ∷ Int site' ∷ Int pollutant' ∷ Int poc' ∷ Int hour' ∷ [])
    ≡ (is_eq (int_cmp site site') && (is_eq (int_cmp pollutant pollutant') && (is_eq (int_cmp poc poc') && (is_eq (int_cmp hour hour') && true))))
unfolding binary first_key
four_agree site pollutant poc hour site' pollutant' poc' hour' =
    four_kept (is_eq (value_cmp (Int site) (Int site'))) (is_eq (value_cmp (Int pollutant) (Int pollutant'))) (is_eq (value_cmp (Int poc) (Int poc'))) (is_eq (value_cmp (Int hour) (Int hour')))
    ∙ (λ i. is_eq (value_cmp-Int site site' i) && (is_eq (value_cmp-Int pollutant pollutant' i) && (is_eq (value_cmp-Int poc poc' i) && (is_eq (value_cmp-Int hour hour' i) && true))))

has_observations : (db : Database) → IsDatabase db → HasForm db.schema observations_form → AreApart observations_form db → HasOurs observations db
has_observations db sound h apart = record {
  at = h.at;
  tree = h.tree;
  has = has_table observations db sound h.at h.tree h.stands apart (int_cell, (int_cell, (int_cell, (int_cell, (optional_cell, (text_cell, (text_cell, tt))))))) (refl, refl) (λ _ _. refl) (λ r. refl)
      (keyed observations db sound h.at h.tree h.stands apart places refl refl
      (λ a b p q. subst₂ (λ x y. agree plain places x places y ≡ is_same_row_key (row_key (observations.says x)) (row_key (observations.says y))) (sym p) (sym q)
      (four_agree (id_in (column a 1)) (id_in (column a 2)) (id_in (column a 3)) (id_in (column a 4)) (id_in (column b 1)) (id_in (column b 2)) (id_in (column b 3)) (id_in (column b 4)))));
}

pub second_stands : (db : Database) → IsDatabase db → AreApart second_form db → (at tree : ℕ) → Stands db.schema second_form at tree → HasTable second db at tree
second_stands db sound apart at tree stands =
    has_table second db sound at tree stands apart (int_cell, (int_cell, (int_cell, (int_cell, (optional_cell, (optional_cell, (text_cell, (text_cell, tt)))))))) (refl, refl) (λ _ _. refl) (λ r. refl)
    (keyed second db sound at tree stands apart places refl refl
    (λ a b p q. subst₂ (λ x y. agree plain places x places y ≡ is_same_row_key (row_key (second.says x)) (row_key (second.says y))) (sym p) (sym q)
    (four_agree (id_in (column a 1)) (id_in (column a 2)) (id_in (column a 3)) (id_in (column a 4)) (id_in (column b 1)) (id_in (column b 2)) (id_in (column b 3)) (id_in (column b 4)))))

has_second : (db : Database) → IsDatabase db → HasForm db.schema second_form → AreApart second_form db → HasOurs second db
has_second db sound h apart = record { at = h.at; tree = h.tree; has = second_stands db sound apart h.at h.tree h.stands }

-- ---- loads

other_numbers : (m n : ℤ) → is_eq (value_cmp (Int m) (Int n)) ≡ false → is_same_row_key (LoadRowKey m) (LoadRowKey n) ≡ false
other_numbers m n h = ap (λ b. b && true) (sym (ap is_eq (value_cmp-Int m n)) ∙ h)

other_loads : (a b : Row) → IsKnown loads a → IsKnown loads b → HaveOtherRowids a b → HaveOtherKeys (loads.says a) (loads.says b)
other_loads a b p q ids =
    other_numbers (id_in (rowid a)) (id_in (rowid b)) (sym (ap₂ (λ x y. is_eq (value_cmp x y)) (int_is (rowid a) p.int) (int_is (rowid b) q.int)) ∙ ids)

has_loads : (db : Database) → IsDatabase db → HasForm db.schema loads_form → AreApart loads_form db → HasOurs loads db
has_loads db sound h apart = record {
  at = h.at;
  tree = h.tree;
  has = has_table loads db sound h.at h.tree h.stands apart (optional_cell, (blob_cell, (int_cell, (int_cell, (text_cell, (text_cell, tt)))))) (refl, refl) (λ _ _. refl) (λ r. refl)
      (keyed_by_rowid loads db sound h.at h.tree h.stands apart other_loads);
}

-- ---- observations3

-- two numbers that differ are of two keys
other_observations : (m n : ℤ) → is_eq (value_cmp (Int m) (Int n)) ≡ false → is_same_row_key (key_in m) (key_in n) ≡ false
other_observations m n h = sym (same_numbers m n) ∙ ap is_eq (sym (value_cmp-Int m n)) ∙ h

pub other_thirds : (a b : Row) → is_int (rowid a) ≡ true → is_int (rowid b) ≡ true → HaveOtherRowids a b → HaveOtherKeys (third.says a) (third.says b)
other_thirds a b p q ids =
    other_observations (id_in (rowid a)) (id_in (rowid b)) (sym (ap₂ (λ x y. is_eq (value_cmp x y)) (int_is (rowid a) p) (int_is (rowid b) q)) ∙ ids)

has_third : (db : Database) → IsDatabase db → HasForm db.schema third_form → AreApart third_form db → HasOurs third db
has_third db sound h apart = record {
  at = h.at;
  tree = h.tree;
  has = has_table third db sound h.at h.tree h.stands apart (optional_cell, (optional_cell, (optional_cell, (text_cell, (text_cell, tt))))) (refl, refl) (λ id fits. fits) (λ r. refl)
      (keyed_by_rowid third db sound h.at h.tree h.stands apart (λ a b p q. other_thirds a b p.int q.int));
}

-- ---- all of them

there : (ours : Ours) (missing : Bool) (db : Database) → (HasForm db.schema ours.form → HasOurs ours db) → IsMissing missing db.schema ours.form → IsThere missing ours db
there ours true db has h = h
there ours false db has h = has h.formed

pub are_there : (missing : Missing) (db : Database) → IsDatabase db → AreMissing missing db.schema → AreAllApart db → AreThere missing db
are_there missing db sound are apart = record {
  of_records = there records missing.records db (λ h. has_records db sound h apart.of_records) are.of_records;
  of_observations = there observations missing.observations db (λ h. has_observations db sound h apart.of_observations) are.of_observations;
  of_loads = there loads missing.loads db (λ h. has_loads db sound h apart.of_loads) are.of_loads;
  of_second = there second missing.second db (λ h. has_second db sound h apart.of_second) are.of_second;
  of_third = there third missing.third db (λ h. has_third db sound h apart.of_third) are.of_third;
}
