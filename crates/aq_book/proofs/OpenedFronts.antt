-- A front of rows that can be opened can be opened. So the first row that cannot be is the one at which a front can be opened and the next front cannot.
use Rattle.std.proofs.Common.{◌≡◌, ◌≤◌, Bool, true, false, not, ◌&&◌, cond, List, [], ◌∷◌, ◌++◌, length, map, refl, sym, ap, subst, ◌∙◌, arith, append_assoc, append-nil, length-append, inl, inr}
use Rattle.std.specs.Prelude.{Option, Some, None, filter, filter_map, nat_le}
use Rattle.std.specs.List.{list_all, list_any}
use Rattle.std.proofs.lemmas.Bool.{true≢false, false≢true, and_from, and_parts, cases_Bool, le-leb, leb-true, not-true, not_from_false, or_cases, or_left, or_parts, or_right}
use Rattle.std.proofs.lemmas.List.{map-append}
use Rattle.std.proofs.lemmas.List.Elements.{filter-append, filter_map-append}
use Rattle.std.proofs.lemmas.List.Folds.{list_all-append, list_any-append}
use Rattle.aq_rules.specs.Office.Office.{Office, StoredLoad, IsOffice, load_rank, rises, is_load}
use Rattle.aq_rules.specs.Kept.Rows.{Row, OfOfficeRow, OfObsRow, OfLoadRow, OfSecondRow, record_in_row, observation_in_row, load_in_row, says_something, office_in, table_of, tables_follow, is_valid, are_office_rows, place_of, first_bad, damage}
use Rattle.aq_rules.specs.Kept.Migration.{is_first, is_second, migrated, migrated_row, are_version_1, can_be_opened, opening_damage}
use Rattle.aq_rules.proofs.Elements.{all-append}
use Rattle.aq_rules.proofs.Fronts.{rises-front}
use Rattle.aq_rules.proofs.Rewritten.{no-damage}
use Rattle.aq_rules.proofs.ValidOffice.{valid-is_office, office-is_valid}

-- ---- the first bad row, by any test on rows

module _ (pass : List Row → Bool) where
  -- if none is bad, each front passes
  front-passes : (start xs ys : List Row) → pass start ≡ true → first_bad pass start (xs ++ ys) ≡ None → pass (start ++ xs) ≡ true
  front-passes start [] ys good none = ap pass (append-nil start) ∙ good
  front-passes start (x ∷ xs) ys good none = by_test (pass (start ++ x ∷ [])) refl none (λ next rest. front-passes (start ++ x ∷ []) xs ys next rest)
    where
      by_test : (b : Bool) → pass (start ++ x ∷ []) ≡ b → cond b (first_bad pass (start ++ x ∷ []) (xs ++ ys)) (Some (place_of start x)) ≡ None
          → (pass (start ++ x ∷ []) ≡ true → first_bad pass (start ++ x ∷ []) (xs ++ ys) ≡ None → pass ((start ++ x ∷ []) ++ xs) ≡ true) → pass (start ++ x ∷ xs) ≡ true
      by_test true e rest next = ap pass (sym (append_assoc start (x ∷ []) xs)) ∙ next e rest
      by_test false e rest next = cc

  -- rows that pass are passed over, if each front of such rows passes
  module _ (fronts : (xs ys : List Row) → pass (xs ++ ys) ≡ true → pass xs ≡ true) where
    passed-over : (start xs rest : List Row) → pass (start ++ xs) ≡ true → first_bad pass start (xs ++ rest) ≡ first_bad pass (start ++ xs) rest
    passed-over start [] rest good = ap (λ (l : List Row). first_bad pass l rest) (sym (append-nil start))
    passed-over start (x ∷ xs) rest good =
        let more : (start ++ x ∷ []) ++ xs ≡ start ++ x ∷ xs = append_assoc start (x ∷ []) xs in
        let next : pass (start ++ x ∷ []) ≡ true = fronts (start ++ x ∷ []) xs (ap pass more ∙ good) in
        ap (λ b. cond b (first_bad pass (start ++ x ∷ []) (xs ++ rest)) (Some (place_of start x))) next
        ∙ passed-over (start ++ x ∷ []) xs rest (ap pass more ∙ good) ∙ ap (λ (l : List Row). first_bad pass l rest) more

    none-bad : (rows : List Row) → pass rows ≡ true → first_bad pass [] rows ≡ None
    none-bad rows good = ap (first_bad pass []) (sym (append-nil rows)) ∙ passed-over [] rows [] good

    bad-at : (before : List Row) (row : Row) (after : List Row) → pass before ≡ true → pass (before ++ row ∷ []) ≡ false → first_bad pass [] (before ++ row ∷ after) ≡ Some (place_of before row)
    bad-at before row after good bad =
        passed-over [] before (row ∷ after) good ∙ ap (λ b. cond b (first_bad pass (before ++ row ∷ []) after) (Some (place_of before row))) bad

-- ---- a front of an office's rows is an office's

no_rows : are_office_rows [] ≡ true
unfolding are_office_rows
no_rows = refl

office-front : (before after : List Row) → are_office_rows (before ++ after) ≡ true → are_office_rows before ≡ true
unfolding damage
office-front before after good = front-passes are_office_rows [] before after no_rows (no-damage (before ++ after) good)

-- ---- the tables of some of the rows

follow-rest : (row : Row) (rows : List Row) → tables_follow (row ∷ rows) ≡ true → tables_follow rows ≡ true
follow-rest row [] h = refl
follow-rest row (next ∷ rows) h = (and_parts (nat_le (table_of row) (table_of next)) (tables_follow (next ∷ rows)) h).1

follow-front : (xs ys : List Row) → tables_follow (xs ++ ys) ≡ true → tables_follow xs ≡ true
follow-front [] ys h = refl
follow-front (x ∷ []) ys h = refl
follow-front (x ∷ y ∷ xs) ys h =
    let parts = and_parts (nat_le (table_of x) (table_of y)) (tables_follow (y ∷ xs ++ ys)) h in
    and_from (nat_le (table_of x) (table_of y)) (tables_follow (y ∷ xs)) parts.0 (follow-front (y ∷ xs) ys parts.1)

follow-skip : (row next : Row) (rows : List Row) → tables_follow (row ∷ next ∷ rows) ≡ true → tables_follow (row ∷ rows) ≡ true
follow-skip row next [] h = refl
follow-skip row next (third ∷ rows) h =
    let one = and_parts (nat_le (table_of row) (table_of next)) (tables_follow (next ∷ third ∷ rows)) h in
    let two = and_parts (nat_le (table_of next) (table_of third)) (tables_follow (third ∷ rows)) one.1 in
    let low = leb-true (table_of row) (table_of next) one.0 in
    let high = leb-true (table_of next) (table_of third) two.0 in
    and_from (nat_le (table_of row) (table_of third)) (tables_follow (third ∷ rows)) (le-leb (table_of row) (table_of third) (omega (arith, low, high))) two.1

follow-after : (row : Row) (middle rows : List Row) → tables_follow (row ∷ middle ++ rows) ≡ true → tables_follow (row ∷ rows) ≡ true
follow-after row [] rows h = h
follow-after row (x ∷ middle) rows h = follow-after row middle rows (follow-skip row x (middle ++ rows) h)

follow-back : (middle rows : List Row) → tables_follow (middle ++ rows) ≡ true → tables_follow rows ≡ true
follow-back [] rows h = h
follow-back (x ∷ middle) rows h = follow-back middle rows (follow-rest x (middle ++ rows) h)

-- without some rows in their middle
follow-without : (before middle rows : List Row) → tables_follow (before ++ (middle ++ rows)) ≡ true → tables_follow (before ++ rows) ≡ true
follow-without [] middle rows h = follow-back middle rows h
follow-without (x ∷ []) middle rows h = follow-after x middle rows h
follow-without (x ∷ y ∷ before) middle rows h =
    let parts = and_parts (nat_le (table_of x) (table_of y)) (tables_follow (y ∷ before ++ (middle ++ rows))) h in
    and_from (nat_le (table_of x) (table_of y)) (tables_follow (y ∷ before ++ rows)) parts.0 (follow-without (y ∷ before) middle rows parts.1)

-- ---- an office without its last loads

all-parts : {X : Type 0} (p : X → Bool) (xs ys : List X) → list_all p (xs ++ ys) ≡ true → (list_all p xs ≡ true) × (list_all p ys ≡ true)
all-parts p xs ys h = and_parts (list_all p xs) (list_all p ys) (sym (list_all-append p xs ys) ∙ h)

-- an office's conditions on its loads speak of these alone
fewer-loads : (office : Office) (xs ys : List StoredLoad) → office.loads ≡ xs ++ ys → IsOffice office → IsOffice (record office { loads = xs })
fewer-loads office xs ys is valid =
    let few : length office.loads ≤ 100000 = valid.few_loads in
    record {
      keys_rise = record { records = valid.keys_rise.records; observations = valid.keys_rise.observations; loads = rises-front load_rank xs ys (ap (rises load_rank) (sym is) ∙ valid.keys_rise.loads) };
      records_fit = valid.records_fit;
      records_alone = valid.records_alone;
      few_sites = valid.few_sites;
      observations_fit = valid.observations_fit;
      few_observations = valid.few_observations;
      loads_fit = (all-parts is_load xs ys (ap (list_all is_load) (sym is) ∙ valid.loads_fit)).0;
      few_loads = omega (arith, few, ap length is, length-append xs ys);
    }

-- loads between records and observations: the records, these loads and those that stay, and the observations
module _ (before loads after : List Row)
    (no_record : filter_map record_in_row loads ≡ []) (no_observation : filter_map observation_in_row loads ≡ []) (no_load : filter_map load_in_row after ≡ []) where
  same-without : {X : Type 0} (says : Row → Option X) → filter_map says loads ≡ [] → filter_map says ((before ++ loads) ++ after) ≡ filter_map says (before ++ after)
  same-without says nothing =
      filter_map-append says (before ++ loads) after
      ∙ ap (λ l. l ++ filter_map says after) (filter_map-append says before loads ∙ ap (λ l. filter_map says before ++ l) nothing ∙ append-nil (filter_map says before))
      ∙ sym (filter_map-append says before after)

  all-loads : filter_map load_in_row ((before ++ loads) ++ after) ≡ filter_map load_in_row before ++ filter_map load_in_row loads
  all-loads =
      filter_map-append load_in_row (before ++ loads) after ∙ ap (λ l. filter_map load_in_row (before ++ loads) ++ l) no_load
      ∙ append-nil (filter_map load_in_row (before ++ loads)) ∙ filter_map-append load_in_row before loads

  fewer_loads : filter_map load_in_row before ≡ filter_map load_in_row (before ++ after)
  fewer_loads =
      sym (append-nil (filter_map load_in_row before)) ∙ ap (λ l. filter_map load_in_row before ++ l) (sym no_load) ∙ sym (filter_map-append load_in_row before after)

  valid-without : is_valid (office_in ((before ++ loads) ++ after)) ≡ true → is_valid (office_in (before ++ after)) ≡ true
  valid-without valid =
      let all = office_in ((before ++ loads) ++ after) in
      let fewer = fewer-loads all (filter_map load_in_row before) (filter_map load_in_row loads) all-loads (valid-is_office all valid) in
      let same : record all { loads = filter_map load_in_row before } ≡ office_in (before ++ after) =
      λ i. record { records = same-without record_in_row no_record i; observations = same-without observation_in_row no_observation i; loads = fewer_loads i }
      in
      office-is_valid (office_in (before ++ after)) (subst IsOffice same fewer)

  office-without : are_office_rows ((before ++ loads) ++ after) ≡ true → are_office_rows (before ++ after) ≡ true
  unfolding are_office_rows
  office-without good =
      let all = (before ++ loads) ++ after in
      let b = and_parts (list_all says_something all && tables_follow all) (is_valid (office_in all)) good in
      let a = and_parts (list_all says_something all) (tables_follow all) b.0 in
      let said = all-parts says_something (before ++ loads) after a.0 in
      let start = all-parts says_something before loads said.0 in
      and_from (list_all says_something (before ++ after) && tables_follow (before ++ after)) (is_valid (office_in (before ++ after)))
      (and_from (list_all says_something (before ++ after)) (tables_follow (before ++ after)) (all-append says_something before after start.0 said.1)
      (follow-without before loads after (ap tables_follow (sym (append_assoc before loads after)) ∙ a.1)))
      (valid-without b.1)

-- ---- a front of rows of version 1

-- the rows that stay in their table, and those that come to the other
abbrev kept : List Row → List Row
kept rows = filter (λ row. not (is_first row)) rows

abbrev moved : List Row → List Row
moved rows = map migrated_row (filter is_first rows)

migrated-parts : (before after : List Row) → migrated (before ++ after) ≡ ((kept before ++ kept after) ++ moved before) ++ moved after
unfolding migrated
migrated-parts before after =
    (λ i. filter-append (λ row. not (is_first row)) before after i ++ map migrated_row (filter-append is_first before after i))
    ∙ ap (λ (l : List Row). (kept before ++ kept after) ++ l) (map-append migrated_row (filter is_first before) (filter is_first after))
    ∙ sym (append_assoc (kept before ++ kept after) (moved before) (moved after))

all-kept : (rows : List Row) → list_any is_first rows ≡ false → kept rows ≡ rows
all-kept [] none = refl
all-kept (OfOfficeRow row ∷ rows) none = ap (λ (l : List Row). OfOfficeRow row ∷ l) (all-kept rows none)
all-kept (OfObsRow row ∷ rows) none = absurd (true≢false none)
all-kept (OfLoadRow row ∷ rows) none = ap (λ (l : List Row). OfLoadRow row ∷ l) (all-kept rows none)
all-kept (OfSecondRow row ∷ rows) none = ap (λ (l : List Row). OfSecondRow row ∷ l) (all-kept rows none)

no-load_moved : (rows : List Row) → filter_map load_in_row (moved rows) ≡ []
no-load_moved [] = refl
no-load_moved (OfOfficeRow row ∷ rows) = no-load_moved rows
no-load_moved (OfObsRow row ∷ rows) = no-load_moved rows
no-load_moved (OfLoadRow row ∷ rows) = no-load_moved rows
no-load_moved (OfSecondRow row ∷ rows) = no-load_moved rows

no-observation_kept : (rows : List Row) → list_any is_second rows ≡ false → filter_map observation_in_row (kept rows) ≡ []
no-observation_kept [] none = refl
no-observation_kept (OfOfficeRow row ∷ rows) none = no-observation_kept rows none
no-observation_kept (OfObsRow row ∷ rows) none = no-observation_kept rows none
no-observation_kept (OfLoadRow row ∷ rows) none = no-observation_kept rows none
no-observation_kept (OfSecondRow row ∷ rows) none = absurd (true≢false none)

-- no record comes after a row of another table
no-record_kept : (row : Row) (rows : List Row) → 1 ≤ table_of row → tables_follow (row ∷ rows) ≡ true → filter_map record_in_row (kept rows) ≡ []
no-record_kept row [] other follow = refl
no-record_kept row (next ∷ rows) other follow =
    let parts = and_parts (nat_le (table_of row) (table_of next)) (tables_follow (next ∷ rows)) follow in
    by_row next (leb-true (table_of row) (table_of next) parts.0) (λ later. no-record_kept next rows later parts.1)
  where
    by_row : (next : Row) → table_of row ≤ table_of next → (1 ≤ table_of next → filter_map record_in_row (kept rows) ≡ []) → filter_map record_in_row (kept (next ∷ rows)) ≡ []
    by_row (OfOfficeRow r) low rest = absurd (omega (arith, low, other))
    by_row (OfObsRow r) low rest = rest (omega arith)
    by_row (OfLoadRow r) low rest = rest (omega arith)
    by_row (OfSecondRow r) low rest = rest (omega arith)

no-record_after : (before after : List Row) → list_any is_first before ≡ true → tables_follow (before ++ after) ≡ true → filter_map record_in_row (kept after) ≡ []
no-record_after [] after some follow = absurd (false≢true some)
no-record_after (OfOfficeRow row ∷ before) after some follow = no-record_after before after some (follow-rest (OfOfficeRow row) (before ++ after) follow)
no-record_after (OfObsRow row ∷ before) after some follow = no-record_kept (OfObsRow row) after (omega arith) (follow-after (OfObsRow row) before after follow)
no-record_after (OfLoadRow row ∷ before) after some follow = no-record_after before after some (follow-rest (OfLoadRow row) (before ++ after) follow)
no-record_after (OfSecondRow row ∷ before) after some follow = no-record_after before after some (follow-rest (OfSecondRow row) (before ++ after) follow)

version_1-front : (before after : List Row) → are_version_1 (before ++ after) ≡ true → can_be_opened before ≡ true
unfolding can_be_opened are_version_1 migrated
version_1-front before after old =
    let all = before ++ after in
    let c = and_parts (list_any is_first all && not (list_any is_second all) && tables_follow all) (are_office_rows (migrated all)) old in
    let b = and_parts (list_any is_first all && not (list_any is_second all)) (tables_follow all) c.0 in
    let a = and_parts (list_any is_first all) (not (list_any is_second all)) b.0 in
    let none = or_parts (list_any is_second before) (list_any is_second after) (sym (list_any-append is_second before after) ∙ not-true (list_any is_second all) a.1) in
    let good : are_office_rows ((kept before ++ kept after) ++ moved before) ≡ true =
    office-front ((kept before ++ kept after) ++ moved before) (moved after) (ap are_office_rows (sym (migrated-parts before after)) ∙ c.1)
    in
    elim (cases_Bool (list_any is_first before)) [
      | inl some ↦ or_right (are_office_rows before) (are_version_1 before) (front-old some none.0 b.1 (no-observation_kept after none.1) good)
      | inr nothing ↦
          let all_records = office-front (kept before) (kept after) (office-front (kept before ++ kept after) (moved before) good) in
          or_left (are_office_rows before) (are_version_1 before) (ap are_office_rows (sym (all-kept before nothing)) ∙ all_records)
    ]
  where
    front-old : list_any is_first before ≡ true → list_any is_second before ≡ false → tables_follow (before ++ after) ≡ true → filter_map observation_in_row (kept after) ≡ []
        → are_office_rows ((kept before ++ kept after) ++ moved before) ≡ true → are_version_1 before ≡ true
    front-old some none follow no_observation good =
        and_from (list_any is_first before && not (list_any is_second before) && tables_follow before) (are_office_rows (migrated before))
        (and_from (list_any is_first before && not (list_any is_second before)) (tables_follow before)
        (and_from (list_any is_first before) (not (list_any is_second before)) some (not_from_false (list_any is_second before) none)) (follow-front before after follow))
        (office-without (kept before) (kept after) (moved before) (no-record_after before after some follow) no_observation (no-load_moved before) good)

pub opened-front : (before after : List Row) → can_be_opened (before ++ after) ≡ true → can_be_opened before ≡ true
unfolding can_be_opened
opened-front before after good =
    elim (or_cases (are_office_rows (before ++ after)) (are_version_1 (before ++ after)) good) [
      | inl office ↦ or_left (are_office_rows before) (are_version_1 before) (office-front before after office)
      | inr old ↦ version_1-front before after old
    ]

-- ---- the first row that cannot be opened

pub no-opening_damage : (rows : List Row) → can_be_opened rows ≡ true → opening_damage rows ≡ None
unfolding opening_damage
no-opening_damage rows good = none-bad can_be_opened opened-front rows good

pub opening_damage-at : (before : List Row) (row : Row) (after : List Row) → can_be_opened before ≡ true → can_be_opened (before ++ row ∷ []) ≡ false
    → opening_damage (before ++ row ∷ after) ≡ Some (place_of before row)
unfolding opening_damage
opening_damage-at before row after good bad = bad-at can_be_opened opened-front before row after good bad
