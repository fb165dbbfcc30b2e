-- Rows of version 1, migrated.
use Rattle.std.proofs.Common.{◌≡◌, true, false, not, ◌&&◌, List, [], ◌∷◌, ◌++◌, map, Some, None, refl, ap, ◌∙◌, append-nil}
use Rattle.std.specs.Prelude.{filter, is_some}
use Rattle.std.specs.List.{list_all, list_any}
use Rattle.std.proofs.lemmas.Bool.{false≢true, and_parts}
use Rattle.aq_rules.specs.Kept.Rows.{Row, OfOfficeRow, OfObsRow, OfLoadRow, OfSecondRow, Place, record_of_row, load_of_row, observation_of_row, says_something, office_in, is_valid, tables_follow, are_office_rows}
use Rattle.aq_rules.specs.Kept.Migration.{is_first, is_second, migrated, migrated_row, are_version_1, can_be_opened, FirstUnopened, opening_damage}
use Rattle.aq_rules.proofs.Damage.{found, none}

pub migrated-office : (rows : List Row) → are_version_1 rows ≡ true → are_office_rows (migrated rows) ≡ true
unfolding are_version_1
migrated-office rows h =
    (and_parts (list_any is_first rows && not (list_any is_second rows) && tables_follow rows) (are_office_rows (migrated rows)) h).1

-- ---- an office's rows have none of version 1

no-first : (rows : List Row) → list_all says_something rows ≡ true → list_any is_first rows ≡ false
no-first [] said = refl
no-first (OfOfficeRow row ∷ rows) said = no-first rows (and_parts (is_some (record_of_row row)) (list_all says_something rows) said).1
no-first (OfObsRow row ∷ rows) said = absurd (false≢true said)
no-first (OfLoadRow row ∷ rows) said = no-first rows (and_parts (is_some (load_of_row row)) (list_all says_something rows) said).1
no-first (OfSecondRow row ∷ rows) said = no-first rows (and_parts (is_some (observation_of_row row)) (list_all says_something rows) said).1

all-kept : (rows : List Row) → list_all says_something rows ≡ true → filter (λ row. not (is_first row)) rows ≡ rows
all-kept [] said = refl
all-kept (OfOfficeRow row ∷ rows) said = ap (λ (l : List Row). OfOfficeRow row ∷ l) (all-kept rows (and_parts (is_some (record_of_row row)) (list_all says_something rows) said).1)
all-kept (OfObsRow row ∷ rows) said = absurd (false≢true said)
all-kept (OfLoadRow row ∷ rows) said = ap (λ (l : List Row). OfLoadRow row ∷ l) (all-kept rows (and_parts (is_some (load_of_row row)) (list_all says_something rows) said).1)
all-kept (OfSecondRow row ∷ rows) said = ap (λ (l : List Row). OfSecondRow row ∷ l) (all-kept rows (and_parts (is_some (observation_of_row row)) (list_all says_something rows) said).1)

none-first : (rows : List Row) → list_all says_something rows ≡ true → filter is_first rows ≡ []
none-first [] said = refl
none-first (OfOfficeRow row ∷ rows) said = none-first rows (and_parts (is_some (record_of_row row)) (list_all says_something rows) said).1
none-first (OfObsRow row ∷ rows) said = absurd (false≢true said)
none-first (OfLoadRow row ∷ rows) said = none-first rows (and_parts (is_some (load_of_row row)) (list_all says_something rows) said).1
none-first (OfSecondRow row ∷ rows) said = none-first rows (and_parts (is_some (observation_of_row row)) (list_all says_something rows) said).1

rows-said : (rows : List Row) → are_office_rows rows ≡ true → list_all says_something rows ≡ true
unfolding are_office_rows
rows-said rows h =
    let b = and_parts (list_all says_something rows && tables_follow rows) (is_valid (office_in rows)) h in
    (and_parts (list_all says_something rows) (tables_follow rows) b.0).0

pub office-new : (rows : List Row) → are_office_rows rows ≡ true → are_version_1 rows ≡ false
unfolding are_version_1
office-new rows h =
    ap (λ b. b && not (list_any is_second rows) && tables_follow rows && are_office_rows (migrated rows)) (no-first rows (rows-said rows h))

pub office-kept : (rows : List Row) → are_office_rows rows ≡ true → migrated rows ≡ rows
unfolding migrated
office-kept rows h =
    let said = rows-said rows h in
    (λ i. all-kept rows said i ++ map migrated_row (none-first rows said i)) ∙ append-nil rows

-- ---- where rows cannot be opened

no_rows : can_be_opened [] ≡ true
unfolding can_be_opened are_office_rows
no_rows = refl

pub unopened-first : (rows : List Row) (place : Place) → opening_damage rows ≡ Some place → FirstUnopened rows place
unfolding opening_damage
unopened-first rows place at = found can_be_opened rows [] rows place refl no_rows at

pub unopened-none : (rows : List Row) → opening_damage rows ≡ None → can_be_opened rows ≡ true
unfolding opening_damage
unopened-none rows at = none can_be_opened rows [] rows refl no_rows at
