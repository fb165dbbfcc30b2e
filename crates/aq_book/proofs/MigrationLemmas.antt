-- What an opening says of rows and of the migrated rows; and where the first row stands that cannot be opened.
use Rattle.std.proofs.Common.{◌≡◌, ℕ, ◌+◌, ◌-◌, ◌<◌, ◌≤◌, Bool, true, false, cond, List, [], ◌∷◌, ◌++◌, length, get_or, take, drop, refl, sym, ap, ◌∙◌, arith, append_assoc}
use Rattle.std.specs.Prelude.{Some, None}
use Rattle.std.proofs.lemmas.Bool.{true≢false, and_from, and_left, and_right, false_from_ne_true, or_from, or_left, or_right}
use Rattle.std.proofs.lemmas.List.{take_more, take_all, take-append-drop}
use Rattle.aq_rules.specs.Office.Office.{Office}
use Rattle.aq_rules.specs.Kept.Rows.{Row, Place, office_in, are_office_rows, office_of_rows, place_of, damage}
use Rattle.aq_rules.specs.Kept.Migration.{migrated, are_version_1, can_be_opened, opening_damage}
use Rattle.aq_rules.proofs.Rewritten.{no-damage}
use Rattle.aq_book.specs.Migrating.{IsFound, has_old_tables, is_opened}
use Rattle.aq_book.specs.declared.migration.Found.{Found}
use Rattle.aq_book.specs.declared.migration.Found.TheVariants.{Office as OfficeFound, Version1, Neither}
use Rattle.aq_book.proofs.OpenedFronts.{opening_damage-at}

pub opened-office : (rows : List Row) (office : Office) → office_of_rows rows ≡ Some office → are_office_rows rows ≡ true
unfolding office_of_rows
opened-office rows office opened = by_test (are_office_rows rows) refl opened
  where
    by_test : (b : Bool) → are_office_rows rows ≡ b → cond b (Some (office_in rows)) None ≡ Some office → are_office_rows rows ≡ true
    by_test true e h = e
    by_test false e h = cc

pub damaged-no_office : (rows : List Row) (place : Place) → damage rows ≡ Some place → are_office_rows rows ≡ false
damaged-no_office rows place damaged = false_from_ne_true (are_office_rows rows) (λ good. no_place (sym (no-damage rows good) ∙ damaged))
  where
    no_place : None ≡ Some place → ⊥
    no_place e = cc

-- ---- what rows are

module _ (rows : List Row) where
  pub old-found : has_old_tables rows ≡ true → are_office_rows (migrated rows) ≡ true → are_version_1 rows ≡ true
  unfolding are_version_1
  old-found tables office = and_from (has_old_tables rows) (are_office_rows (migrated rows)) tables office

  pub other_tables-neither : are_office_rows rows ≡ false → has_old_tables rows ≡ false → can_be_opened rows ≡ false
  unfolding can_be_opened are_version_1
  other_tables-neither no_office tables = or_from (are_office_rows rows) (are_version_1 rows) no_office (and_left (has_old_tables rows) (are_office_rows (migrated rows)) tables)

  pub not_migrated-neither : are_office_rows rows ≡ false → are_office_rows (migrated rows) ≡ false → can_be_opened rows ≡ false
  unfolding can_be_opened are_version_1
  not_migrated-neither no_office no_migrated = or_from (are_office_rows rows) (are_version_1 rows) no_office (and_right (has_old_tables rows) (are_office_rows (migrated rows)) no_migrated)

  pub found-opened : (found : Found) → IsFound rows found → is_opened found ≡ can_be_opened rows
  unfolding can_be_opened
  found-opened OfficeFound office = sym (or_left (are_office_rows rows) (are_version_1 rows) office)
  found-opened (Version1 made) old = sym (or_right (are_office_rows rows) (are_version_1 rows) old.0)
  found-opened Neither neither = sym neither

-- ---- by halves

no_rows-opened : can_be_opened [] ≡ true
unfolding can_be_opened are_office_rows
no_rows-opened = refl

-- at first no row is known to be good, and all are bad
module _ (rows : List Row) (bad : can_be_opened rows ≡ false) where
  pub halves-apart : 0 < length rows
  halves-apart = by_rows rows bad
    where
      by_rows : (some : List Row) → can_be_opened some ≡ false → 0 < length some
      by_rows [] h = absurd (true≢false (sym no_rows-opened ∙ h))
      by_rows (row ∷ more) h = omega arith

  pub halves-opened : can_be_opened (take 0 rows) ≡ true
  halves-opened = no_rows-opened

  pub halves-unopened : can_be_opened (take (length rows) rows) ≡ false
  halves-unopened = ap can_be_opened (take_all (length rows) rows (omega arith)) ∙ bad

-- in the end one row is left
pub halves-place : (rows : List Row) (good bad : ℕ) (row : Row) → good < bad → bad - good ≤ 1 → bad ≤ length rows → row ≡ get_or rows good row
    → can_be_opened (take good rows) ≡ true → can_be_opened (take bad rows) ≡ false → opening_damage rows ≡ Some (place_of (take good rows) row)
halves-place rows good bad row apart near within is opened unopened =
    let next : bad ≡ good + 1 = omega arith in
    let inside : good < length rows = omega arith in
    let more : take (good + 1) rows ≡ take good rows ++ row ∷ [] = take_more rows good row inside ∙ ap (λ (r : Row). take good rows ++ r ∷ []) (sym is) in
    let all : rows ≡ take good rows ++ row ∷ drop (good + 1) rows =
    sym (take-append-drop (good + 1) rows) ∙ ap (λ (l : List Row). l ++ drop (good + 1) rows) more ∙ append_assoc (take good rows) (row ∷ []) (drop (good + 1) rows)
    in
    ap opening_damage all
    ∙ opening_damage-at (take good rows) row (drop (good + 1) rows) opened (ap can_be_opened (sym more ∙ ap (λ n. take n rows) (sym next)) ∙ unopened)
