-- One more row after rows that are an office's.
use Rattle.std.proofs.Common.{◌≡◌, ℕ, Bool, true, false, ◌&&◌, List, [], ◌∷◌, ◌++◌, refl, sym, ap, ◌∙◌, arith}
use Rattle.std.specs.Prelude.{Option, Some, None, is_some, nat_le, filter_map}
use Rattle.std.specs.List.{list_all}
use Rattle.std.proofs.lemmas.Bool.{false≢true, and_parts}
use Rattle.std.proofs.lemmas.Bool.Decides.{nat_tests}
use Rattle.std.proofs.lemmas.List.Elements.{filter_map-append}
use Rattle.aq_rules.specs.Kept.Rows.{Row, OfOfficeRow, OfObsRow, OfLoadRow, OfSecondRow, record_in_row, observation_in_row, load_in_row, says_something, office_in, table_of, tables_follow, is_valid, are_office_rows}
use Rattle.aq_rows.specs.OneMoreRow.{has_none, is_in_turn, with_last, may_follow}

all-last : {X : Type 0} (p : X → Bool) (xs : List X) (x : X) → list_all p (xs ++ x ∷ []) ≡ (list_all p xs && p x)
all-last p [] x = alone (p x)
  where
    alone : (b : Bool) → (b && true) ≡ b
    alone true = refl
    alone false = refl
all-last p (y ∷ xs) x = choose (p y) (all-last p xs x)
  where
    choose : (b : Bool) → list_all p (xs ++ x ∷ []) ≡ (list_all p xs && p x) → (b && list_all p (xs ++ x ∷ [])) ≡ ((b && list_all p xs) && p x)
    choose true h = h
    choose false h = refl

-- a table before another is before all that the other is before
further : (a b r : ℕ) (rest : Bool) → nat_le a b ≡ true → (nat_le b r && rest) ≡ (nat_le a r && (nat_le b r && rest))
further a b r rest h = choose (nat_le b r) (nat_le a r) refl refl
  where
    choose : (p q : Bool) → nat_le b r ≡ p → nat_le a r ≡ q → (p && rest) ≡ (q && (p && rest))
    choose true true e f = refl
    choose true false e f = absurd (grind (arith, nat_tests))
    choose false true e f = refl
    choose false false e f = refl

module _ (row : Row) where
  -- none of these rows is of a later table
  none_later : List Row → Bool
  none_later rows = list_all (λ other. nat_le (table_of other) (table_of row)) rows

  follow-last : (before : List Row) → tables_follow before ≡ true → tables_follow (before ++ row ∷ []) ≡ none_later before
  unfolding none_later
  follow-last [] h = refl
  follow-last (a ∷ []) h = refl
  follow-last (a ∷ b ∷ rest) h =
      let parts = and_parts (nat_le (table_of a) (table_of b)) (tables_follow (b ∷ rest)) h in
      ap (λ t. t && tables_follow (b ∷ (rest ++ row ∷ []))) parts.0
      ∙ follow-last (b ∷ rest) parts.1
      ∙ further (table_of a) (table_of b) (table_of row) (none_later rest) parts.0

-- rows that say something leave their table in the office
some_first : {X : Type 0} (read : Row → Option X) (a : Row) (rows : List Row) → is_some (read a) ≡ true → has_none (filter_map read (a ∷ rows)) ≡ false
some_first {X} read a rows h = choose (read a) refl h
  where
    choose : (o : Option X) → read a ≡ o → is_some o ≡ true → has_none (filter_map read (a ∷ rows)) ≡ false
    choose None e h = absurd (false≢true h)
    choose (Some x) e h = rw e refl

-- a row before others changes whose turn comes after them as its table says
step : (a row : Row) (before : List Row) → says_something a ≡ true → says_something row ≡ true
    → (nat_le (table_of a) (table_of row) && is_in_turn (office_in before) row) ≡ is_in_turn (office_in (a ∷ before)) row
step (OfObsRow a) row before said says = absurd (false≢true said)
step (OfOfficeRow a) (OfOfficeRow row) before said says = refl
step (OfOfficeRow a) (OfObsRow row) before said says = absurd (false≢true says)
step (OfOfficeRow a) (OfLoadRow row) before said says = refl
step (OfOfficeRow a) (OfSecondRow row) before said says = refl
step (OfLoadRow a) (OfOfficeRow row) before said says =
    sym (ap (λ b. has_none (filter_map observation_in_row before) && b) (some_first load_in_row (OfLoadRow a) before said) ∙ none_with (has_none (filter_map observation_in_row before)))
  where
    none_with : (b : Bool) → (b && false) ≡ false
    none_with true = refl
    none_with false = refl
step (OfLoadRow a) (OfObsRow row) before said says = absurd (false≢true says)
step (OfLoadRow a) (OfLoadRow row) before said says = refl
step (OfLoadRow a) (OfSecondRow row) before said says = refl
step (OfSecondRow a) (OfOfficeRow row) before said says =
    ap (λ b. b && has_none (filter_map load_in_row before)) (sym (some_first observation_in_row (OfSecondRow a) before said))
step (OfSecondRow a) (OfObsRow row) before said says = absurd (false≢true says)
step (OfSecondRow a) (OfLoadRow row) before said says = sym (some_first observation_in_row (OfSecondRow a) before said)
step (OfSecondRow a) (OfSecondRow row) before said says = refl

turn : (row : Row) (before : List Row) → says_something row ≡ true → list_all says_something before ≡ true → none_later row before ≡ is_in_turn (office_in before) row
unfolding none_later
turn (OfOfficeRow row) [] says h = refl
turn (OfObsRow row) [] says h = absurd (false≢true says)
turn (OfLoadRow row) [] says h = refl
turn (OfSecondRow row) [] says h = refl
turn row (a ∷ before) says h =
    let parts = and_parts (says_something a) (list_all says_something before) h in
    ap (λ b. nat_le (table_of a) (table_of row) && b) (turn row before says parts.1) ∙ step a row before parts.0 says

-- ---- the office of the rows

pub office-last : (before : List Row) (row : Row) → office_in (before ++ row ∷ []) ≡ with_last (office_in before) row
office-last before row =
    let records = filter_map-append record_in_row before (row ∷ []) in
    let observations = filter_map-append observation_in_row before (row ∷ []) in
    let loads = filter_map-append load_in_row before (row ∷ []) in
    λ i. record { records = records i; observations = observations i; loads = loads i }

pub follows : (before : List Row) (row : Row) → are_office_rows before ≡ true → are_office_rows (before ++ row ∷ []) ≡ may_follow (office_in before) row
unfolding are_office_rows
follows before row good =
    let valid = and_parts _ (is_valid (office_in before)) good in
    let parts = and_parts (list_all says_something before) (tables_follow before) valid.0 in
    let says : list_all says_something (before ++ row ∷ []) ≡ says_something row = all-last says_something before row ∙ ap (λ b. b && says_something row) parts.0 in
    let office : is_valid (office_in (before ++ row ∷ [])) ≡ is_valid (with_last (office_in before) row) = ap is_valid (office-last before row) in
    (λ i. says i && tables_follow (before ++ row ∷ []) && office i)
    ∙ by_test (says_something row) refl
    (λ s. follow-last row before parts.1 ∙ turn row before s parts.0)
  where
    -- what says nothing follows nowhere, whatever its turn is
    by_test : (b : Bool) → says_something row ≡ b → (says_something row ≡ true → tables_follow (before ++ row ∷ []) ≡ is_in_turn (office_in before) row)
        → (says_something row && tables_follow (before ++ row ∷ []) && is_valid (with_last (office_in before) row)) ≡ may_follow (office_in before) row
    by_test true e turns = ap (λ t. says_something row && t && is_valid (with_last (office_in before) row)) (turns e)
    by_test false e turns = (λ i. e i && tables_follow (before ++ row ∷ []) && is_valid (with_last (office_in before) row)) ∙ sym (λ i. e i && is_in_turn (office_in before) row && is_valid (with_last (office_in before) row))
