-- One more row after the rows of an office.
use Rattle.std.specs.Prelude.{◌≡◌, ℕ, Bool, true, false, ◌&&◌, List, [], ◌∷◌, ◌++◌, filter_map}
use Rattle.aq_rules.specs.Office.Office.{Office, comes_before, rises}
use Rattle.aq_rules.specs.Kept.Rows.{Row, OfOfficeRow, OfObsRow, OfLoadRow, OfSecondRow, record_in_row, observation_in_row, load_in_row, says_something, is_valid}

abbrev pub has_none : {X : Type 0} → List X → Bool
has_none [] = true
has_none (x ∷ xs) = false

-- whether no row of a later table stands; none of version 1 comes in turn
abbrev pub is_in_turn : Office → Row → Bool
is_in_turn office (OfOfficeRow row) = has_none office.observations && has_none office.loads
is_in_turn office (OfObsRow row) = false
is_in_turn office (OfLoadRow row) = has_none office.observations
is_in_turn office (OfSecondRow row) = true

-- the office with what a row says at the end of its list
abbrev pub with_last : Office → Row → Office
with_last office row = record {
  records = office.records ++ filter_map record_in_row (row ∷ []);
  observations = office.observations ++ filter_map observation_in_row (row ∷ []);
  loads = office.loads ++ filter_map load_in_row (row ∷ []);
}

-- whether the rows of an office with this row after them are an office's
abbrev pub may_follow : Office → Row → Bool
may_follow office row = says_something row && is_in_turn office row && is_valid (with_last office row)

-- rows of which the last has this key
pub record EndsAt {X : Type 0} (rank : X → List ℕ) (key : List ℕ) (rows : List X) : Type 0 where
  pub some : has_none rows ≡ false
  pub next : (row : X) → rises rank (rows ++ row ∷ []) ≡ comes_before key (rank row)
