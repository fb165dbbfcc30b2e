-- What holds of all rows after a change, and of what is found among them.
use Rattle.std.proofs.Common.{◌≡◌, ℕ, ◌+◌, ◌<◌, ◌≤◌, Bool, true, false, ◌&&◌, nat_eq, Option, List, [], ◌∷◌, length, map, cond, Some, None, refl, ap, sym, subst, ◌∙◌, arith}
use Rattle.std.specs.Prelude.{nat_le, nat_lt, filter, option_map, IfSome}
use Rattle.std.specs.List.{AllByRecursion}
use Rattle.std.proofs.lemmas.Bool.Decides.{nat_tests}
use Rattle.aq_base.specs.Values.{HasValueInRange}
use Rattle.aq_base.specs.declared.monitor.MonitorId.{MonitorId}
use Rattle.aq_base.specs.declared.observation.ObsKey.{ObsKey}
use Rattle.aq_base.specs.declared.observation.Observation.{Observation}
use Rattle.aq_rules.specs.Limits.{MOST_OBSERVATIONS}
use Rattle.aq_rules.specs.Office.Monitors.{is_same_monitor}
use Rattle.aq_rules.specs.Office.Office.{content_of, is_same, observation_numbers, observation_rank, row_at, with_row, without_row}
use Rattle.aq_rules.specs.Office.RowOrder.{with_row-rises, without_row-rises}
use Rattle.aq_rules.specs.Office.Sameness.{same_key}
use Rattle.aq_shelf.specs.declared.fault.ShelfFault.{ShelfFault}
use Rattle.aq_shelf.specs.declared.fault.ShelfFault.TheVariants.{AlreadyThere, Full, Memory}
use Rattle.aq_shelf.specs.Standing.{ChangesOnly, content_at, hour_content, in_span, observations_in, IsInsertFault, IsPutFault, IsShelf, IsStanding}
use Rattle.aq_shelf.proofs.Order.{same_rank}
use Rattle.aq_rules.proofs.Lookups.{found-with, found-without}
use Rattle.aq_rules.proofs.RisingRows.{length-with_row-new, length-with_row-there, length-without_row, all-with_row, all-without_row}

abbrev Rows : Type 0
Rows = List (ObsKey × Observation)

-- ---- what is found

no_content : (o : Option (ObsKey × Observation)) → option_map content_of o ≡ None → o ≡ None
no_content None h = refl
no_content (Some row) h = cc

some_content : (o : Option (ObsKey × Observation)) (content : Observation) → option_map content_of o ≡ Some content → (row : ObsKey × Observation) × (o ≡ Some row)
some_content None content h = cc
some_content (Some row) content h = (row, refl)

pub length-put : (key : ObsKey) (content : Observation) (rows : Rows) → content_at key rows ≡ None → length (with_row observation_rank (key, content) rows) ≡ length rows + 1
length-put key content rows absent =
    length-with_row-new observation_rank (key, content) rows (no_content (row_at observation_rank (observation_numbers key) rows) absent)

length-change : (key : ObsKey) (content before : Observation) (rows : Rows) → IsShelf rows → content_at key rows ≡ Some before → length (with_row observation_rank (key, content) rows) ≡ length rows
length-change key content before rows shelf found =
    let there = some_content (row_at observation_rank (observation_numbers key) rows) before found in
    length-with_row-there observation_rank (key, content) there.0 rows shelf.rising there.1

length-drop : (key : ObsKey) (before : Observation) (rows : Rows) → IsShelf rows → content_at key rows ≡ Some before → length (without_row observation_rank (observation_numbers key) rows) + 1 ≡ length rows
length-drop key before rows shelf found =
    let there = some_content (row_at observation_rank (observation_numbers key) rows) before found in
    length-without_row observation_rank (observation_numbers key) there.0 rows shelf.rising there.1

-- ---- what holds of all rows

pub IsShelf-put : (key : ObsKey) (content : Observation) (rows new : Rows) → IsStanding (key, content) → length new ≤ MOST_OBSERVATIONS → IsShelf rows → new ≡ with_row observation_rank (key, content) rows → IsShelf new
IsShelf-put key content rows new row few shelf is = record {
  rising = rw is (with_row-rises observation_rank (key, content) rows shelf.rising);
  few = few;
  standing = rw is (all-with_row observation_rank IsStanding (key, content) rows row shelf.standing);
}

IsShelf-drop : (key : ObsKey) (rows new : Rows) → length new ≤ MOST_OBSERVATIONS → IsShelf rows → new ≡ without_row observation_rank (observation_numbers key) rows → IsShelf new
IsShelf-drop key rows new few shelf is = record {
  rising = rw is (without_row-rises observation_rank (observation_numbers key) rows shelf.rising);
  few = few;
  standing = rw is (all-without_row observation_rank IsStanding (observation_numbers key) rows shelf.standing);
}

-- a row in another's place, and a row less
pub IsShelf-change : (key : ObsKey) (content before : Observation) (rows new : Rows) → IsStanding (key, content) → IsShelf rows → content_at key rows ≡ Some before → new ≡ with_row observation_rank (key, content) rows
    → IsShelf new × (length new ≡ length rows)
IsShelf-change key content before rows new row shelf found is =
    let same = ap length is ∙ length-change key content before rows shelf found in
    let few = shelf.few in
    (IsShelf-put key content rows new row (omega arith) shelf is, same)

pub IsShelf-less : (key : ObsKey) (before : Observation) (rows new : Rows) → IsShelf rows → content_at key rows ≡ Some before → new ≡ without_row observation_rank (observation_numbers key) rows
    → IsShelf new × (length new + 1 ≡ length rows)
IsShelf-less key before rows new shelf found is =
    let fewer = ap (λ (l : Rows). length l + 1) is ∙ length-drop key before rows shelf found in
    let few = shelf.few in
    (IsShelf-drop key rows new (omega arith) shelf is, fewer)

-- ---- a value that is found is in range

pub IfSome-content_at : (key : ObsKey) (rows : Rows) → AllByRecursion IsStanding rows → IfSome (content_at key rows) (HasValueInRange key.monitor.pollutant)
IfSome-content_at key [] all = tt
IfSome-content_at key (row ∷ rows) all =
    let find = row_at observation_rank (observation_numbers key) rows in
    let at : (b : Bool) → is_same (observation_rank row) (observation_numbers key) ≡ b → IfSome (option_map content_of (cond b (Some row) find)) (HasValueInRange key.monitor.pollutant) =
    elim [
      | true ↦ λ same.
          subst (λ (k : ObsKey). HasValueInRange k.monitor.pollutant row.1) (same_key row.0 key (sym (same_rank row.0 key) ∙ same)) all.0.1
      | false ↦ λ _. IfSome-content_at key rows all.1
    ]
    in
    at (is_same (observation_rank row) (observation_numbers key)) refl

pub HasValueInRange-found : (key : ObsKey) (content : Observation) (rows : Rows) → IsShelf rows → content_at key rows ≡ Some content → HasValueInRange key.monitor.pollutant content
HasValueInRange-found key content rows shelf found = rw found at (IfSome-content_at key rows shelf.standing)

first_of_three : (a b c : Bool) → (a && b && c) ≡ true → a ≡ true
first_of_three true b c h = refl
first_of_three false b c h = cc

same_monitor : (a b : MonitorId) → is_same_monitor a b ≡ true → a ≡ b
same_monitor a b same =
    ap (λ (k : ObsKey). k.monitor) (same_key (record { monitor = a; hour = 0 }) (record { monitor = b; hour = 0 }) (ap (λ b. b && nat_eq 0 0) same))

pub all-observations_in : (monitor : MonitorId) (from hours : ℕ) (rows : Rows) → AllByRecursion IsStanding rows → AllByRecursion (λ (item : ℕ × Observation). HasValueInRange monitor.pollutant item.1) (observations_in monitor from hours rows)
all-observations_in monitor from hours [] all = tt
all-observations_in monitor from hours (row ∷ rows) all =
    let kept = filter (in_span monitor from hours) rows in
    let rest = all-observations_in monitor from hours rows all.1 in
    let at : (b : Bool) → in_span monitor from hours row ≡ b → AllByRecursion (λ (item : ℕ × Observation). HasValueInRange monitor.pollutant item.1) (map hour_content (cond b (row ∷ kept) kept)) =
    elim [
      | true ↦ λ inside.
          let same = first_of_three (is_same_monitor row.0.monitor monitor) (nat_le from row.0.hour) (nat_lt row.0.hour (from + hours)) inside in
          (subst (λ (m : MonitorId). HasValueInRange m.pollutant row.1) (same_monitor row.0.monitor monitor same) all.0.1, rest)
      | false ↦ λ _. rest
    ]
    in
    at (in_span monitor from hours row) refl

length-kept : (monitor : MonitorId) (from hours : ℕ) (rows : Rows) → length (observations_in monitor from hours rows) ≤ length rows
length-kept monitor from hours [] = omega arith
length-kept monitor from hours (row ∷ rows) =
    let kept = filter (in_span monitor from hours) rows in
    let rest = length-kept monitor from hours rows in
    elim (in_span monitor from hours row) as (λ b. length (map hour_content (cond b (row ∷ kept) kept)) ≤ length (row ∷ rows)) [ true ↦ omega arith | false ↦ omega arith ]

pub few-observations_in : (monitor : MonitorId) (from hours : ℕ) (rows : Rows) → IsShelf rows → length (observations_in monitor from hours rows) ≤ MOST_OBSERVATIONS
few-observations_in monitor from hours rows shelf =
    let few = shelf.few in omega (arith, length-kept monitor from hours rows)

-- ---- each other key has what it had

content_under : (b : Bool) (row : ObsKey × Observation) (found : Option (ObsKey × Observation)) → option_map content_of (cond b (Some row) found) ≡ cond b (Some row.1) (option_map content_of found)
content_under true row found = refl
content_under false row found = refl

nothing_under : (b : Bool) (found : Option (ObsKey × Observation)) → option_map content_of (cond b None found) ≡ cond b None (option_map content_of found)
nothing_under true found = refl
nothing_under false found = refl

pub ChangesOnly-put : (key : ObsKey) (content : Observation) (rows old new : Rows) → new ≡ with_row observation_rank (key, content) rows → rows ≡ old → ChangesOnly key (Some content) old new
ChangesOnly-put key content rows old new is seen other =
    ap (content_at other) is
    ∙ ap (option_map content_of) (found-with observation_rank (observation_numbers other) (key, content) rows)
    ∙ content_under (is_same (observation_numbers key) (observation_numbers other)) (key, content) (row_at observation_rank (observation_numbers other) rows)
    ∙ (λ i. cond (same_rank key other i) (Some content) (content_at other (seen i)))

pub ChangesOnly-drop : (key : ObsKey) (rows old new : Rows) → new ≡ without_row observation_rank (observation_numbers key) rows → rows ≡ old → ChangesOnly key None old new
ChangesOnly-drop key rows old new is seen other =
    ap (content_at other) is
    ∙ ap (option_map content_of) (found-without observation_rank (observation_numbers other) (observation_numbers key) rows)
    ∙ nothing_under (is_same (observation_numbers key) (observation_numbers other)) (row_at observation_rank (observation_numbers other) rows)
    ∙ (λ i. cond (same_rank key other i) None (content_at other (seen i)))

-- ---- why a row is not put

pub IsInsertFault-put : (fault : ShelfFault) (key : ObsKey) (full : Bool) (count : ℕ) (rows : Rows) → count ≡ length rows → length rows ≤ MOST_OBSERVATIONS → full ≡ nat_eq count MOST_OBSERVATIONS → IsPutFault fault full (content_at key rows) → IsInsertFault fault key rows
IsInsertFault-put AlreadyThere key full count rows counted few is why = why
IsInsertFault-put Full key full count rows counted few is why = (why.0, reached count (length rows) counted (sym is ∙ why.1))
  where
    reached : (count n : ℕ) → count ≡ n → nat_eq count MOST_OBSERVATIONS ≡ true → n ≡ MOST_OBSERVATIONS
    reached count n counted h = grind (arith, nat_tests)
IsInsertFault-put Memory key full count rows counted few is why = (why.0, below count (length rows) counted few (sym is ∙ why.1))
  where
    below : (count n : ℕ) → count ≡ n → n ≤ MOST_OBSERVATIONS → nat_eq count MOST_OBSERVATIONS ≡ false → n < MOST_OBSERVATIONS
    below count n counted few h = grind (arith, nat_tests)
