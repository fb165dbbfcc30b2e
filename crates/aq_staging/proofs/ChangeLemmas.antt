-- What a load's changes leave of the observations.
use Rattle.std.proofs.Common.{◌≡◌, ℕ, ◌+◌, ◌≤◌, Bool, true, false, cond, Option, Some, None, is_some, not, List, [], ◌∷◌, length, refl, ap, sym, ◌∙◌, arith}
use Rattle.std.specs.Prelude.{option_map, Result, Ok, Err, OnErr, OnOk}
use Rattle.std.specs.Option.{unwrap_or}
use Rattle.std.proofs.lemmas.Bool.{false≢true}
use Rattle.std.proofs.lemmas.Slice.Eq.{bytes_eq-Decides}
use Rattle.aq_base.specs.declared.observation.ObsKey.{ObsKey}
use Rattle.aq_base.specs.declared.observation.Observation.{Observation}
use Rattle.aq_rules.specs.Limits.{MOST_OBSERVATIONS}
use Rattle.aq_rules.specs.Office.Office.{content_of, is_same, observation_numbers, observation_rank, rises, row_at, with_row, without_row}
use Rattle.aq_rules.specs.Office.RowOrder.{with_row-rises, without_row-rises}
use Rattle.aq_rules.proofs.Lookups.{same-is, found-with, found-without, first-found, none-behind, rises-rest, one_list}
use Rattle.aq_rules.proofs.RisingRows.{length-with_row-more, length-with_row-new, length-with_row-there, length-without_row}
use Rattle.aq_shelf.specs.Standing.{content_at}
use Rattle.aq_staging.specs.declared.changes.Changes.{Changes}
use Rattle.aq_staging.specs.Changes.{with_changes, with_rows, without_rows, AreChanges, AreFoundIn}

abbrev Row : Type 0
Row = ObsKey × Observation

-- ---- what is found after the changes

-- the first, if there is one
abbrev pub or_else : {A : Type 0} → Option A → Option A → Option A
or_else None other = other
or_else (Some a) other = Some a

-- the second, if the first is none
abbrev pub unless : {A : Type 0} → Option A → Option A → Option A
unless None other = other
unless (Some a) other = None

pub unless_none : {A : Type 0} (o : Option A) → unless o None ≡ None
unless_none None = refl
unless_none (Some a) = refl

pub or_none : {A : Type 0} (o : Option A) → or_else o None ≡ o
or_none None = refl
or_none (Some a) = refl

pub or_value : {A : Type 0} (o : Option A) (a : A) → Some (unwrap_or o a) ≡ or_else o (Some a)
or_value None a = refl
or_value (Some b) a = refl

module _ (q : List ℕ) where
  abbrev at : List Row → Option Row
  at rows = row_at observation_rank q rows

  found-without_rows : (gone rows : List Row) → at (without_rows gone rows) ≡ unless (at gone) (at rows)
  found-without_rows [] rows = refl
  found-without_rows (row ∷ gone) rows =
      found-without_rows gone (without_row observation_rank (observation_rank row) rows)
      ∙ ap (unless (at gone)) (found-without observation_rank q (observation_rank row) rows)
      ∙ by_test (is_same (observation_rank row) q)
    where
      by_test : (b : Bool) → unless (at gone) (cond b None (at rows)) ≡ unless (cond b (Some row) (at gone)) (at rows)
      by_test true = unless_none (at gone)
      by_test false = refl

  found-with_rows : (left rows : List Row) → rises observation_rank left ≡ true → at (with_rows left rows) ≡ or_else (at left) (at rows)
  found-with_rows [] rows rising = refl
  found-with_rows (row ∷ left) rows rising =
      found-with_rows left (with_row observation_rank row rows) (rises-rest observation_rank row left rising)
      ∙ ap (or_else (at left)) (found-with observation_rank q row rows)
      ∙ by_test (is_same (observation_rank row) q) refl
    where
      by_test : (b : Bool) → is_same (observation_rank row) q ≡ b → or_else (at left) (cond b (Some row) (at rows)) ≡ or_else (cond b (Some row) (at left)) (at rows)
      by_test true same =
          let none = ap (λ l. row_at observation_rank l left) (sym ((bytes_eq-Decides (observation_rank row) q).0 same)) ∙ none-behind observation_rank row left rising in
          ap (λ o. or_else o (Some row)) none
      by_test false other = refl

  pub found-with_changes : (changes : Changes) (rows : List Row) → rises observation_rank changes.left ≡ true → at (with_changes changes rows) ≡ or_else (at changes.left) (unless (at changes.dropped) (at rows))
  found-with_changes changes rows rising =
      found-with_rows changes.left (without_rows changes.dropped rows) rising
      ∙ ap (or_else (at changes.left)) (found-without_rows changes.dropped rows)

-- ---- what stands at a key after the changes

pub content-without_rows : (key : ObsKey) (gone rows : List Row) → content_at key (without_rows gone rows) ≡ unless (content_at key gone) (content_at key rows)
content-without_rows key gone rows =
    let q = observation_numbers key in
    ap (option_map content_of) (found-without_rows q gone rows) ∙ of_found (row_at observation_rank q gone) (row_at observation_rank q rows)
  where
    of_found : (gone found : Option Row) → option_map content_of (unless gone found) ≡ unless (option_map content_of gone) (option_map content_of found)
    of_found None found = refl
    of_found (Some row) found = refl

pub content-with_changes : (key : ObsKey) (changes : Changes) (rows : List Row) → rises observation_rank changes.left ≡ true → content_at key (with_changes changes rows) ≡ or_else (content_at key changes.left) (content_at key (without_rows changes.dropped rows))
content-with_changes key changes rows rising =
    let q = observation_numbers key in
    ap (option_map content_of) (found-with_rows q changes.left (without_rows changes.dropped rows) rising)
    ∙ of_found (row_at observation_rank q changes.left) (row_at observation_rank q (without_rows changes.dropped rows))
  where
    of_found : (left found : Option Row) → option_map content_of (or_else left found) ≡ or_else (option_map content_of left) (option_map content_of found)
    of_found None found = refl
    of_found (Some row) found = refl

-- ---- the order

without_rows-rises : (gone rows : List Row) → rises observation_rank rows ≡ true → rises observation_rank (without_rows gone rows) ≡ true
without_rows-rises [] rows rising = rising
without_rows-rises (row ∷ gone) rows rising =
    without_rows-rises gone (without_row observation_rank (observation_rank row) rows) (without_row-rises observation_rank (observation_rank row) rows rising)

with_rows-rises : (left rows : List Row) → rises observation_rank rows ≡ true → rises observation_rank (with_rows left rows) ≡ true
with_rows-rises [] rows rising = rising
with_rows-rises (row ∷ left) rows rising =
    with_rows-rises left (with_row observation_rank row rows) (with_row-rises observation_rank row rows rising)

pub with_changes-rises : (changes : Changes) (rows : List Row) → rises observation_rank rows ≡ true → rises observation_rank (with_changes changes rows) ≡ true
with_changes-rises changes rows rising =
    with_rows-rises changes.left (without_rows changes.dropped rows) (without_rows-rises changes.dropped rows rising)

-- ---- how many

some_row : (o : Option Row) (content : Observation) → option_map content_of o ≡ Some content → (row : Row) × (o ≡ Some row)
some_row None content h = cc
some_row (Some row) content h = (row, refl)

no_row : (o : Option Row) → option_map content_of o ≡ None → o ≡ None
no_row None h = refl
no_row (Some row) h = cc

pub length-put : (key : ObsKey) (content : Observation) (rows : List Row) → content_at key rows ≡ None → length (with_row observation_rank (key, content) rows) ≡ length rows + 1
length-put key content rows absent =
    length-with_row-new observation_rank (key, content) rows (no_row (row_at observation_rank (observation_numbers key) rows) absent)

pub length-change : (key : ObsKey) (content before : Observation) (rows : List Row) → rises observation_rank rows ≡ true → content_at key rows ≡ Some before → length (with_row observation_rank (key, content) rows) ≡ length rows
length-change key content before rows rising found =
    let there = some_row (row_at observation_rank (observation_numbers key) rows) before found in
    length-with_row-there observation_rank (key, content) there.0 rows rising there.1

pub length-drop : (key : ObsKey) (before : Observation) (rows : List Row) → rises observation_rank rows ≡ true → content_at key rows ≡ Some before → length (without_row observation_rank (observation_numbers key) rows) + 1 ≡ length rows
length-drop key before rows rising found =
    let there = some_row (row_at observation_rank (observation_numbers key) rows) before found in
    length-without_row observation_rank (observation_numbers key) there.0 rows rising there.1

-- rows whose keys are all keys of others are no more than these
module _ {X : Type 0} (rank : X → List ℕ) where
  no_more : (xs ys : List X) → rises rank xs ≡ true → rises rank ys ≡ true → AreFoundIn rank xs ys → length xs ≤ length ys
  no_more [] ys p q found = omega arith
  no_more (x ∷ xs) ys p q found =
      let there = found_row (row_at rank (rank x) ys) (found (rank x) (ap is_some (first-found rank x xs))) in
      let less = length-without_row rank (rank x) there.0 ys q there.1 in
      let rest = no_more xs (without_row rank (rank x) ys) (rises-rest rank x xs p) (without_row-rises rank (rank x) ys q) rest_found in
      omega (arith, less, rest)
    where
      found_row : (o : Option X) → is_some o ≡ true → (row : X) × (o ≡ Some row)
      found_row None h = absurd (false≢true h)
      found_row (Some row) h = (row, refl)

      rest_found : AreFoundIn rank xs (without_row rank (rank x) ys)
      rest_found key some = by_test (is_same (rank x) key) refl
        where
          by_test : (b : Bool) → is_same (rank x) key ≡ b → is_some (row_at rank key (without_row rank (rank x) ys)) ≡ true
          by_test true same =
              let none = ap (λ l. row_at rank l xs) (sym (same-is (rank x) key same)) ∙ none-behind rank x xs p in
              absurd (false≢true (sym (ap is_some none) ∙ some))
          by_test false other =
              ap is_some (found-without rank key (rank x) ys)
              ∙ ap (λ b. is_some (cond b None (row_at rank key ys))) other
              ∙ found key (ap (λ b. is_some (cond b (Some x) (row_at rank key xs))) other ∙ some)

-- rows are no fewer when others are put among them
pub length-with_rows-more : (left rows : List Row) → length rows ≤ length (with_rows left rows)
length-with_rows-more [] rows = omega arith
length-with_rows-more (row ∷ left) rows =
    omega (arith, length-with_row-more observation_rank row rows, length-with_rows-more left (with_row observation_rank row rows))

-- the next of some rows has room, if all have
pub next-has_room : (row : Row) (rest items left rows start : List Row) → items ≡ row ∷ rest → with_rows items rows ≡ with_rows left start → length (with_rows left start) ≤ MOST_OBSERVATIONS → length (with_row observation_rank row rows) ≤ MOST_OBSERVATIONS
next-has_room row rest items left rows start next so_far few =
    let all = ap length (ap (λ (l : List Row). with_rows l rows) (sym next) ∙ so_far) in
    omega (arith, all, few, length-with_rows-more rest (with_row observation_rank row rows))

-- those that are left are no more than those that stand
pub left-few : (before : List Row) (changes : Changes) → AreChanges before changes → length changes.left ≤ length (with_changes changes before)
left-few before changes are =
    no_more observation_rank changes.left (with_changes changes before) are.left (with_changes-rises changes before are.rising)
    (λ q some.
    ap is_some (found-with_changes q changes before are.left)
    ∙ first (row_at observation_rank q changes.left) (unless (row_at observation_rank q changes.dropped) (row_at observation_rank q before)) some)
  where
    first : (o other : Option Row) → is_some o ≡ true → is_some (or_else o other) ≡ true
    first None other h = cc
    first (Some row) other h = refl

-- ---- one more change

abbrev pub changes_of : List Row → List Row → Changes
changes_of left dropped = record { left = left; dropped = dropped }

module _ (key : ObsKey) (before : List Row) (changes : Changes) (are : AreChanges before changes) where
  pub change-put : (content : Observation) → with_changes (changes_of (with_row observation_rank (key, content) changes.left) changes.dropped) before ≡ with_row observation_rank (key, content) (with_changes changes before)
  change-put content =
      let more = changes_of (with_row observation_rank (key, content) changes.left) changes.dropped in
      let so_far = with_changes changes before in
      one_list observation_rank (with_changes more before) (with_row observation_rank (key, content) so_far)
      (with_changes-rises more before are.rising) (with_row-rises observation_rank (key, content) so_far (with_changes-rises changes before are.rising))
      (λ q.
      let below = unless (row_at observation_rank q changes.dropped) (row_at observation_rank q before) in
      found-with_changes q more before (with_row-rises observation_rank (key, content) changes.left are.left)
      ∙ ap (λ o. or_else o below) (found-with observation_rank q (key, content) changes.left)
      ∙ by_test (row_at observation_rank q changes.left) below (is_same (observation_numbers key) q)
      ∙ ap (cond (is_same (observation_numbers key) q) (Some (key, content))) (sym (found-with_changes q changes before are.left))
      ∙ sym (found-with observation_rank q (key, content) so_far))
    where
      by_test : (o below : Option Row) (b : Bool) → or_else (cond b (Some (key, content)) o) below ≡ cond b (Some (key, content)) (or_else o below)
      by_test o below true = refl
      by_test o below false = refl

  pub AreChanges-put : (content : Observation) → AreChanges before (changes_of (with_row observation_rank (key, content) changes.left) changes.dropped)
  AreChanges-put content = record {
    rising = are.rising;
    left = with_row-rises observation_rank (key, content) changes.left are.left;
    dropped = are.dropped;
    stood = are.stood;
  }

  -- nothing is left of the key, whatever is taken away beside it
  drop_by : (gone : List Row) → ((q : List ℕ) → unless (row_at observation_rank q gone) (row_at observation_rank q before) ≡ cond (is_same (observation_numbers key) q) None (unless (row_at observation_rank q changes.dropped) (row_at observation_rank q before)))
      → with_changes (changes_of (without_row observation_rank (observation_numbers key) changes.left) gone) before ≡ without_row observation_rank (observation_numbers key) (with_changes changes before)
  drop_by gone found =
      let less = changes_of (without_row observation_rank (observation_numbers key) changes.left) gone in
      let so_far = with_changes changes before in
      one_list observation_rank (with_changes less before) (without_row observation_rank (observation_numbers key) so_far)
      (with_changes-rises less before are.rising) (without_row-rises observation_rank (observation_numbers key) so_far (with_changes-rises changes before are.rising))
      (λ q.
      let below = unless (row_at observation_rank q changes.dropped) (row_at observation_rank q before) in
      found-with_changes q less before (without_row-rises observation_rank (observation_numbers key) changes.left are.left)
      ∙ ap (λ o. or_else o (unless (row_at observation_rank q gone) (row_at observation_rank q before))) (found-without observation_rank q (observation_numbers key) changes.left)
      ∙ ap (or_else (cond (is_same (observation_numbers key) q) None (row_at observation_rank q changes.left))) (found q)
      ∙ by_test (row_at observation_rank q changes.left) below (is_same (observation_numbers key) q)
      ∙ ap (cond (is_same (observation_numbers key) q) None) (sym (found-with_changes q changes before are.left))
      ∙ sym (found-without observation_rank q (observation_numbers key) so_far))
    where
      by_test : (o below : Option Row) (b : Bool) → or_else (cond b None o) (cond b None below) ≡ cond b None (or_else o below)
      by_test o below true = refl
      by_test o below false = refl

  -- if it was taken away before, or never stood
  pub change-drop-left : content_at key (without_rows changes.dropped before) ≡ None → with_changes (changes_of (without_row observation_rank (observation_numbers key) changes.left) changes.dropped) before ≡ without_row observation_rank (observation_numbers key) (with_changes changes before)
  change-drop-left absent = drop_by changes.dropped (λ q. by_test q (is_same (observation_numbers key) q) refl)
    where
      by_test : (q : List ℕ) (b : Bool) → is_same (observation_numbers key) q ≡ b → unless (row_at observation_rank q changes.dropped) (row_at observation_rank q before) ≡ cond b None (unless (row_at observation_rank q changes.dropped) (row_at observation_rank q before))
      by_test q true same =
          sym (found-without_rows q changes.dropped before)
          ∙ ap (λ l. row_at observation_rank l (without_rows changes.dropped before)) (sym ((bytes_eq-Decides (observation_numbers key) q).0 same))
          ∙ no_row (row_at observation_rank (observation_numbers key) (without_rows changes.dropped before)) absent
      by_test q false other = refl

  pub change-drop : (kept : Observation) → with_changes (changes_of (without_row observation_rank (observation_numbers key) changes.left) (with_row observation_rank (key, kept) changes.dropped)) before ≡ without_row observation_rank (observation_numbers key) (with_changes changes before)
  change-drop kept =
      drop_by (with_row observation_rank (key, kept) changes.dropped)
      (λ q.
      ap (λ o. unless o (row_at observation_rank q before)) (found-with observation_rank q (key, kept) changes.dropped)
      ∙ by_test (row_at observation_rank q changes.dropped) (row_at observation_rank q before) (is_same (observation_numbers key) q))
    where
      by_test : (o below : Option Row) (b : Bool) → unless (cond b (Some (key, kept)) o) below ≡ cond b None (unless o below)
      by_test o below true = refl
      by_test o below false = refl

  pub AreChanges-drop-left : AreChanges before (changes_of (without_row observation_rank (observation_numbers key) changes.left) changes.dropped)
  AreChanges-drop-left = record {
    rising = are.rising;
    left = without_row-rises observation_rank (observation_numbers key) changes.left are.left;
    dropped = are.dropped;
    stood = are.stood;
  }

  module _ (kept : Observation) (stands : content_at key (without_rows changes.dropped before) ≡ Some kept) where
    parts : (gone found : Option Observation) → unless gone found ≡ Some kept → (gone ≡ None) × (found ≡ Some kept)
    parts None found h = (refl, h)
    parts (Some content) found h = cc

    both : (content_at key changes.dropped ≡ None) × (content_at key before ≡ Some kept)
    both = parts (content_at key changes.dropped) (content_at key before) (sym (content-without_rows key changes.dropped before) ∙ stands)

    pub not_dropped : content_at key changes.dropped ≡ None
    not_dropped = both.0

    stood : AreFoundIn observation_rank (with_row observation_rank (key, kept) changes.dropped) before
    stood q some = by_test (is_same (observation_numbers key) q) refl (sym (ap is_some (found-with observation_rank q (key, kept) changes.dropped)) ∙ some)
      where
        by_test : (b : Bool) → is_same (observation_numbers key) q ≡ b → is_some (cond b (Some (key, kept)) (row_at observation_rank q changes.dropped)) ≡ true → is_some (row_at observation_rank q before) ≡ true
        by_test true same h =
            ap (λ l. is_some (row_at observation_rank l before)) (sym ((bytes_eq-Decides (observation_numbers key) q).0 same))
            ∙ ap is_some (some_row (row_at observation_rank (observation_numbers key) before) kept both.1).1
        by_test false other h = are.stood q h

    pub AreChanges-drop : AreChanges before (changes_of (without_row observation_rank (observation_numbers key) changes.left) (with_row observation_rank (key, kept) changes.dropped))
    AreChanges-drop = record {
      rising = are.rising;
      left = without_row-rises observation_rank (observation_numbers key) changes.left are.left;
      dropped = with_row-rises observation_rank (key, kept) changes.dropped are.dropped;
      stood = stood;
    }

    pub dropped-few : length before ≤ MOST_OBSERVATIONS → length (with_row observation_rank (key, kept) changes.dropped) ≤ MOST_OBSERVATIONS
    dropped-few few =
        omega (arith, few, no_more observation_rank (with_row observation_rank (key, kept) changes.dropped) before (with_row-rises observation_rank (key, kept) changes.dropped are.dropped) are.rising stood)

-- ---- a row that is not there

without-none : (key : ObsKey) (rows : List Row) → row_at observation_rank (observation_numbers key) rows ≡ None → without_row observation_rank (observation_numbers key) rows ≡ rows
without-none key [] none = refl
without-none key (row ∷ rows) none = by_test (without-none key rows) (is_same (observation_rank row) (observation_numbers key)) none
  where
    by_test : (row_at observation_rank (observation_numbers key) rows ≡ None → without_row observation_rank (observation_numbers key) rows ≡ rows) → (b : Bool) → cond b (Some row) (row_at observation_rank (observation_numbers key) rows) ≡ None → cond (not b) (row ∷ without_row observation_rank (observation_numbers key) rows) (without_row observation_rank (observation_numbers key) rows) ≡ row ∷ rows
    by_test rest true some = cc
    by_test rest false none = ap (λ (l : List Row). row ∷ l) (rest none)

pub without-absent : (key : ObsKey) (rows : List Row) → content_at key rows ≡ None → without_row observation_rank (observation_numbers key) rows ≡ rows
without-absent key rows absent = without-none key rows (no_row (row_at observation_rank (observation_numbers key) rows) absent)

-- taken away if it is there, and else as before
pub removed : {T E : Type 0} (key : ObsKey) (rows new : List Row) (answer : Result T E) → OnOk answer (new ≡ without_row observation_rank (observation_numbers key) rows) → OnErr answer (content_at key rows ≡ None) → OnErr answer (new ≡ rows) → new ≡ without_row observation_rank (observation_numbers key) rows
removed key rows new (Ok before) ok absent unchanged = ok
removed key rows new (Err fault) ok absent unchanged =
    unchanged ∙ sym (without-absent key rows absent)

-- ---- changes of nothing

without_none : (gone : List Row) → without_rows gone [] ≡ []
without_none [] = refl
without_none (row ∷ gone) = without_none gone

pub on_nothing : (changes : Changes) (rows : List Row) → rises observation_rank changes.left ≡ true → rows ≡ [] → changes.left ≡ with_changes changes rows
on_nothing changes rows rising none =
    one_list observation_rank changes.left (with_rows changes.left []) rising (with_rows-rises changes.left [] refl)
    (λ q. sym (found-with_rows q changes.left [] rising ∙ or_none (row_at observation_rank q changes.left)))
    ∙ ap (with_rows changes.left) (sym (without_none changes.dropped))
    ∙ ap (with_changes changes) (sym none)
