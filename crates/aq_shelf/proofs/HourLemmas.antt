-- What an hour's place among rising hours says of their rows.
use Rattle.std.proofs.Common.{◌≡◌, ◌≢◌, ℕ, zero, suc, ◌<◌, ◌≤◌, Bool, true, false, not, ◌&&◌, ◌==◌, List, [], ◌∷◌, ◌++◌, length, get_or, set, take, drop, cond, Some, None, is_some, refl, ap, sym, subst, ◌∙◌, arith}
use Rattle.std.specs.Prelude.{nat_le, nat_lt, filter, option_map}
use Rattle.std.specs.declared.cmp.Ordering.TheVariants.{Less}
use Rattle.std.specs.Ordering.{nat_cmp}
use Rattle.std.specs.List.{AllByRecursion}
use Rattle.std.specs.List.Sorted.{IsStrictlySortedBy}
use Rattle.std.specs.Map.{keys_of}
use Rattle.std.proofs.lemmas.Bool.Decides.{nat_tests}
use Rattle.std.proofs.lemmas.Map.Keys.{sorted_head, sorted_tail}
use Rattle.aq_base.specs.declared.monitor.MonitorId.{MonitorId}
use Rattle.aq_base.specs.declared.observation.ObsKey.{ObsKey}
use Rattle.aq_base.specs.declared.observation.Observation.{Observation}
use Rattle.aq_rules.specs.Office.Office.{observation_numbers, observation_rank, comes_before, is_same, content_of, row_at, with_row, without_row, rises, rises_from}
use Rattle.aq_rules.specs.Office.RowOrder.{with_row-rises, without_row-rises}
use Rattle.aq_shelf.specs.Places.{place_of, StandsAt, IsGapAt}
use Rattle.aq_shelf.specs.Standing.{content_at}
use Rattle.aq_shelf.specs.Stretches.{between, rows_of}
use Rattle.aq_shelf.proofs.Order.{before_hour, same_hour}
use Rattle.aq_rules.proofs.RisingRows.{row_at-none, without_row-none, all_later}

-- ---- numbers and their tests

is_below : (a b : ℕ) → nat_lt a b ≡ true → a < b
is_below a b h = grind (arith, nat_tests)

not_below : (a b : ℕ) → nat_lt a b ≡ false → b ≤ a
not_below a b h = grind (arith, nat_tests)

below : (a b : ℕ) → a < b → nat_lt a b ≡ true
below a b h = grind (arith, nat_tests)

at_least : (a b : ℕ) → b ≤ a → nat_lt a b ≡ false
at_least a b h = grind (arith, nat_tests)

not_same : (a b : ℕ) → a < b → (a == b) ≡ false
not_same a b h = grind (arith, nat_tests)

is_same_number : (a b : ℕ) → a ≡ b → (a == b) ≡ true
is_same_number a b h = grind (arith, nat_tests)

less_is : (a b : ℕ) → a < b → nat_cmp a b ≡ Less
less_is a b h = grind (arith, nat_tests)

is_less : (a b : ℕ) → nat_cmp a b ≡ Less → a < b
is_less a b h = grind (arith, nat_tests)

-- ---- the place

pub place_of-le : (hour : ℕ) (es : List (ℕ × Observation)) → place_of hour es ≤ length es
place_of-le hour [] = omega arith
place_of-le hour (e ∷ es) =
    let rest = place_of-le hour es in
    elim (nat_lt e.0 hour) as (λ b. cond b (suc (place_of hour es)) 0 ≤ length (e ∷ es)) [ true ↦ omega arith | false ↦ omega arith ]

-- the entry at a place is one of those behind the first
later_at : (e : ℕ × Observation) (es : List (ℕ × Observation)) (i : ℕ) (f : ℕ × Observation) → AllByRecursion (λ y. nat_cmp e.0 y ≡ Less) (keys_of es) → i < length es → f ≡ get_or es i f → e.0 < f.0
later_at e [] i f all within is = absurd (omega arith)
later_at e (x ∷ es) zero f all within is = let h = is_less e.0 x.0 all.0 in let k = ap (λ (p : ℕ × Observation). p.0) is in omega arith
later_at e (x ∷ es) (suc i) f all within is = later_at e es i f all.1 (omega arith) is

pub place_past : (hour : ℕ) (es : List (ℕ × Observation)) (i : ℕ) (f : ℕ × Observation) → IsStrictlySortedBy nat_cmp (keys_of es) → i < length es → f ≡ get_or es i f → f.0 < hour → i < place_of hour es
place_past hour [] i f sorted within is less = absurd (omega arith)
place_past hour (e ∷ es) zero f sorted within is less =
    let k = ap (λ (p : ℕ × Observation). p.0) is in
    let h : e.0 < hour = omega arith in
    rw (below e.0 hour h) (omega arith)
place_past hour (e ∷ es) (suc i) f sorted within is less =
    let later = later_at e es i f (sorted_head nat_cmp e.0 (keys_of es) sorted) (omega arith) is in
    let h : e.0 < hour = omega arith in
    let rest = place_past hour es i f (sorted_tail nat_cmp e.0 (keys_of es) sorted) (omega arith) is less in
    rw (below e.0 hour h) (omega arith)

pub place_up_to : (hour : ℕ) (es : List (ℕ × Observation)) (i : ℕ) (f : ℕ × Observation) → i < length es → f ≡ get_or es i f → hour ≤ f.0 → place_of hour es ≤ i
place_up_to hour [] i f within is more = absurd (omega arith)
place_up_to hour (e ∷ es) zero f within is more =
    let k = ap (λ (p : ℕ × Observation). p.0) is in
    let h : hour ≤ e.0 = omega arith in
    rw (at_least e.0 hour h) (omega arith)
place_up_to hour (e ∷ es) (suc i) f within is more =
    let rest = place_up_to hour es i f (omega arith) is more in
    elim (nat_lt e.0 hour) as (λ b. cond b (suc (place_of hour es)) 0 ≤ suc i) [ true ↦ omega arith | false ↦ omega arith ]

-- ---- an hour that stands, and one that does not

-- a place that is not the first is one behind an hour that comes before
behind-first : (hour : ℕ) (e : ℕ × Observation) (es : List (ℕ × Observation)) (i : ℕ) → suc i ≡ place_of hour (e ∷ es) → (e.0 < hour) × (i ≡ place_of hour es)
behind-first hour e es i is = at (nat_lt e.0 hour) refl is
  where
    at : (b : Bool) → nat_lt e.0 hour ≡ b → suc i ≡ cond b (suc (place_of hour es)) 0 → (e.0 < hour) × (i ≡ place_of hour es)
    at true less next = (is_below e.0 hour less, omega arith)
    at false _ none = absurd (omega arith)

pub StandsAt-place : (hour : ℕ) (es : List (ℕ × Observation)) (f : ℕ × Observation) (i : ℕ) → i ≡ place_of hour es → i < length es → f ≡ get_or es i f → f.0 ≡ hour → StandsAt hour es i
StandsAt-place hour [] f i is within read same = absurd (omega arith)
StandsAt-place hour (e ∷ es) f zero is within read same = ap (λ (p : ℕ × Observation). p.0) (sym read) ∙ same
StandsAt-place hour (e ∷ es) f (suc i) is within read same =
    let behind = behind-first hour e es i is in (behind.0, StandsAt-place hour es f i behind.1 (omega arith) read same)

pub IsGapAt-end : (hour : ℕ) (es : List (ℕ × Observation)) (i : ℕ) → i ≡ place_of hour es → i ≡ length es → IsGapAt hour es i
IsGapAt-end hour [] zero is end = tt
IsGapAt-end hour [] (suc i) is end = absurd (omega arith)
IsGapAt-end hour (e ∷ es) zero is end = absurd (omega arith)
IsGapAt-end hour (e ∷ es) (suc i) is end =
    let behind = behind-first hour e es i is in (behind.0, IsGapAt-end hour es i behind.1 (omega arith))

pub IsGapAt-place : (hour : ℕ) (es : List (ℕ × Observation)) (f : ℕ × Observation) (i : ℕ) → i ≡ place_of hour es → i < length es → f ≡ get_or es i f → f.0 ≢ hour → IsGapAt hour es i
IsGapAt-place hour [] f i is within read other = absurd (omega arith)
IsGapAt-place hour (e ∷ es) f zero is within read other =
    let k = ap (λ (p : ℕ × Observation). p.0) read in
    let at : (b : Bool) → nat_lt e.0 hour ≡ b → 0 ≡ cond b (suc (place_of hour es)) 0 → hour < e.0 =
    elim [
      | true ↦ λ _ none. absurd (omega arith)
      | false ↦ λ more _. let h = not_below e.0 hour more in omega arith
    ]
    in
    at (nat_lt e.0 hour) refl is
IsGapAt-place hour (e ∷ es) f (suc i) is within read other =
    let behind = behind-first hour e es i is in (behind.0, IsGapAt-place hour es f i behind.1 (omega arith) read other)

-- ---- rising hours are rising rows

both_true : (a b : Bool) → a ≡ true → b ≡ true → (a && b) ≡ true
both_true true b h k = k
both_true false b h k = cc

pub rows-rise : (monitor : MonitorId) (es : List (ℕ × Observation)) → IsStrictlySortedBy nat_cmp (keys_of es) → rises observation_rank (rows_of monitor es) ≡ true
rows-rise monitor [] sorted = refl
rows-rise monitor (e ∷ es) sorted = from e es sorted
  where
    from : (e : ℕ × Observation) (es : List (ℕ × Observation)) → IsStrictlySortedBy nat_cmp (keys_of (e ∷ es)) → rises_from observation_rank (record { monitor = monitor; hour = e.0 }, e.1) (rows_of monitor es) ≡ true
    from e [] sorted = refl
    from e (f ∷ es) sorted =
        both_true _ _ (before_hour monitor e.0 f.0 ∙ below e.0 f.0 (is_less e.0 f.0 (sorted_head nat_cmp e.0 (keys_of (f ∷ es)) sorted).0))
        (from f es (sorted_tail nat_cmp e.0 (keys_of (f ∷ es)) sorted))

hours_later : (monitor : MonitorId) (hour : ℕ) (es : List (ℕ × Observation)) → AllByRecursion (λ row. comes_before (observation_numbers (record { monitor = monitor; hour = hour })) (observation_rank row) ≡ true) (rows_of monitor es) → AllByRecursion (λ y. nat_cmp hour y ≡ Less) (keys_of es)
hours_later monitor hour [] all = tt
hours_later monitor hour (e ∷ es) all =
    (less_is hour e.0 (is_below hour e.0 (sym (before_hour monitor hour e.0) ∙ all.0)), hours_later monitor hour es all.1)

pub hours-rise : (monitor : MonitorId) (es : List (ℕ × Observation)) → rises observation_rank (rows_of monitor es) ≡ true → IsStrictlySortedBy nat_cmp (keys_of es)
unfolding IsStrictlySortedBy
hours-rise monitor [] rising = tt
hours-rise monitor (e ∷ es) rising =
    (hours_later monitor e.0 es (all_later observation_rank (record { monitor = monitor; hour = e.0 }, e.1) (rows_of monitor es) rising), hours-rise monitor es (rest (rows_of monitor es) rising))
  where
    second : (a b : Bool) → (a && b) ≡ true → b ≡ true
    second true b h = h
    second false b h = cc

    rest : (rows : List (ObsKey × Observation)) → rises_from observation_rank (record { monitor = monitor; hour = e.0 }, e.1) rows ≡ true → rises observation_rank rows ≡ true
    rest [] h = refl
    rest (row ∷ rows) h = second _ _ h

-- the hours whose rows come of a change rise
pub put-rises : (key : ObsKey) (content : Observation) (es fs : List (ℕ × Observation)) → IsStrictlySortedBy nat_cmp (keys_of es) → rows_of key.monitor fs ≡ with_row observation_rank (key, content) (rows_of key.monitor es) → IsStrictlySortedBy nat_cmp (keys_of fs)
put-rises key content es fs sorted is =
    hours-rise key.monitor fs (ap (rises observation_rank) is ∙ with_row-rises observation_rank (key, content) (rows_of key.monitor es) (rows-rise key.monitor es sorted))

pub drop-rises : (key : ObsKey) (es fs : List (ℕ × Observation)) → IsStrictlySortedBy nat_cmp (keys_of es) → rows_of key.monitor fs ≡ without_row observation_rank (observation_numbers key) (rows_of key.monitor es) → IsStrictlySortedBy nat_cmp (keys_of fs)
drop-rises key es fs sorted is =
    hours-rise key.monitor fs (ap (rises observation_rank) is ∙ without_row-rises observation_rank (observation_numbers key) (rows_of key.monitor es) (rows-rise key.monitor es sorted))

module _ (monitor : MonitorId) (hour : ℕ) (content : Observation) where
  -- ---- where the hour stands

  pub content_at-stands : (es : List (ℕ × Observation)) (i : ℕ) (f : ℕ × Observation) → StandsAt hour es i → f ≡ get_or es i f → content_at (record { monitor = monitor; hour = hour }) (rows_of monitor es) ≡ Some f.1
  content_at-stands [] i f h is = absurd h
  content_at-stands (e ∷ es) zero f h is =
      let key : ObsKey = record { monitor = monitor; hour = hour } in
      ap (λ b. option_map content_of (cond b (Some (record { monitor = monitor; hour = e.0 }, e.1)) (row_at observation_rank (observation_numbers key) (rows_of monitor es)))) (same_hour monitor e.0 hour ∙ is_same_number e.0 hour h)
      ∙ ap (λ (p : ℕ × Observation). Some p.1) (sym is)
  content_at-stands (e ∷ es) (suc i) f h is =
      let key : ObsKey = record { monitor = monitor; hour = hour } in
      ap (λ b. option_map content_of (cond b (Some (record { monitor = monitor; hour = e.0 }, e.1)) (row_at observation_rank (observation_numbers key) (rows_of monitor es)))) (same_hour monitor e.0 hour ∙ not_same e.0 hour h.0)
      ∙ content_at-stands es i f h.1 is

  pub stands-is_some : (es : List (ℕ × Observation)) (i : ℕ) → StandsAt hour es i → is_some (content_at (record { monitor = monitor; hour = hour }) (rows_of monitor es)) ≡ true
  stands-is_some [] i h = absurd h
  stands-is_some (e ∷ es) zero h = ap is_some (content_at-stands (e ∷ es) zero e h refl)
  stands-is_some (e ∷ es) (suc i) h =
      let key : ObsKey = record { monitor = monitor; hour = hour } in
      ap (λ b. is_some (option_map content_of (cond b (Some (record { monitor = monitor; hour = e.0 }, e.1)) (row_at observation_rank (observation_numbers key) (rows_of monitor es))))) (same_hour monitor e.0 hour ∙ not_same e.0 hour h.0)
      ∙ stands-is_some es i h.1

  step_over : (e : ℕ × Observation) (rows : List (ObsKey × Observation)) → e.0 < hour → with_row observation_rank (record { monitor = monitor; hour = hour }, content) ((record { monitor = monitor; hour = e.0 }, e.1) ∷ rows) ≡ (record { monitor = monitor; hour = e.0 }, e.1) ∷ with_row observation_rank (record { monitor = monitor; hour = hour }, content) rows
  step_over e rows less =
      let row : ObsKey × Observation = (record { monitor = monitor; hour = hour }, content) in
      let first : ObsKey × Observation = (record { monitor = monitor; hour = e.0 }, e.1) in
      let rest = with_row observation_rank row rows in
      ap (λ b. cond b (row ∷ first ∷ rows) (cond (is_same (observation_rank row) (observation_rank first)) (row ∷ rows) (first ∷ rest))) (before_hour monitor hour e.0 ∙ at_least hour e.0 (omega arith))
      ∙ ap (λ b. cond b (row ∷ rows) (first ∷ rest)) (same_hour monitor hour e.0 ∙ not_same_back hour e.0 less)
    where
      not_same_back : (a b : ℕ) → b < a → (a == b) ≡ false
      not_same_back a b h = grind (arith, nat_tests)

  pub set-stands : (es : List (ℕ × Observation)) (i : ℕ) → StandsAt hour es i → rows_of monitor (set es i (hour, content)) ≡ with_row observation_rank (record { monitor = monitor; hour = hour }, content) (rows_of monitor es)
  set-stands [] i h = absurd h
  set-stands (e ∷ es) zero h =
      let row : ObsKey × Observation = (record { monitor = monitor; hour = hour }, content) in
      let first : ObsKey × Observation = (record { monitor = monitor; hour = e.0 }, e.1) in
      let rest = with_row observation_rank row (rows_of monitor es) in
      sym
      (ap (λ b. cond b (row ∷ first ∷ rows_of monitor es) (cond (is_same (observation_rank row) (observation_rank first)) (row ∷ rows_of monitor es) (first ∷ rest))) (before_hour monitor hour e.0 ∙ at_least hour e.0 (omega arith))
      ∙ ap (λ b. cond b (row ∷ rows_of monitor es) (first ∷ rest)) (same_hour monitor hour e.0 ∙ is_same_number hour e.0 (sym h)))
  set-stands (e ∷ es) (suc i) h =
      ap (λ (l : List (ObsKey × Observation)). (record { monitor = monitor; hour = e.0 }, e.1) ∷ l) (set-stands es i h.1)
      ∙ sym (step_over e (rows_of monitor es) h.0)

  pub insert-gap : (es : List (ℕ × Observation)) (i : ℕ) → IsGapAt hour es i → rows_of monitor (take i es ++ ((hour, content) ∷ drop i es)) ≡ with_row observation_rank (record { monitor = monitor; hour = hour }, content) (rows_of monitor es)
  insert-gap [] zero h = refl
  insert-gap [] (suc i) h = absurd h
  insert-gap (e ∷ es) zero h =
      let row : ObsKey × Observation = (record { monitor = monitor; hour = hour }, content) in
      let first : ObsKey × Observation = (record { monitor = monitor; hour = e.0 }, e.1) in
      let rest = with_row observation_rank row (rows_of monitor es) in
      ap (λ b. cond b (row ∷ first ∷ rows_of monitor es) (cond (is_same (observation_rank row) (observation_rank first)) (row ∷ rows_of monitor es) (first ∷ rest))) (sym (before_hour monitor hour e.0 ∙ below hour e.0 h))
  insert-gap (e ∷ es) (suc i) h =
      ap (λ (l : List (ObsKey × Observation)). (record { monitor = monitor; hour = e.0 }, e.1) ∷ l) (insert-gap es i h.1)
      ∙ sym (step_over e (rows_of monitor es) h.0)

module _ (monitor : MonitorId) (hour : ℕ) where
  -- those behind a later hour, or its own, are others
  others : (e : ℕ × Observation) (es : List (ℕ × Observation)) → hour ≤ e.0 → AllByRecursion (λ y. nat_cmp e.0 y ≡ Less) (keys_of es) → AllByRecursion (λ row. is_same (observation_rank row) (observation_numbers (record { monitor = monitor; hour = hour })) ≡ false) (rows_of monitor es)
  others e [] least all = tt
  others e (x ∷ es) least all =
      let less = is_less e.0 x.0 all.0 in
      (same_hour monitor x.0 hour ∙ apart x.0 hour (omega arith), others e es least all.1)
    where
      apart : (a b : ℕ) → b < a → (a == b) ≡ false
      apart a b h = grind (arith, nat_tests)

  pub remove-stands : (es : List (ℕ × Observation)) (i : ℕ) → IsStrictlySortedBy nat_cmp (keys_of es) → StandsAt hour es i → rows_of monitor (take i es ++ drop (suc i) es) ≡ without_row observation_rank (observation_numbers (record { monitor = monitor; hour = hour })) (rows_of monitor es)
  remove-stands [] i sorted h = absurd h
  remove-stands (e ∷ es) zero sorted h =
      let key : ObsKey = record { monitor = monitor; hour = hour } in
      let rest = without_row observation_rank (observation_numbers key) (rows_of monitor es) in
      sym
      (ap (λ b. cond (not b) ((record { monitor = monitor; hour = e.0 }, e.1) ∷ rest) rest) (same_hour monitor e.0 hour ∙ is_same_number e.0 hour h)
      ∙ without_row-none observation_rank (observation_numbers key) (rows_of monitor es) (others e es (omega arith) (sorted_head nat_cmp e.0 (keys_of es) sorted)))
  remove-stands (e ∷ es) (suc i) sorted h =
      let key : ObsKey = record { monitor = monitor; hour = hour } in
      let rest = without_row observation_rank (observation_numbers key) (rows_of monitor es) in
      ap (λ (l : List (ObsKey × Observation)). (record { monitor = monitor; hour = e.0 }, e.1) ∷ l) (remove-stands es i (sorted_tail nat_cmp e.0 (keys_of es) sorted) h.1)
      ∙ sym (ap (λ b. cond (not b) ((record { monitor = monitor; hour = e.0 }, e.1) ∷ rest) rest) (same_hour monitor e.0 hour ∙ not_same e.0 hour h.0))

  -- ---- where it does not

  pub content_at-gap : (es : List (ℕ × Observation)) (i : ℕ) → IsStrictlySortedBy nat_cmp (keys_of es) → IsGapAt hour es i → content_at (record { monitor = monitor; hour = hour }) (rows_of monitor es) ≡ None
  content_at-gap es i sorted gap =
      ap (option_map content_of) (row_at-none observation_rank (observation_numbers (record { monitor = monitor; hour = hour })) (rows_of monitor es) (all_apart es i sorted gap))
    where
      apart : (a b : ℕ) → b < a → (a == b) ≡ false
      apart a b h = grind (arith, nat_tests)

      all_apart : (es : List (ℕ × Observation)) (i : ℕ) → IsStrictlySortedBy nat_cmp (keys_of es) → IsGapAt hour es i → AllByRecursion (λ row. is_same (observation_rank row) (observation_numbers (record { monitor = monitor; hour = hour })) ≡ false) (rows_of monitor es)
      all_apart [] i sorted gap = tt
      all_apart (e ∷ es) zero sorted gap =
          (same_hour monitor e.0 hour ∙ apart e.0 hour gap, others e es (omega arith) (sorted_head nat_cmp e.0 (keys_of es) sorted))
      all_apart (e ∷ es) (suc i) sorted gap =
          (same_hour monitor e.0 hour ∙ not_same e.0 hour gap.0, all_apart es i (sorted_tail nat_cmp e.0 (keys_of es) sorted) gap.1)

-- as contracts see the hours
pub absent-at : (key : ObsKey) (es seen : List (ℕ × Observation)) (i : ℕ) → IsStrictlySortedBy nat_cmp (keys_of es) → IsGapAt key.hour es i → es ≡ seen → content_at key (rows_of key.monitor seen) ≡ None
absent-at key es seen i sorted gap is = subst (λ (hs : List (ℕ × Observation)). content_at key (rows_of key.monitor hs) ≡ None) is (content_at-gap key.monitor key.hour es i sorted gap)

-- ---- the hours between two hours

from_fails : (from end hour : ℕ) → hour < from → (nat_le from hour && nat_lt hour end) ≡ false
from_fails from end hour h = grind (arith, nat_tests)

end_fails : (from end hour : ℕ) → end ≤ hour → (nat_le from hour && nat_lt hour end) ≡ false
end_fails from end hour h = grind (arith, nat_tests)

passes : (from end hour : ℕ) → from ≤ hour → hour < end → (nat_le from hour && nat_lt hour end) ≡ true
passes from end hour h k = grind (arith, nat_tests)

past_end : (from end : ℕ) (e : ℕ × Observation) (es : List (ℕ × Observation)) → end ≤ e.0 → AllByRecursion (λ y. nat_cmp e.0 y ≡ Less) (keys_of es) → filter (between from end) es ≡ []
past_end from end e [] more all = refl
past_end from end e (x ∷ es) more all =
    let h = is_less e.0 x.0 all.0 in
    ap (λ b. cond b (x ∷ filter (between from end) es) (filter (between from end) es)) (end_fails from end x.0 (omega arith))
    ∙ past_end from end e es more all.1

up_to_end : (from end : ℕ) (es : List (ℕ × Observation)) → IsStrictlySortedBy nat_cmp (keys_of es) → AllByRecursion (λ y. from ≤ y) (keys_of es) → take (place_of end es) es ≡ filter (between from end) es
up_to_end from end [] sorted all = refl
up_to_end from end (e ∷ es) sorted all =
    let at : (b : Bool) → nat_lt e.0 end ≡ b → take (cond b (suc (place_of end es)) 0) (e ∷ es) ≡ filter (between from end) (e ∷ es) =
    elim [
      | true ↦ λ less.
          ap (λ (l : List (ℕ × Observation)). e ∷ l) (up_to_end from end es (sorted_tail nat_cmp e.0 (keys_of es) sorted) all.1)
          ∙ ap (λ b. cond b (e ∷ filter (between from end) es) (filter (between from end) es)) (sym (passes from end e.0 all.0 (is_below e.0 end less)))
      | false ↦ λ more.
          sym
          (ap (λ b. cond b (e ∷ filter (between from end) es) (filter (between from end) es)) (end_fails from end e.0 (not_below e.0 end more))
          ∙ past_end from end e es (not_below e.0 end more) (sorted_head nat_cmp e.0 (keys_of es) sorted))
    ]
    in
    at (nat_lt e.0 end) refl

later_all : (from : ℕ) (e : ℕ × Observation) (es : List (ℕ × Observation)) → from ≤ e.0 → AllByRecursion (λ y. nat_cmp e.0 y ≡ Less) (keys_of es) → AllByRecursion (λ y. from ≤ y) (keys_of es)
later_all from e [] more all = tt
later_all from e (x ∷ es) more all =
    let h = is_less e.0 x.0 all.0 in (omega arith, later_all from e es more all.1)

pub filter-between : (from end : ℕ) (es : List (ℕ × Observation)) → IsStrictlySortedBy nat_cmp (keys_of es) → take (place_of end (drop (place_of from es) es)) (drop (place_of from es) es) ≡ filter (between from end) es
filter-between from end [] sorted = refl
filter-between from end (e ∷ es) sorted =
    let at : (b : Bool) → nat_lt e.0 from ≡ b → take (place_of end (drop (cond b (suc (place_of from es)) 0) (e ∷ es))) (drop (cond b (suc (place_of from es)) 0) (e ∷ es)) ≡ filter (between from end) (e ∷ es) =
    elim [
      | true ↦ λ less.
          filter-between from end es (sorted_tail nat_cmp e.0 (keys_of es) sorted)
          ∙ ap (λ b. cond b (e ∷ filter (between from end) es) (filter (between from end) es)) (sym (from_fails from end e.0 (is_below e.0 from less)))
      | false ↦ λ more.
          let later = not_below e.0 from more in
          up_to_end from end (e ∷ es) sorted (later, later_all from e es later (sorted_head nat_cmp e.0 (keys_of es) sorted))
    ]
    in
    at (nat_lt e.0 from) refl

-- the sorted hours behind the first ones
pub sorted-drop : (n : ℕ) (es : List (ℕ × Observation)) → IsStrictlySortedBy nat_cmp (keys_of es) → IsStrictlySortedBy nat_cmp (keys_of (drop n es))
sorted-drop zero es sorted = sorted
sorted-drop (suc n) [] sorted = sorted
sorted-drop (suc n) (e ∷ es) sorted = sorted-drop n es (sorted_tail nat_cmp e.0 (keys_of es) sorted)
