-- A change of one stretch's rows is the change of the list of all rows.
use Rattle.std.proofs.Common.{◌≡◌, ℕ, ◌+◌, ◌-◌, ◌/◌, ◌<◌, ◌≤◌, ◌⊎◌, inl, inr, Bool, true, false, not, ◌&&◌, nat_eq, length, Option, List, [], ◌∷◌, ◌++◌, map, cond, Some, None, unwrap_or, refl, ap, sym, subst, ◌∙◌, append_assoc, arith}
use Rattle.std.specs.Prelude.{nat_le, nat_lt, filter, option_map}
use Rattle.std.specs.declared.cmp.Reverse.{Reverse}
use Rattle.std.specs.declared.cmp.Ordering.{Ordering}
use Rattle.std.specs.declared.cmp.Ordering.TheVariants.{Less, Equal, Greater}
use Rattle.std.specs.Ordering.{nat_cmp, is_eq, is_le, is_lt, match_ordering, ordering_then, ordering_reverse}
use Rattle.std.specs.List.{AllByRecursion}
use Rattle.std.specs.List.Sorted.{IsStrictlySortedBy}
use Rattle.std.specs.Map.{lookup, keys_of, set_value}
use Rattle.std.specs.BTreeMap.{insert_entry, is_at}
use Rattle.std.proofs.lemmas.Bool.Decides.{nat_tests}
use Rattle.std.proofs.lemmas.List.{append-nil, map-append}
use Rattle.std.proofs.lemmas.List.Elements.{filter-append}
use Rattle.std.proofs.lemmas.Map.{NonePasses, lookup-none}
use Rattle.std.proofs.lemmas.Map.Keys.{sorted_head, sorted_tail}
use Rattle.std.proofs.lemmas.Map.Steps.{set_value_same}
use Rattle.aq_base.specs.declared.monitor.MonitorId.{MonitorId}
use Rattle.aq_base.specs.declared.observation.ObsKey.{ObsKey}
use Rattle.aq_base.specs.declared.observation.Observation.{Observation}
use Rattle.aq_rules.specs.Office.Monitors.{is_same_monitor}
use Rattle.aq_rules.specs.Office.Office.{observation_numbers, observation_rank, comes_before, content_of, row_at, with_row, without_row, rises}
use Rattle.aq_rules.specs.Office.RowOrder.{with_row-rises, without_row-rises}
use Rattle.aq_shelf.specs.declared.stretch.Stretch.{Stretch}
use Rattle.aq_shelf.specs.Standing.{content_at, in_span, hour_content, observations_in}
use Rattle.aq_shelf.specs.Stretches.{stretch_of, rows_of, rows_in, rows_under, joined, LieIn, AreStretches, between, hours_between}
use Rattle.aq_shelf.proofs.Order.{stretch_cmp, stretch_total, monitor_cmp, one_stretch, earlier_stretch, is_eq-monitor_cmp}
use Rattle.aq_rules.proofs.RisingRows.{with_row-past, with_row-before, without_row-past, without_row-before, row_at-none, row_at-past, row_at-before, others-before, others-after, all-with_row, all-without_row}

abbrev Rows : Type 0
Rows = List (ObsKey × Observation)

abbrev Hours : Type 0
Hours = List (ℕ × Observation)

abbrev Stretches : Type 0
Stretches = List (Reverse Stretch × Hours)

-- ---- the order of the map, and what it finds

-- the latest first
abbrev pub back : Reverse Stretch → Reverse Stretch → Ordering
back x y = stretch_cmp y.0 x.0

abbrev pub is_stretch : Stretch → Reverse Stretch → Bool
is_stretch stretch = is_at (back (record { 0 = stretch }))

-- what the map has for the stretch of a key
abbrev pub hours_at : ObsKey → Stretches → Option Hours
hours_at key ss = lookup (is_stretch (stretch_of key)) ss

abbrev Apart : Stretches → Type 0
Apart ss = AllByRecursion (λ (s : Reverse Stretch × Hours). LieIn s.0.0 (rows_in s)) ss

abbrev Falls : Stretches → Type 0
Falls ss = IsStrictlySortedBy back (keys_of ss)

-- each of the stretches is earlier
abbrev AreEarlier : Stretch → Stretches → Type 0
AreEarlier stretch ss = AllByRecursion (λ (k : Reverse Stretch). stretch_cmp k.0 stretch ≡ Less) (keys_of ss)

-- each row comes before the key, or behind it
abbrev pub AreBefore : ObsKey → Rows → Type 0
AreBefore key rows = AllByRecursion (λ (row : ObsKey × Observation). comes_before (observation_rank row) (observation_numbers key) ≡ true) rows

abbrev pub AreBehind : ObsKey → Rows → Type 0
AreBehind key rows = AllByRecursion (λ (row : ObsKey × Observation). comes_before (observation_numbers key) (observation_rank row) ≡ true) rows

all_append : {E : Type 0} (P : E → Type 0) (es fs : List E) → AllByRecursion P es → AllByRecursion P fs → AllByRecursion P (es ++ fs)
all_append P [] fs all more = more
all_append P (e ∷ es) fs all more = (all.0, all_append P es fs all.1 more)

earlier_than : (a b : Stretch) (ss : Stretches) → stretch_cmp a b ≡ Less → AreEarlier a ss → AreEarlier b ss
earlier_than a b [] less all = tt
earlier_than a b (s ∷ ss) less all = (stretch_total.trans s.0.0 a b all.0 less, earlier_than a b ss less all.1)

none_at : (stretch : Stretch) (ss : Stretches) → AreEarlier stretch ss → lookup (is_stretch stretch) ss ≡ None
none_at stretch ss all = lookup-none (is_stretch stretch) ss (none stretch ss all)
  where
    none : (stretch : Stretch) (ss : Stretches) → AreEarlier stretch ss → NonePasses (is_stretch stretch) ss
    none stretch [] all = tt
    none stretch (s ∷ ss) all = (ap is_eq all.0, none stretch ss all.1)

later_from : (a b : Stretch) → stretch_cmp a b ≡ Greater → stretch_cmp b a ≡ Less
later_from a b h = stretch_total.antisymm b a ∙ ap ordering_reverse h

-- ---- the rows of earlier and later stretches

lie_before : (key : ObsKey) (stretch : Stretch) (rows : Rows) → LieIn stretch rows → stretch_cmp stretch (stretch_of key) ≡ Less → AreBefore key rows
lie_before key stretch [] lie less = tt
lie_before key stretch (row ∷ rows) lie less =
    (earlier_stretch row.0 key (ap (λ (s : Stretch). stretch_cmp s (stretch_of key)) lie.0 ∙ less), lie_before key stretch rows lie.1 less)

lie_behind : (key : ObsKey) (stretch : Stretch) (rows : Rows) → LieIn stretch rows → stretch_cmp (stretch_of key) stretch ≡ Less → AreBehind key rows
lie_behind key stretch [] lie less = tt
lie_behind key stretch (row ∷ rows) lie less =
    (earlier_stretch key row.0 (ap (stretch_cmp (stretch_of key)) lie.0 ∙ less), lie_behind key stretch rows lie.1 less)

joined_before : (key : ObsKey) (ss : Stretches) → Apart ss → AreEarlier (stretch_of key) ss → AreBefore key (joined ss)
joined_before key [] apart all = tt
joined_before key (s ∷ ss) apart all =
    all_append (λ (row : ObsKey × Observation). comes_before (observation_rank row) (observation_numbers key) ≡ true) (joined ss) (rows_in s)
    (joined_before key ss apart.1 all.1) (lie_before key s.0.0 (rows_in s) apart.0 all.0)

module _ (key : ObsKey) (s : Reverse Stretch × Hours) (ss : Stretches) (falls : Falls (s ∷ ss)) where
  rest_falls : Falls ss
  rest_falls = sorted_tail back s.0 (keys_of ss) falls

  -- where the key's stretch is the first, or later
  rest_earlier : stretch_cmp s.0.0 (stretch_of key) ≡ Equal → AreEarlier (stretch_of key) ss
  rest_earlier same = subst (λ (k : Stretch). AreEarlier k ss) (one_stretch s.0.0 (stretch_of key) same) (sorted_head back s.0 (keys_of ss) falls)

  all_earlier : stretch_cmp s.0.0 (stretch_of key) ≡ Less → AreEarlier (stretch_of key) (s ∷ ss)
  all_earlier less = (less, earlier_than s.0.0 (stretch_of key) ss less (sorted_head back s.0 (keys_of ss) falls))

-- ---- a look-up

row_at-joined : (key : ObsKey) (ss : Stretches) → Apart ss → Falls ss → row_at observation_rank (observation_numbers key) (joined ss) ≡ row_at observation_rank (observation_numbers key) (rows_of key.monitor (unwrap_or (hours_at key ss) []))
row_at-joined key [] apart falls = refl
row_at-joined key (s ∷ ss) apart falls =
    let numbers = observation_numbers key in
    let find = row_at observation_rank numbers in
    let at : (o : Ordering) → stretch_cmp s.0.0 (stretch_of key) ≡ o → find (joined ss ++ rows_in s) ≡ find (rows_of key.monitor (unwrap_or (cond (is_eq o) (Some s.1) (hours_at key ss)) [])) =
    elim [
      | Less ↦ λ less.
          let earlier = all_earlier key s ss falls less in
          row_at-none observation_rank numbers (joined (s ∷ ss)) (others-before observation_rank numbers (joined (s ∷ ss)) (joined_before key (s ∷ ss) apart earlier))
          ∙ ap (λ (o : Option Hours). find (rows_of key.monitor (unwrap_or o []))) (sym (none_at (stretch_of key) ss earlier.1))
      | Equal ↦ λ same.
          row_at-past observation_rank numbers (joined ss) (rows_in s) (others-before observation_rank numbers (joined ss) (joined_before key ss apart.1 (rest_earlier key s ss falls same)))
          ∙ ap (λ (k : Stretch). find (rows_of k.monitor s.1)) (one_stretch s.0.0 (stretch_of key) same)
      | Greater ↦ λ later.
          row_at-before observation_rank numbers (joined ss) (rows_in s) (others-after observation_rank numbers (rows_in s) (lie_behind key s.0.0 (rows_in s) apart.0 (later_from s.0.0 (stretch_of key) later)))
          ∙ row_at-joined key ss apart.1 (rest_falls key s ss falls)
    ]
    in
    at (stretch_cmp s.0.0 (stretch_of key)) refl

content_at-joined : (key : ObsKey) (ss : Stretches) (o : Option Hours) → AreStretches ss → Falls ss → hours_at key ss ≡ o → content_at key (joined ss) ≡ content_at key (rows_of key.monitor (unwrap_or o []))
content_at-joined key ss o are falls found =
    ap (option_map content_of) (row_at-joined key ss are.apart falls)
    ∙ ap (λ (o : Option Hours). content_at key (rows_of key.monitor (unwrap_or o []))) found

-- ---- a change of the rows at a key

-- what a change of the rows of the key's stretch keeps, and that it leaves the rows of the others
pub record ChangesAt (key : ObsKey) (change : Rows → Rows) : Type 0 where
  pub past : (es fs : Rows) → AreBefore key es → change (es ++ fs) ≡ es ++ change fs
  pub before : (es fs : Rows) → AreBehind key fs → change (es ++ fs) ≡ change es ++ fs
  pub lie : (rows : Rows) → LieIn (stretch_of key) rows → LieIn (stretch_of key) (change rows)
  pub rise : (rows : Rows) → rises observation_rank rows ≡ true → rises observation_rank (change rows) ≡ true

pub changes-put : (key : ObsKey) (content : Observation) → ChangesAt key (with_row observation_rank (key, content))
changes-put key content = record {
  past = λ es fs all. with_row-past observation_rank (key, content) es fs all;
  before = λ es fs all. with_row-before observation_rank (key, content) es fs all;
  lie = λ rows lie. all-with_row observation_rank (λ (row : ObsKey × Observation). stretch_of row.0 ≡ stretch_of key) (key, content) rows refl lie;
  rise = λ rows rising. with_row-rises observation_rank (key, content) rows rising;
}

pub changes-drop : (key : ObsKey) → ChangesAt key (without_row observation_rank (observation_numbers key))
changes-drop key = record {
  past = λ es fs all. without_row-past observation_rank (observation_numbers key) es fs (others-before observation_rank (observation_numbers key) es all);
  before = λ es fs all. without_row-before observation_rank (observation_numbers key) es fs (others-after observation_rank (observation_numbers key) fs all);
  lie = λ rows lie. all-without_row observation_rank (λ (row : ObsKey × Observation). stretch_of row.0 ≡ stretch_of key) (observation_numbers key) rows lie;
  rise = λ rows rising. without_row-rises observation_rank (observation_numbers key) rows rising;
}

module _ (key : ObsKey) (change : Rows → Rows) (law : ChangesAt key change) where
  pub change-joined : (ss : Stretches) (hs new : Hours) → Apart ss → Falls ss → hours_at key ss ≡ Some hs → rows_of key.monitor new ≡ change (rows_of key.monitor hs) → joined (set_value (is_stretch (stretch_of key)) ss new) ≡ change (joined ss)
  change-joined [] hs new apart falls found is = cc
  change-joined (s ∷ ss) hs new apart falls found is =
      let set = set_value (is_stretch (stretch_of key)) ss new in
      let at : (o : Ordering) → stretch_cmp s.0.0 (stretch_of key) ≡ o → cond (is_eq o) (Some s.1) (hours_at key ss) ≡ Some hs → joined (cond (is_eq o) ((s.0, new) ∷ ss) (s ∷ set)) ≡ change (joined ss ++ rows_in s) =
      elim [
        | Less ↦ λ less found.
            let none = none_at (stretch_of key) ss (all_earlier key s ss falls less).1 in
            let no : None ≡ Some hs = sym none ∙ found in
            cc
        | Equal ↦ λ same found.
            let one = one_stretch s.0.0 (stretch_of key) same in
            let here : hs ≡ s.1 = cc in
            ap (λ (k : Stretch). joined ss ++ rows_of k.monitor new) one
            ∙ ap (λ (l : Rows). joined ss ++ l) is
            ∙ sym (law.past (joined ss) (rows_of key.monitor hs) (joined_before key ss apart.1 (rest_earlier key s ss falls same)))
            ∙ ap (λ (h : Hours). change (joined ss ++ rows_of key.monitor h)) here
            ∙ ap (λ (k : Stretch). change (joined ss ++ rows_of k.monitor s.1)) (sym one)
        | Greater ↦ λ later found.
            ap (λ (l : Rows). l ++ rows_in s) (change-joined ss hs new apart.1 (rest_falls key s ss falls) found is)
            ∙ sym (law.before (joined ss) (rows_in s) (lie_behind key s.0.0 (rows_in s) apart.0 (later_from s.0.0 (stretch_of key) later)))
      ]
      in
      at (stretch_cmp s.0.0 (stretch_of key)) refl found

-- ---- where each row lies

lie_found : (key : ObsKey) (ss : Stretches) (hs : Hours) → Apart ss → hours_at key ss ≡ Some hs → LieIn (stretch_of key) (rows_of key.monitor hs)
lie_found key [] hs apart found = cc
lie_found key (s ∷ ss) hs apart found =
    let at : (o : Ordering) → stretch_cmp s.0.0 (stretch_of key) ≡ o → cond (is_eq o) (Some s.1) (hours_at key ss) ≡ Some hs → LieIn (stretch_of key) (rows_of key.monitor hs) =
    elim [
      | Less ↦ λ _ found. lie_found key ss hs apart.1 found
      | Equal ↦ λ same found.
          let here : s.1 ≡ hs = cc in
          subst (λ (h : Hours). LieIn (stretch_of key) (rows_of key.monitor h)) here
          (subst (λ (k : Stretch). LieIn k (rows_of k.monitor s.1)) (one_stretch s.0.0 (stretch_of key) same) apart.0)
      | Greater ↦ λ _ found. lie_found key ss hs apart.1 found
    ]
    in
    at (stretch_cmp s.0.0 (stretch_of key)) refl found

apart-set : (key : ObsKey) (new : Hours) (ss : Stretches) → LieIn (stretch_of key) (rows_of key.monitor new) → Apart ss → Apart (set_value (is_stretch (stretch_of key)) ss new)
apart-set key new [] lie apart = tt
apart-set key new (s ∷ ss) lie apart =
    let set = set_value (is_stretch (stretch_of key)) ss new in
    let at : (o : Ordering) → stretch_cmp s.0.0 (stretch_of key) ≡ o → Apart (cond (is_eq o) ((s.0, new) ∷ ss) (s ∷ set)) =
    elim [
      | Less ↦ λ _. (apart.0, apart-set key new ss lie apart.1)
      | Equal ↦ λ same. (subst (λ (k : Stretch). LieIn k (rows_of k.monitor new)) (sym (one_stretch s.0.0 (stretch_of key) same)) lie, apart.1)
      | Greater ↦ λ _. (apart.0, apart-set key new ss lie apart.1)
    ]
    in
    at (stretch_cmp s.0.0 (stretch_of key)) refl

apart-insert : (key : ObsKey) (new : Hours) (ss : Stretches) → LieIn (stretch_of key) (rows_of key.monitor new) → Apart ss → Apart (insert_entry back ss (record { 0 = stretch_of key }) new)
apart-insert key new [] lie apart = (lie, tt)
apart-insert key new (s ∷ ss) lie apart =
    let k : Reverse Stretch = record { 0 = stretch_of key } in
    let at : (o : Ordering) → stretch_cmp s.0.0 (stretch_of key) ≡ o → Apart (match_ordering o ((k, new) ∷ s ∷ ss) ((s.0, new) ∷ ss) (s ∷ insert_entry back ss k new)) =
    elim [
      | Less ↦ λ _. (lie, apart)
      | Equal ↦ λ same. (subst (λ (k : Stretch). LieIn k (rows_of k.monitor new)) (sym (one_stretch s.0.0 (stretch_of key) same)) lie, apart.1)
      | Greater ↦ λ _. (apart.0, apart-insert key new ss lie apart.1)
    ]
    in
    at (stretch_cmp s.0.0 (stretch_of key)) refl

-- ---- the first row of a stretch

put-joined : (key : ObsKey) (content : Observation) (new : Hours) (ss : Stretches) → rows_of key.monitor new ≡ (key, content) ∷ [] → Apart ss → Falls ss → hours_at key ss ≡ None → joined (insert_entry back ss (record { 0 = stretch_of key }) new) ≡ with_row observation_rank (key, content) (joined ss)
put-joined key content new [] is apart falls none = is
put-joined key content new (s ∷ ss) is apart falls none =
    let k : Reverse Stretch = record { 0 = stretch_of key } in
    let put = with_row observation_rank (key, content) in
    let at : (o : Ordering) → stretch_cmp s.0.0 (stretch_of key) ≡ o → cond (is_eq o) (Some s.1) (hours_at key ss) ≡ None → joined (match_ordering o ((k, new) ∷ s ∷ ss) ((s.0, new) ∷ ss) (s ∷ insert_entry back ss k new)) ≡ put (joined ss ++ rows_in s) =
    elim [
      | Less ↦ λ less _.
          let rows = joined (s ∷ ss) in
          ap (λ (l : Rows). rows ++ l) is
          ∙ sym (with_row-past observation_rank (key, content) rows [] (joined_before key (s ∷ ss) apart (all_earlier key s ss falls less)))
          ∙ ap put (append-nil rows)
      | Equal ↦ λ _ none. cc
      | Greater ↦ λ later none.
          ap (λ (l : Rows). l ++ rows_in s) (put-joined key content new ss is apart.1 (rest_falls key s ss falls) none)
          ∙ sym (with_row-before observation_rank (key, content) (joined ss) (rows_in s) (lie_behind key s.0.0 (rows_in s) apart.0 (later_from s.0.0 (stretch_of key) later)))
    ]
    in
    at (stretch_cmp s.0.0 (stretch_of key)) refl none

-- ---- by the stretch that the code computes

module _ (key : ObsKey) (stretch : Stretch) (is : stretch ≡ stretch_of key) (ss : Stretches) (are : AreStretches ss) (falls : Falls ss) where
  pub found-at : (o : Option Hours) → o ≡ lookup (is_stretch stretch) ss → hours_at key ss ≡ o
  found-at o h = ap (λ (k : Stretch). lookup (is_stretch k) ss) (sym is) ∙ sym h

  pub content_at-found : (o : Option Hours) → o ≡ lookup (is_stretch stretch) ss → content_at key (joined ss) ≡ content_at key (rows_of key.monitor (unwrap_or o []))
  content_at-found o h = content_at-joined key ss o are falls (found-at o h)

  -- the first row of a stretch
  module _ (content : Observation) (new : Hours) (ts : Stretches) (rows : rows_of key.monitor new ≡ (key, content) ∷ []) (none : hours_at key ss ≡ None) (put : ts ≡ insert_entry back ss (record { 0 = stretch }) new) where
    at_key : ts ≡ insert_entry back ss (record { 0 = stretch_of key }) new
    at_key = put ∙ ap (λ (k : Stretch). insert_entry back ss (record { 0 = k }) new) is

    pub put-first : joined ts ≡ with_row observation_rank (key, content) (joined ss)
    put-first = ap joined at_key ∙ put-joined key content new ss rows are.apart falls none

    pub AreStretches-first : AreStretches ts
    AreStretches-first = record {
      apart = subst Apart (sym at_key) (apart-insert key new ss (subst (LieIn (stretch_of key)) (sym rows) (refl, tt)) are.apart);
      rising = ap (rises observation_rank) put-first ∙ with_row-rises observation_rank (key, content) (joined ss) are.rising;
    }

  -- what stands after a change
  module _ (change : Rows → Rows) (law : ChangesAt key change) (ts : Stretches) (hs new : Hours) (there : Some hs ≡ lookup (is_stretch stretch) ss) (wrote : ts ≡ set_value (is_stretch stretch) ss new) where
    written : ts ≡ set_value (is_stretch (stretch_of key)) ss new
    written = wrote ∙ ap (λ (k : Stretch). set_value (is_stretch k) ss new) is

    pub changed-joined : rows_of key.monitor new ≡ change (rows_of key.monitor hs) → joined ts ≡ change (joined ss)
    changed-joined same = ap joined written ∙ change-joined key change law ss hs new are.apart falls (found-at (Some hs) there) same

    stays : new ≡ hs → ts ≡ ss
    stays same = written ∙ ap (set_value (is_stretch (stretch_of key)) ss) same ∙ set_value_same (is_stretch (stretch_of key)) ss hs (found-at (Some hs) there)

    pub unchanged-joined : new ≡ hs → joined ts ≡ joined ss
    unchanged-joined same = ap joined (stays same)

    pub AreStretches-change : (rows_of key.monitor new ≡ change (rows_of key.monitor hs)) ⊎ (new ≡ hs) → AreStretches ts
    AreStretches-change = elim [
      | inl same ↦ record {
        apart = subst Apart (sym written) (apart-set key new ss (subst (LieIn (stretch_of key)) (sym same) (law.lie (rows_of key.monitor hs) (lie_found key ss hs are.apart (found-at (Some hs) there)))) are.apart);
        rising = ap (rises observation_rank) (changed-joined same) ∙ law.rise (joined ss) are.rising;
      }
      | inr same ↦ subst AreStretches (sym (stays same)) are
    ]

-- ---- the stretches from the last, which is the first in the order of keys

pub joined_last : (ss : Stretches) (s : Reverse Stretch × Hours) → joined (ss ++ s ∷ []) ≡ rows_in s ++ joined ss
joined_last [] s = sym (append-nil (rows_in s))
joined_last (t ∷ ss) s =
    ap (λ (l : Rows). l ++ rows_in t) (joined_last ss s) ∙ append_assoc (rows_in s) (joined ss) (rows_in t)

pub hours_of_last : (from end : ℕ) (ss : Stretches) (s : Reverse Stretch × Hours) → hours_between from end (ss ++ s ∷ []) ≡ filter (between from end) s.1 ++ hours_between from end ss
hours_of_last from end [] s = sym (append-nil (filter (between from end) s.1))
hours_of_last from end (t ∷ ss) s =
    ap (λ (l : Hours). l ++ filter (between from end) t.1) (hours_of_last from end ss s)
    ∙ append_assoc (filter (between from end) s.1) (hours_between from end ss) (filter (between from end) t.1)

-- a stretch is begun where nothing is left of the one before
pub hours-begun : (from end : ℕ) (left all : Hours) (behind ss : Stretches) (s : Reverse Stretch × Hours) → nat_eq (length left) 0 ≡ true → behind ≡ ss ++ s ∷ [] → left ++ hours_between from end behind ≡ all → filter (between from end) s.1 ++ hours_between from end ss ≡ all
hours-begun from end [] all behind ss s none is rest =
    sym (hours_of_last from end ss s) ∙ ap (hours_between from end) (sym is) ∙ rest
hours-begun from end (h ∷ left) all behind ss s none is rest = some (length (h ∷ left)) none (omega arith)
  where
    some : {P : Type 0} (n : ℕ) → nat_eq n 0 ≡ true → 1 ≤ n → P
    some n h k = absurd (grind (arith, nat_tests))

pub rows-begun : (monitor : Option MonitorId) (left : Hours) (all : Rows) (behind ss : Stretches) (s : Reverse Stretch × Hours) → nat_eq (length left) 0 ≡ true → behind ≡ ss ++ s ∷ [] → rows_under monitor left ++ joined behind ≡ all → rows_in s ++ joined ss ≡ all
rows-begun None left all behind ss s none is rest = sym (joined_last ss s) ∙ ap joined (sym is) ∙ rest
rows-begun (Some m) [] all behind ss s none is rest = sym (joined_last ss s) ∙ ap joined (sym is) ∙ rest
rows-begun (Some m) (h ∷ left) all behind ss s none is rest = some (length (h ∷ left)) none (omega arith)
  where
    some : {P : Type 0} (n : ℕ) → nat_eq n 0 ≡ true → 1 ≤ n → P
    some n h k = absurd (grind (arith, nat_tests))

-- ---- the hours of a span

-- whether a stretch lies among those from the one of hour `from` to the one of hour `end`
abbrev pub is_among : MonitorId → ℕ → ℕ → Reverse Stretch → Bool
is_among monitor from end stretch =
    is_le (stretch_cmp stretch.0 (record { monitor = monitor; number = end / 256 }))
    && not (is_lt (stretch_cmp stretch.0 (record { monitor = monitor; number = from / 256 })))

module _ (monitor : MonitorId) (from end : ℕ) where
  abbrev test : ObsKey × Observation → Bool
  test = in_span monitor from (end - from)

  abbrev hours_in : Rows → Hours
  hours_in rows = map hour_content (filter test rows)

  hours_in-append : (xs ys : Rows) → hours_in (xs ++ ys) ≡ hours_in xs ++ hours_in ys
  hours_in-append xs ys = ap (map hour_content) (filter-append test xs ys) ∙ map-append hour_content (filter test xs) (filter test ys)

  same_end : from ≤ end → from + (end - from) ≡ end
  same_end h = omega arith

  own_rows : (m : MonitorId) (hs : Hours) → from ≤ end → is_same_monitor m monitor ≡ true → hours_in (rows_of m hs) ≡ filter (between from end) hs
  own_rows m [] order same = refl
  own_rows m (h ∷ hs) order same =
      let row : ObsKey × Observation = (record { monitor = m; hour = h.0 }, h.1) in
      let rest = filter test (rows_of m hs) in
      let at : (b : Bool) → map hour_content (cond b (row ∷ rest) rest) ≡ cond b (h ∷ filter (between from end) hs) (filter (between from end) hs) =
      elim [ true ↦ ap (λ (l : Hours). h ∷ l) (own_rows m hs order same) | false ↦ own_rows m hs order same ]
      in
      ap (λ b. map hour_content (cond (b && nat_le from h.0 && nat_lt h.0 (from + (end - from))) (row ∷ rest) rest)) same
      ∙ ap (λ n. map hour_content (cond (nat_le from h.0 && nat_lt h.0 n) (row ∷ rest) rest)) (same_end order)
      ∙ at (nat_le from h.0 && nat_lt h.0 end)

  other_rows : (m : MonitorId) (hs : Hours) → is_same_monitor m monitor ≡ false → hours_in (rows_of m hs) ≡ []
  other_rows m [] apart = refl
  other_rows m (h ∷ hs) apart =
      let row : ObsKey × Observation = (record { monitor = m; hour = h.0 }, h.1) in
      let rest = filter test (rows_of m hs) in
      ap (λ b. map hour_content (cond (b && nat_le from h.0 && nat_lt h.0 (from + (end - from))) (row ∷ rest) rest)) apart
      ∙ other_rows m hs apart

  outside : (n hour : ℕ) → hour / 256 ≡ n → (is_le (nat_cmp n (end / 256)) && not (is_lt (nat_cmp n (from / 256)))) ≡ false → (nat_le from hour && nat_lt hour end) ≡ false
  outside n hour lie none = by_tests (nat_le from hour) (nat_lt hour end) refl refl
    where
      inside : (n hour : ℕ) → hour / 256 ≡ n → nat_le from hour ≡ true → nat_lt hour end ≡ true → (is_le (nat_cmp n (end / 256)) && not (is_lt (nat_cmp n (from / 256)))) ≡ true
      inside n hour lie least less =
          let low : from ≤ hour = grind (arith, nat_tests) in
          let high : hour < end = grind (arith, nat_tests) in
          let first : from / 256 ≤ n = omega arith in
          let last : n ≤ end / 256 = omega arith in
          grind (arith, nat_tests)

      by_tests : (b c : Bool) → nat_le from hour ≡ b → nat_lt hour end ≡ c → (b && c) ≡ false
      by_tests true true least less = sym (inside n hour lie least less) ∙ none
      by_tests true false least less = refl
      by_tests false c least less = refl

  none_inside : (s : Stretch) (hs : Hours) → LieIn s (rows_of s.monitor hs) → (is_le (nat_cmp s.number (end / 256)) && not (is_lt (nat_cmp s.number (from / 256)))) ≡ false → filter (between from end) hs ≡ []
  none_inside s [] lie none = refl
  none_inside s (h ∷ hs) lie none =
      ap (λ b. cond b (h ∷ filter (between from end) hs) (filter (between from end) hs)) (outside s.number h.0 (ap (λ (k : Stretch). k.number) lie.0) none)
      ∙ none_inside s hs lie.1 none

  hours_of_stretch : (s : Reverse Stretch × Hours) → from ≤ end → LieIn s.0.0 (rows_in s) → hours_in (rows_in s) ≡ cond (is_among monitor from end s.0) (filter (between from end) s.1) []
  hours_of_stretch s order lie =
      let n = s.0.0.number in
      let at : (o : Ordering) → is_same_monitor s.0.0.monitor monitor ≡ is_eq o → hours_in (rows_in s) ≡ cond (is_le (ordering_then o (nat_cmp n (end / 256))) && not (is_lt (ordering_then o (nat_cmp n (from / 256))))) (filter (between from end) s.1) [] =
      elim [
        | Less ↦ λ apart. other_rows s.0.0.monitor s.1 apart
        | Equal ↦ λ same.
            let by_test : (b : Bool) → (is_le (nat_cmp n (end / 256)) && not (is_lt (nat_cmp n (from / 256)))) ≡ b → filter (between from end) s.1 ≡ cond b (filter (between from end) s.1) [] =
            elim [ true ↦ λ _. refl | false ↦ λ none. none_inside s.0.0 s.1 lie none ]
            in
            own_rows s.0.0.monitor s.1 order same ∙ by_test (is_le (nat_cmp n (end / 256)) && not (is_lt (nat_cmp n (from / 256)))) refl
        | Greater ↦ λ apart. other_rows s.0.0.monitor s.1 apart
      ]
      in
      at (monitor_cmp s.0.0.monitor monitor) (sym (is_eq-monitor_cmp s.0.0.monitor monitor))

  pub hours-joined : (ss : Stretches) → from ≤ end → Apart ss → hours_between from end (filter (λ (s : Reverse Stretch × Hours). is_among monitor from end s.0) ss) ≡ observations_in monitor from (end - from) (joined ss)
  hours-joined [] order apart = refl
  hours-joined (s ∷ ss) order apart =
      let kept = filter (λ (s : Reverse Stretch × Hours). is_among monitor from end s.0) ss in
      let rest = hours-joined ss order apart.1 in
      let at : (b : Bool) → hours_between from end (cond b (s ∷ kept) kept) ≡ hours_in (joined ss) ++ cond b (filter (between from end) s.1) [] =
      elim [
        | true ↦ ap (λ (l : Hours). l ++ filter (between from end) s.1) rest
        | false ↦ rest ∙ sym (append-nil (hours_in (joined ss)))
      ]
      in
      at (is_among monitor from end s.0)
      ∙ ap (λ (l : Hours). hours_in (joined ss) ++ l) (sym (hours_of_stretch s order apart.0))
      ∙ sym (hours_in-append (joined ss) (rows_in s))
