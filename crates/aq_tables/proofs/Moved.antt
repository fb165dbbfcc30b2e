-- The tables of today, made in a database of nobody or moved from those of before: they tell the same rows.
use Rattle.std.proofs.Common.{◌≡◌, ◌≢◌, ◌≤◌, inl, inr, ◌+◌, ◌==◌, eqb, not, ℕ, zero, suc, List, [], ◌∷◌, ◌++◌, length, map, filter, Bool, true, false, codes, cond, Some, None, MatchBool, find, slice_get, get_or, refl, sym, ap, subst, ◌∙◌, arith}
use Rattle.std.specs.List.{AllByRecursion, position_from}
use Rattle.std.proofs.lemmas.Bool.{false≢true}
use Rattle.std.proofs.lemmas.Bool.Decides.{nat_tests}
use Rattle.std.proofs.lemmas.List.{append-nil, append_assoc}
use Rattle.sqlite.specs.Schema.{Schema}
use Rattle.sqlite.specs.Table.{Table}
use Rattle.sqlite.specs.Effect.{Database}
use Rattle.sqlite_trees.specs.Tree.{IsAscending}
use Rattle.sqlite_keyed.proofs.ListLemmas.{all-filter}
use Rattle.sqlite_schema.specs.Names.{table_named, same_name}
use Rattle.sqlite_rules.specs.Lists.{Has as Holds}
use Rattle.sqlite_rules.proofs.ListLemmas.{all_has, has_left}
use Rattle.sqlite_catalog.proofs.AlterLemmas.{place_has}
use Rattle.sqlite_tied.specs.Compute.{everything}
use Rattle.aq_keeper.specs.Rising.{AreBefore}
use Rattle.aq_rules.specs.Kept.Rows as the_rows
use Rattle.aq_rules.specs.Kept.Rows.{ObsRow2, OfSecondRow}
use Rattle.aq_rules.specs.Kept.RowChanges.{row_key, put_row, with_row_changes}
use Rattle.aq_tables.specs.declared.missing.Missing.{Missing}
use Rattle.aq_tables.specs.Forms.{Form, table_of, records_form, observations_form, loads_form, second_form, third_form}
use Rattle.aq_tables.specs.Standing.{Ours, IsChildless, IsStored, Stands, HasTable}
use Rattle.aq_tables.specs.All.{HasOurs, MayHave, rows_in}
use Rattle.aq_tables.specs.Made.{IsThere, AreThere, IsMade}
use Rattle.aq_tables.specs.Moves.{Extends, MakesForm, Loses, LosesSecond, AddsView}
use Rattle.aq_tables.specs.Sixteen.{PutsThird, puts_of}
use Rattle.aq_tables.specs.Told.{told, Turns, records, observations, loads, second, third}
use Rattle.aq_tables.proofs.Extending.{extends_here, extends_then, still_stands, trees_still, rows_are, rows_missing}
use Rattle.aq_tables.proofs.InOrder.{Before}
use Rattle.aq_tables.proofs.InPlace.{put-is_at}
use Rattle.aq_tables.proofs.LeftAlone.{leaves, own_tree}
use Rattle.aq_tables.proofs.OneTable.{apart_by, told-rises, trees_apart, stays_by, observations_are}

-- ---- a list without some of its elements

module _ {X : Type 0} (p : X → Bool) where
  found_left : (q : X → Bool) (xs : List X) (x : X) → find q xs ≡ Some x → p x ≡ true → find q (filter p xs) ≡ Some x
  found_left q [] x is h = absurd cc
  found_left q (y ∷ xs) x is h = go (q y) (p y) refl refl is (λ e. found_left q xs x e h)
    where
      go : (a b : Bool) → q y ≡ a → p y ≡ b → cond a (Some y) (find q xs) ≡ Some x → (find q xs ≡ Some x → find q (filter p xs) ≡ Some x) → find q (cond b (y ∷ filter p xs) (filter p xs)) ≡ Some x
      go true true e f is more = rw e is
      go true false e f is more = let same : y ≡ x = cc in absurd (false≢true (sym f ∙ ap p same ∙ h))
      go false true e f is more = rw e (more is)
      go false false e f is more = more is

  position_above : (q : X → Bool) (i : ℕ) (xs : List X) (n : ℕ) → position_from q i xs ≡ Some n → i ≤ n
  position_above q i [] n is = absurd cc
  position_above q i (y ∷ xs) n is = go (q y) is (position_above q (i + 1) xs n)
    where
      go : (a : Bool) → cond a (Some i) (position_from q (i + 1) xs) ≡ Some n → (position_from q (i + 1) xs ≡ Some n → i + 1 ≤ n) → i ≤ n
      go true is more = let same : i ≡ n = cc in omega arith
      go false is more = let above = more is in omega arith

  -- the first that passes a test, and its place
  record Placed (q : X → Bool) (j : ℕ) (xs : List X) (x : X) : Type 0 where
    at : ℕ
    position : position_from q j xs ≡ Some (j + at)
    place : slice_get xs at ≡ Some x

  placed_left : (q : X → Bool) (i j m : ℕ) (xs : List X) (x : X) → position_from q i xs ≡ Some (i + m) → slice_get xs m ≡ Some x → p x ≡ true → Placed q j (filter p xs) x
  placed_left q i j m [] x is there h = absurd cc
  placed_left q i j zero (y ∷ xs) x is there h = go (q y) (p y) refl refl is
    where
      same : y ≡ x
      same = cc

      go : (a b : Bool) → q y ≡ a → p y ≡ b → cond a (Some i) (position_from q (i + 1) xs) ≡ Some (i + 0) → Placed q j (cond b (y ∷ filter p xs) (filter p xs)) x
      go a false e f is = absurd (false≢true (sym f ∙ ap p same ∙ h))
      go true true e f is = record { at = 0; position = rw e (ap Some (omega arith)); place = ap Some same }
      go false true e f is = let above = position_above q (i + 1) xs (i + 0) is in absurd (omega arith)
  placed_left q i j (suc m) (y ∷ xs) x is there h = go (q y) (p y) refl refl is (λ k e. placed_left q (i + 1) k m xs x e there h)
    where
      go : (a b : Bool) → q y ≡ a → p y ≡ b → cond a (Some i) (position_from q (i + 1) xs) ≡ Some (i + suc m) → ((k : ℕ) → position_from q (i + 1) xs ≡ Some (i + 1 + m) → Placed q k (filter p xs) x)
          → Placed q j (cond b (y ∷ filter p xs) (filter p xs)) x
      go true b e f is more = absurd (let same : i ≡ i + suc m = cc in omega arith)
      go false true e f is more =
          let rest = more (j + 1) (is ∙ ap Some (omega arith)) in
          record { at = suc rest.at; position = rw e (rest.position ∙ ap Some (omega arith)); place = rest.place }
      go false false e f is more = more j (is ∙ ap Some (omega arith))

  none_left : (q : X → Bool) (i j : ℕ) (xs : List X) → position_from q i xs ≡ None → position_from q j (filter p xs) ≡ None
  none_left q i j [] is = refl
  none_left q i j (y ∷ xs) is = go (q y) (p y) refl is (λ k. none_left q (i + 1) k xs)
    where
      go : (a b : Bool) → q y ≡ a → cond a (Some i) (position_from q (i + 1) xs) ≡ None → ((k : ℕ) → position_from q (i + 1) xs ≡ None → position_from q k (filter p xs) ≡ None) → position_from q j (cond b (y ∷ filter p xs) (filter p xs)) ≡ None
      go true b e is more = absurd cc
      go false true e is more = rw e (more (j + 1) is)
      go false false e is more = more j is

-- ---- a table that stands is carried on

record Carried (ours : Ours) (old new : Database) : Type 0 where
  has : HasOurs ours new
  rows : rows_in ours new ≡ rows_in ours old

-- the same of one that may be missing
record MayCarry (ours : Ours) (old new : Database) : Type 0 where
  may : MayHave ours new
  rows : rows_in ours new ≡ rows_in ours old

carried_by : (ours : Ours) (old new : Database) (h : HasOurs ours old) (at : ℕ) → Stands new.schema ours.form at h.tree → new.trees h.tree ≡ old.trees h.tree → Carried ours old new
carried_by ours old new h at stands same = record {
  has = record { at = at; tree = h.tree; has = record { stands = stands; stored = subst (IsStored ours) (sym same) h.has.stored } };
  rows = rows_are ours new at h.tree stands ∙ ap (told ours) same ∙ sym (rows_are ours old h.at h.tree h.has.stands);
}

carried_then : (ours : Ours) (a b c : Database) → (ab : Carried ours a b) → Carried ours b c → Carried ours a c
carried_then ours a b c ab bc = record { has = bc.has; rows = bc.rows ∙ ab.rows }

over_extends : (ours : Ours) (old new : Database) → Extends old new → HasOurs ours old → Carried ours old new
over_extends ours old new e h =
    carried_by ours old new h h.at (still_stands old new ours.form h.at h.tree e h.has.stands) (trees_still old new ours.form e (record { at = h.at; tree = h.tree; stands = h.has.stands }))

over_turn : (ours : Ours) (change : List the_rows.Row → List the_rows.Row) (old new : Database) (mine : HasOurs third old) (h : HasOurs ours old) → h.tree ≢ mine.tree → Turns third change old new mine.at mine.tree → Carried ours old new
over_turn ours change old new mine h apart t = let still = stays_by change old new third ours mine h apart t in record { has = still.has; rows = still.rows }

module _ (tree : ℕ) (old new : Database) (l : Loses tree old new) where
  abbrev left : Table → Bool
  left t = not (t.tree == tree)

  stands_left : (form : Form) (at tree' : ℕ) → Stands old.schema form at tree' → tree' ≢ tree → (at' : ℕ) × Stands new.schema form at' tree'
  stands_left form at tree' s apart =
      let tables = old.schema.tables in
      let q = λ (t : Table). same_name t.name form.name in
      let other : eqb tree' tree ≡ false = grind (arith, nat_tests) in
      let stays : not (eqb tree' tree) ≡ true = rw other refl in
      let placed = placed_left left q 0 0 at tables (table_of form tree') (s.has.named ∙ ap Some (omega arith)) s.has.stands stays in (
        placed.at,
        record {
          has = record { named = ap (position_from q 0) l.tables ∙ placed.position ∙ ap Some (omega arith); stands = ap (λ ts. slice_get ts placed.at) l.tables ∙ placed.place; untimed = refl };
          sole = ap (find (λ (t : Table). t.tree == tree')) l.tables ∙ found_left left (λ (t : Table). t.tree == tree') tables (table_of form tree') s.sole stays;
          low = s.low;
          childless = subst (AllByRecursion (IsChildless tree')) (sym l.tables) (all-filter _ left tables s.childless);
        },
      )

  over_loss : (ours : Ours) (h : HasOurs ours old) → h.tree ≢ tree → Carried ours old new
  over_loss ours h apart =
      let s = h.has.stands in
      let on = stands_left ours.form h.at h.tree s apart in
      carried_by ours old new h on.0 on.1 (l.others h.at _ s.has.stands apart s.childless)

  none_over_loss : (name : List ℕ) → table_named old.schema name ≡ None → table_named new.schema name ≡ None
  none_over_loss name none = ap (position_from (λ (t : Table). same_name t.name name) 0) l.tables ∙ none_left left (λ (t : Table). same_name t.name name) 0 0 old.schema.tables none

module _ (old new : Database) (v : AddsView old new) where
  over_view : (ours : Ours) → HasOurs ours old → Carried ours old new
  over_view ours h =
      let s = h.has.stands in
      let q = λ (t : Table). same_name t.name ours.form.name in
      carried_by ours old new h h.at
      (record {
        has = record { named = ap (position_from q 0) v.tables ∙ s.has.named; stands = ap (λ ts. slice_get ts h.at) v.tables ∙ s.has.stands; untimed = refl };
        sole = ap (find (λ (t : Table). t.tree == h.tree)) v.tables ∙ s.sole;
        low = s.low;
        childless = subst (AllByRecursion (IsChildless h.tree)) (sym v.tables) s.childless;
      })
      (all_has (λ (t : Table). new.trees t.tree ≡ old.trees t.tree) old.schema.tables _ v.rows (place_has old.schema.tables h.at _ s.has.stands))

  none_over_view : (name : List ℕ) → table_named old.schema name ≡ None → table_named new.schema name ≡ None
  none_over_view name none = ap (position_from (λ (t : Table). same_name t.name name) 0) v.tables ∙ none

-- ---- the rows that were moved

-- rows that rise, put one after the other behind those before them
all_behind : (front : List the_rows.Row) (rows : List ObsRow2) → IsAscending Before (front ++ map OfSecondRow rows) → with_row_changes front (puts_of rows) ≡ front ++ map OfSecondRow rows
all_behind front [] up = sym (append-nil front)
all_behind front (row ∷ rows) up =
    let it = OfSecondRow row in
    let one : put_row it front ≡ front ++ it ∷ [] = ap (put_row it) (sym (append-nil front)) ∙ (put-is_at it).past front [] (front_before front it (map OfSecondRow rows) up) in
    ap (λ (l : List the_rows.Row). with_row_changes l (puts_of rows)) one
    ∙ all_behind (front ++ it ∷ []) rows (subst (IsAscending Before) (sym (append_assoc front (it ∷ []) (map OfSecondRow rows))) up)
    ∙ append_assoc front (it ∷ []) (map OfSecondRow rows)
  where
    first_of : (x it : the_rows.Row) (front back : List the_rows.Row) → AllByRecursion (Before x) (front ++ it ∷ back) → Before x it
    first_of x it [] back all = all.0
    first_of x it (y ∷ front) back all = first_of x it front back all.1

    front_before : (front : List the_rows.Row) (it : the_rows.Row) (back : List the_rows.Row) → IsAscending Before (front ++ it ∷ back) → AreBefore (row_key it) front
    front_before [] it back up = tt
    front_before (x ∷ front) it back up = (first_of x it front back up.0, front_before front it back up.1)

-- ---- a table that is made

made_rows : (ours : Ours) (old new : Database) → MakesForm ours.form old new → rows_in ours new ≡ rows_in ours old
made_rows ours old new m = rows_are ours new m.formed.at m.formed.tree m.formed.stands ∙ ap (told ours) m.empty ∙ sym (rows_missing ours old m.missing)

abbrev made_stands : (ours : Ours) (old new : Database) → MakesForm ours.form old new → HasOurs ours new
made_stands ours old new m = record {
  at = m.formed.at;
  tree = m.formed.tree;
  has = record { stands = m.formed.stands; stored = subst (IsStored ours) (sym m.empty) (record { ints = tt; fit = tt; apart = tt; typed = tt; keys = tt }) };
}

made : (ours : Ours) (old new : Database) → MakesForm ours.form old new → Carried ours old new
made ours old new m = record { has = made_stands ours old new m; rows = made_rows ours old new m }

-- ---- all steps

-- two names of tables
second_third : second_form.name ≢ third_form.name
second_third same = false≢true (ap (λ (name : List ℕ). eqb (get_or name 12 0) 51) same)

pub is_there : (missing : Bool) (ours : Ours) (db : Database) → missing ≡ false → IsThere missing ours db → HasOurs ours db
is_there true ours db stands h = absurd (false≢true (sym stands))
is_there false ours db stands h = h

pub is_none : (missing : Bool) (ours : Ours) (db : Database) → missing ≡ true → IsThere missing ours db → table_named db.schema ours.form.name ≡ None
is_none true ours db gone h = h
is_none false ours db gone h = absurd (false≢true gone)

pub may_have : (missing : Bool) (ours : Ours) (db : Database) → IsThere missing ours db → MayHave ours db
may_have true ours db h = inl h
may_have false ours db h = inr h

may_then : (ours : Ours) (a b c : Database) → MayCarry ours a b → (MayHave ours b → MayCarry ours b c) → MayCarry ours a c
may_then ours a b c ab next = let bc = next ab.may in record { may = bc.may; rows = bc.rows ∙ ab.rows }

-- where one table is made, another one that may be missing stays as it is
may_over_made : (ours made : Ours) (old new : Database) → MakesForm made.form old new → same_name made.form.name ours.form.name ≡ false → same_name (codes "sqlite_sequence") ours.form.name ≡ false → MayHave ours old → MayCarry ours old new
may_over_made ours made old new m names counts (inl none) =
    let still = m.free ours.form.name names counts none in
    record { may = inl still; rows = rows_missing ours new still ∙ sym (rows_missing ours old none) }
may_over_made ours made old new m names counts (inr h) = let on = over_extends ours old new m.extends h in record { may = inr on.has; rows = on.rows }

-- what stands before the observations are moved
record Begun (is_missing : Bool) (a b : Database) : Type 0 where
  second_stands : is_missing ≡ false → HasOurs second b
  of_records : Carried records a b
  of_observations : MayCarry observations a b
  of_loads : Carried loads a b

names : (same_name records_form.name observations_form.name ≡ false) × (same_name loads_form.name observations_form.name ≡ false) × (same_name third_form.name observations_form.name ≡ false)
    × (same_name (codes "sqlite_sequence") observations_form.name ≡ false)
unfolding everything
names = (refl, refl, refl, refl)

begun : (missing : Missing) (a b : Database) → missing.loads ≡ missing.records → AreThere missing a → MatchBool missing.records ((mid : Database) × MakesForm records_form a mid × MakesForm loads_form mid b) (b ≡ a) → Begun missing.second a b
begun missing a b both there makes = go missing.records refl makes
  where
    go : (m : Bool) → missing.records ≡ m → MatchBool m ((mid : Database) × MakesForm records_form a mid × MakesForm loads_form mid b) (b ≡ a) → Begun missing.second a b
    go true is (mid, one, two) =
        let of_records = made records a mid one in
        let no_loads = is_none missing.loads loads a (both ∙ is) there.of_loads in
        let o = may_over_made observations records a mid one names.0 names.3 (may_have missing.observations observations a there.of_observations) in
        record {
          second_stands = λ stands. (over_extends second mid b two.extends (over_extends second a mid one.extends (is_there missing.second second a stands there.of_second)).has).has;
          of_records = carried_then records a mid b of_records (over_extends records mid b two.extends of_records.has);
          of_observations = may_then observations a mid b o (may_over_made observations loads mid b two names.1 names.3);
          of_loads = record { has = made_stands loads mid b two; rows = made_rows loads mid b two ∙ rows_missing loads mid two.missing ∙ sym (rows_missing loads a no_loads) };
        }
    go false is same =
        let here : (ours : Ours) → HasOurs ours a → Carried ours a b = λ ours h. record { has = subst (HasOurs ours) (sym same) h; rows = ap (rows_in ours) same } in
        let may : (ours : Ours) → MayHave ours a → MayCarry ours a b = λ ours h. record { may = subst (MayHave ours) (sym same) h; rows = ap (rows_in ours) same } in
        record {
          second_stands = λ stands. subst (HasOurs second) (sym same) (is_there missing.second second a stands there.of_second);
          of_records = here records (is_there missing.records records a is there.of_records);
          of_observations = may observations (may_have missing.observations observations a there.of_observations);
          of_loads = here loads (is_there missing.loads loads a (both ∙ is) there.of_loads);
        }

-- a table that stands beside that of the observations, from where that is made to the end
module _ (b c d e f : Database) (m : MakesForm third_form b c) (change : List the_rows.Row → List the_rows.Row) (turn : (at tree : ℕ) → HasTable third c at tree → Turns third change c d at tree)
    (is_missing : Bool) (dropped : MatchBool is_missing (e ≡ d) (LosesSecond d e)) (v : AddsView e f) where
  abbrev mine : HasOurs third c
  mine = made_stands third b c m

  t : Turns third change c d mine.at mine.tree
  t = turn mine.at mine.tree mine.has

  abbrev third_d : HasOurs third d
  third_d = record { at = mine.at; tree = mine.tree; has = t.has }

  -- where `observations2` stands it stands beside them
  module _ (before : is_missing ≡ false → HasOurs second b) where
    second_c : is_missing ≡ false → HasOurs second c
    second_c is = (over_extends second b c m.extends (before is)).has

    second_d : is_missing ≡ false → HasOurs second d
    second_d is = (over_turn second change c d mine (second_c is) (apart_by third second c mine (second_c is) second_third) t).has

    to_end : (ours : Ours) (h : HasOurs ours d) → ((is : is_missing ≡ false) → h.tree ≢ (second_d is).tree) → Carried ours d f
    to_end ours h apart = go is_missing refl dropped
      where
        go : (k : Bool) → is_missing ≡ k → MatchBool k (e ≡ d) (LosesSecond d e) → Carried ours d f
        go true is same = let over = over_view e f v ours (subst (HasOurs ours) (sym same) h) in record { has = over.has; rows = over.rows ∙ ap (rows_in ours) same }
        go false is loses =
            let s = second_d is in
            let one = over_loss s.tree d e (loses s.at s.tree s.has.stands) ours h (apart is) in
            carried_then ours d e f one (over_view e f v ours one.has)

    none_to_end : (name : List ℕ) → table_named d.schema name ≡ None → table_named f.schema name ≡ None
    none_to_end name none = go is_missing refl dropped
      where
        go : (k : Bool) → is_missing ≡ k → MatchBool k (e ≡ d) (LosesSecond d e) → table_named f.schema name ≡ None
        go true is same = none_over_view e f v name (ap (λ (db : Database). table_named db.schema name) same ∙ none)
        go false is loses = let s = second_d is in none_over_view e f v name (none_over_loss s.tree d e (loses s.at s.tree s.has.stands) name none)

    -- all the way, of one that is neither
    along : (ours : Ours) (h : HasOurs ours b) → eqb (length ours.form.name) (length third_form.name) ≡ false → eqb (length ours.form.name) (length second_form.name) ≡ false → Carried ours b f
    along ours h other former =
        let one = over_extends ours b c m.extends h in
        let two = over_turn ours change c d mine one.has (trees_apart third ours c mine one.has other) t in
        let three = to_end ours two.has (λ is. trees_apart second ours d (second_d is) two.has former) in
        carried_then ours b c f one (carried_then ours c d f two three)

    may_along : MayHave observations b → MayCarry observations b f
    may_along (inl none) =
        let at_c = m.free observations.form.name names.2 names.3 none in
        let at_d = subst (λ (s : Schema). table_named s observations.form.name ≡ None) (sym t.schema) at_c in
        let at_f = none_to_end observations.form.name at_d in
        record { may = inl at_f; rows = rows_missing observations f at_f ∙ sym (rows_missing observations b none) }
    may_along (inr h) = let on = along observations h refl refl in record { may = inr on.has; rows = on.rows }

    third_f : Carried third d f
    third_f = to_end third third_d (λ is. apart_by second third d (second_d is) third_d (λ same. second_third (sym same)))

    -- what the new table tells: what is made of nothing
    third_tells : rows_in third f ≡ change []
    third_tells = third_f.rows ∙ rows_are third d mine.at mine.tree t.has.stands ∙ t.told_is ∙ ap (λ rows. change (told third rows)) m.empty

-- what stood under keys rises
rises_if : (missing : Bool) (a : Database) → IsThere missing second a → IsAscending Before (rows_in second a)
rises_if true a none = subst (IsAscending Before) (sym (rows_missing second a none)) tt
rises_if false a h = subst (IsAscending Before) (sym (rows_are second a h.at h.tree h.has.stands)) (told-rises second a h.at h.tree h.has)

-- what is made first, if it is
first_extends : (is_missing : Bool) (a b : Database) → MatchBool is_missing ((mid : Database) × MakesForm records_form a mid × MakesForm loads_form mid b) (b ≡ a) → Extends a b
first_extends true a b (mid, one, two) = extends_then a mid b one.extends two.extends
first_extends false a b same = subst (Extends a) (sym same) (extends_here a)

pub is_made : (missing : Missing) (a b c d e f : Database) (found : List ObsRow2) → missing.third ≡ true → missing.loads ≡ missing.records → AreThere missing a
    → MatchBool missing.records ((mid : Database) × MakesForm records_form a mid × MakesForm loads_form mid b) (b ≡ a)
    → MakesForm third_form b c
    → ((at tree : ℕ) → HasTable third c at tree → PutsThird found c d at tree)
    → map OfSecondRow found ≡ rows_in second a
    → MatchBool missing.second (e ≡ d) (LosesSecond d e) → AddsView e f → IsMade a f
is_made missing a b c d e f found no_third both there first m puts moved dropped v =
    let turn = λ (at tree : ℕ) (has : HasTable third c at tree). (puts at tree has).turns in
    let mine = made_stands third b c m in
    let put = puts mine.at mine.tree mine.has in
    let begin = first_extends missing.records a b first in
    let own : (t : Table) → Holds a.schema.tables t → t.tree ≢ mine.tree = λ t was. own_tree third_form b c m t (subst (λ (ts : List Table). Holds ts t) (sym begin.tables) (has_left a.schema.tables begin.more t was)) in
    let change = λ (l : List the_rows.Row). with_row_changes l (puts_of found) in
    let start = begun missing a b both there first in
    let R = along b c d e f m change turn missing.second dropped v start.second_stands records start.of_records.has refl refl in
    let O = may_along b c d e f m change turn missing.second dropped v start.second_stands start.of_observations.may in
    let L = along b c d e f m change turn missing.second dropped v start.second_stands loads start.of_loads.has refl refl in
    let T = third_f b c d e f m change turn missing.second dropped v start.second_stands in
    let none = none_over_view e f v second_form.name v.free in
    let tells : rows_in third f ≡ rows_in second a =
    third_tells b c d e f m change turn missing.second dropped v start.second_stands ∙ all_behind [] found (subst (IsAscending Before) (sym moved) (rises_if missing.second a there.of_second)) ∙ moved in
    let alone : rows_in second a ++ rows_in third a ≡ rows_in second a = ap (λ (l : List the_rows.Row). rows_in second a ++ l) (rows_missing third a (is_none missing.third third a no_third there.of_third)) ∙ append-nil (rows_in second a) in
    record {
      tables = record { of_records = R.has; of_observations = O.may; of_loads = L.has; of_third = T.has; no_second = none };
      tells = λ i. (R.rows ∙ start.of_records.rows) i ++ (O.rows ∙ start.of_observations.rows) i ++ (L.rows ∙ start.of_loads.rows) i ++ (observations_are f none ∙ tells ∙ sym alone) i;
      others = leaves a c d e f (extends_then a b c begin m.extends) put.turns.schema mine.tree put.others own missing.second there.of_second dropped v;
      sound = λ _. v.sound;
    }
