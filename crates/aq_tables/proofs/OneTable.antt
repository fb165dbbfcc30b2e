-- A statement on one of the tables: the others stay, and so all of them tell the rows with its change.
use Rattle.std.proofs.Common.{◌≡◌, ◌≢◌, ◌⊎◌, inl, inr, ◌==◌, eqb, ℕ, Bool, is_some, false, List, [], ◌∷◌, ◌++◌, length, map, Option, Some, None, find, refl, sym, ap, subst, ◌∙◌, true}
use Rattle.std.proofs.lemmas.Bool.{false≢true, eq-eqb}
use Rattle.std.specs.Option.{option_map_or}
use Rattle.std.specs.List.{AllByRecursion}
use Rattle.sqlite.specs.Order.{Row}
use Rattle.sqlite.specs.Table.{Table}
use Rattle.sqlite.specs.Effect.{Database}
use Rattle.sqlite_trees.specs.Tree.{IsAscending}
use Rattle.sqlite_keyed.proofs.ListLemmas.{ascending-map}
use Rattle.aq_keeper.specs.Rising.{AreBefore}
use Rattle.aq_rules.specs.Kept.Rows as the_rows
use Rattle.aq_rules.specs.Kept.RowChanges.{RowKey, OfficeRowKey, ObsRowKey, LoadRowKey, SecondRowKey, row_key, key_before}
use Rattle.aq_tables.specs.Standing.{Ours, Stands, IsStored, HasTable, HaveOtherKeys}
use Rattle.aq_tables.specs.Forms.{second_form}
use Rattle.aq_tables.specs.declared.reading.Table.{Table as Which}
use Rattle.aq_tables.specs.declared.reading.Table.TheVariants.{Records, Observations, Loads, Third}
use Rattle.aq_tables.specs.Told.{told, Turns, Reads, ours_of, records, observations, loads, second, third}
use Rattle.aq_tables.specs.All.{HasOurs, MayHave, HasTables, tree_named, rows_in, observations_in, rows_of}
use Rattle.sqlite.specs.Schema.{Schema}
use Rattle.sqlite_schema.specs.Names.{table_named}
use Rattle.aq_tables.specs.Batch.{KnowsFirst, OthersStay, is_of_first, table_at, Turned}
use Rattle.aq_tables.proofs.InOrder.{Before, all-in_order, rises}
use Rattle.aq_tables.proofs.InPlace.{AreBehind, IsAt, at_first, at_next, at_third, at_last}

-- what a table tells once it stands
pub rows_in-is : (ours : Ours) (db : Database) (at tree : ℕ) → HasTable ours db at tree → rows_in ours db ≡ told ours (db.trees tree)
rows_in-is ours db at tree has = rw (has.stands.has.named, has.stands.has.stands) refl

-- what a table tells rises
pub told-rises : (ours : Ours) (db : Database) (at tree : ℕ) → HasTable ours db at tree → IsAscending Before (told ours (db.trees tree))
told-rises ours db at tree has = rises (map ours.says (db.trees tree)) (ascending-map HaveOtherKeys ours.says (db.trees tree) has.stored.keys)

-- ---- a table tells rows of its own

all-map : (P : the_rows.Row → Type 0) (says : Row → the_rows.Row) → ((r : Row) → P (says r)) → (rows : List Row) → AllByRecursion P (map says rows)
all-map P says h [] = tt
all-map P says h (r ∷ rows) = (h r, all-map P says h rows)

all_told : (P : the_rows.Row → Type 0) (ours : Ours) (db : Database) → ((r : Row) → P (ours.says r)) → AllByRecursion P (rows_in ours db)
all_told P ours db h = go (tree_named db.schema ours.form.name)
  where
    go : (tree : Option ℕ) → AllByRecursion P (option_map_or (λ tree. told ours (db.trees tree)) tree [])
    go None = tt
    go (Some tree) = all-in_order P (map ours.says (db.trees tree)) (all-map P ours.says h (db.trees tree))

pub before : (key : RowKey) (ours : Ours) (db : Database) → ((r : Row) → key_before (row_key (ours.says r)) key ≡ true) → AreBefore key (rows_in ours db)
before key = all_told (λ row. key_before (row_key row) key ≡ true)

pub behind : (key : RowKey) (ours : Ours) (db : Database) → ((r : Row) → key_before key (row_key (ours.says r)) ≡ true) → AreBehind key (rows_in ours db)
behind key = all_told (λ row. key_before key (row_key row) ≡ true)

-- ---- the other tables

name_in : Option Table → List ℕ
name_in None = []
name_in (Some t) = t.name

-- two tables of ours have two trees
pub apart_by : (ours other : Ours) (db : Database) (has : HasOurs ours db) (it : HasOurs other db) → other.form.name ≢ ours.form.name → it.tree ≢ has.tree
unfolding name_in
apart_by ours other db has it named same =
    let one = sym it.has.stands.sole ∙ ap (λ n. find (λ (t : Table). t.tree == n) db.schema.tables) same ∙ has.has.stands.sole in
    named (ap name_in one)

pub trees_apart : (ours other : Ours) (db : Database) (has : HasOurs ours db) (it : HasOurs other db) → eqb (length other.form.name) (length ours.form.name) ≡ false → it.tree ≢ has.tree
trees_apart ours other db has it named = apart_by ours other db has it (λ same. false≢true (sym named ∙ eq-eqb _ _ (ap length same)))

-- what a table tells that is missing
nothing_in : (ours : Ours) (db : Database) → table_named db.schema ours.form.name ≡ None → rows_in ours db ≡ []
nothing_in ours db none = rw none refl

-- the observations are those of one table
pub observations_are : (db : Database) → table_named db.schema second_form.name ≡ None → observations_in db ≡ rows_in third db
observations_are db none = ap (λ (l : List the_rows.Row). l ++ rows_in third db) (nothing_in second db none)

pub record Still (ours : Ours) (old new : Database) : Type 0 where
  pub has : HasOurs ours new
  pub rows : rows_in ours new ≡ rows_in ours old

record MayStill (ours : Ours) (old new : Database) : Type 0 where
  may : MayHave ours new
  rows : rows_in ours new ≡ rows_in ours old

module _ (change : List the_rows.Row → List the_rows.Row) (old new : Database) where
  pub stays_by : (ours other : Ours) (has : HasOurs ours old) (it : HasOurs other old) → it.tree ≢ has.tree → Turns ours change old new has.at has.tree → Still other old new
  stays_by ours other has it apart t =
      let stands = it.has.stands in
      let same = t.others it.at _ stands.has.stands apart stands.childless in
      let still : HasTable other new it.at it.tree =
      record { stands = subst (λ s. Stands s other.form it.at it.tree) (sym t.schema) stands; stored = subst (IsStored other) (sym same) it.has.stored } in
      record {
        has = record { at = it.at; tree = it.tree; has = still };
        rows = rows_in-is other new it.at it.tree still ∙ ap (told other) same ∙ sym (rows_in-is other old it.at it.tree it.has);
      }

  pub stays : (ours other : Ours) (has : HasOurs ours old) (it : HasOurs other old) → eqb (length other.form.name) (length ours.form.name) ≡ false
      → Turns ours change old new has.at has.tree → Still other old new
  stays ours other has it named = stays_by ours other has it (trees_apart ours other old has it named)

  still_missing : (ours other : Ours) (has : HasOurs ours old) → Turns ours change old new has.at has.tree → table_named old.schema other.form.name ≡ None → table_named new.schema other.form.name ≡ None
  still_missing ours other has t none = subst (λ (s : Schema). table_named s other.form.name ≡ None) (sym t.schema) none

  may_stay : (ours other : Ours) (has : HasOurs ours old) (it : MayHave other old) → eqb (length other.form.name) (length ours.form.name) ≡ false
      → Turns ours change old new has.at has.tree → MayStill other old new
  may_stay ours other has (inl none) named t =
      let gone = still_missing ours other has t none in
      record { may = inl gone; rows = nothing_in other new gone ∙ sym (nothing_in other old none) }
  may_stay ours other has (inr it) named t = let still = stays ours other has it named t in record { may = inr still.has; rows = still.rows }

  own_rows : (ours : Ours) (has : HasOurs ours old) → Turns ours change old new has.at has.tree → rows_in ours new ≡ change (rows_in ours old)
  own_rows ours has t = rows_in-is ours new has.at has.tree t.has ∙ t.told_is ∙ ap change (sym (rows_in-is ours old has.at has.tree has.has))

  -- what the observations are before and after, if another table than theirs turned
  thirds_stay : (ours : Ours) (has : HasOurs ours old) (tables : HasTables old) → eqb (length third.form.name) (length ours.form.name) ≡ false → (t : Turns ours change old new has.at has.tree)
      → HasOurs third new × (observations_in new ≡ rows_in third old) × (observations_in old ≡ rows_in third old)
  thirds_stay ours has tables named t =
      let d = stays ours third has tables.of_third named t in
      (d.has, observations_are new (still_missing ours second has t tables.no_second) ∙ d.rows, observations_are old tables.no_second)

  -- each other table is another than this one
  others_stay : (which : Which) (has : HasOurs (ours_of which) old) → Turns (ours_of which) change old new has.at has.tree → OthersStay old.schema old.trees new.trees
  others_stay which has t place u stands other alone =
      let s = has.has.stands in
      t.others place u stands (λ same. other which (rw (s.has.named, s.has.stands) (ap Some (sym same)))) alone

  -- a change of the observations alone
  pub last_turned : change (rows_in records old ++ rows_in observations old ++ rows_in loads old ++ rows_in third old) ≡ rows_in records old ++ rows_in observations old ++ rows_in loads old ++ change (rows_in third old)
      → (has : HasTables old) → Turns third change old new has.of_third.at has.of_third.tree → Turned change old new
  last_turned is has t =
      let mine = has.of_third in
      let a = stays third records mine has.of_records refl t in
      let b = may_stay third observations mine has.of_observations refl t in
      let c = stays third loads mine has.of_loads refl t in
      let none = still_missing third second mine t has.no_second in
      let front = λ (l : List the_rows.Row). rows_in records old ++ rows_in observations old ++ rows_in loads old ++ l in
      record {
        schema = t.schema;
        tables = record { of_records = a.has; of_observations = b.may; of_loads = c.has; of_third = record { at = mine.at; tree = mine.tree; has = t.has }; no_second = none };
        told_is = (λ i. a.rows i ++ b.rows i ++ c.rows i ++ (observations_are new none ∙ own_rows third mine t) i) ∙ sym is ∙ ap (λ l. change (front l)) (sym (observations_are old has.no_second));
        others = others_stay Third mine t;
        sound = t.sound;
      }

  module _ (key : RowKey) (is : IsAt key change) (has : HasTables old) where
    turned_records : ((r : Row) → key_before key (row_key (observations.says r)) ≡ true) → ((r : Row) → key_before key (row_key (loads.says r)) ≡ true) → ((r : Row) → key_before key (row_key (third.says r)) ≡ true)
        → Turns records change old new has.of_records.at has.of_records.tree → Turned change old new
    turned_records p q r t =
        let mine = has.of_records in
        let b = may_stay records observations mine has.of_observations refl t in
        let c = stays records loads mine has.of_loads refl t in
        let d = thirds_stay records mine has refl t in
        record {
          schema = t.schema;
          tables = record { of_records = record { at = mine.at; tree = mine.tree; has = t.has }; of_observations = b.may; of_loads = c.has; of_third = d.0; no_second = still_missing records second mine t has.no_second };
          told_is = (λ i. own_rows records mine t i ++ b.rows i ++ c.rows i ++ d.1 i)
              ∙ sym (at_first key change is _ _ _ _ (behind key observations old p) (behind key loads old q) (behind key third old r))
              ∙ ap (λ (l : List the_rows.Row). change (rows_in records old ++ rows_in observations old ++ rows_in loads old ++ l)) (sym d.2);
          others = others_stay Records mine t;
          sound = t.sound;
        }

    turned_observations : (mine : HasOurs observations old) → ((r : Row) → key_before (row_key (records.says r)) key ≡ true) → ((r : Row) → key_before key (row_key (loads.says r)) ≡ true) → ((r : Row) → key_before key (row_key (third.says r)) ≡ true)
        → Turns observations change old new mine.at mine.tree → Turned change old new
    turned_observations mine p q r t =
        let a = stays observations records mine has.of_records refl t in
        let c = stays observations loads mine has.of_loads refl t in
        let d = thirds_stay observations mine has refl t in
        record {
          schema = t.schema;
          tables = record { of_records = a.has; of_observations = inr (record { at = mine.at; tree = mine.tree; has = t.has }); of_loads = c.has; of_third = d.0; no_second = still_missing observations second mine t has.no_second };
          told_is = (λ i. a.rows i ++ own_rows observations mine t i ++ c.rows i ++ d.1 i)
              ∙ sym (at_next key change is _ _ _ _ (before key records old p) (behind key loads old q) (behind key third old r))
              ∙ ap (λ (l : List the_rows.Row). change (rows_in records old ++ rows_in observations old ++ rows_in loads old ++ l)) (sym d.2);
          others = others_stay Observations mine t;
          sound = t.sound;
        }

    turned_loads : ((r : Row) → key_before (row_key (records.says r)) key ≡ true) → ((r : Row) → key_before (row_key (observations.says r)) key ≡ true) → ((r : Row) → key_before key (row_key (third.says r)) ≡ true)
        → Turns loads change old new has.of_loads.at has.of_loads.tree → Turned change old new
    turned_loads p q r t =
        let mine = has.of_loads in
        let a = stays loads records mine has.of_records refl t in
        let b = may_stay loads observations mine has.of_observations refl t in
        let d = thirds_stay loads mine has refl t in
        record {
          schema = t.schema;
          tables = record { of_records = a.has; of_observations = b.may; of_loads = record { at = mine.at; tree = mine.tree; has = t.has }; of_third = d.0; no_second = still_missing loads second mine t has.no_second };
          told_is = (λ i. a.rows i ++ b.rows i ++ own_rows loads mine t i ++ d.1 i)
              ∙ sym (at_third key change is _ _ _ _ (before key records old p) (before key observations old q) (behind key third old r))
              ∙ ap (λ (l : List the_rows.Row). change (rows_in records old ++ rows_in observations old ++ rows_in loads old ++ l)) (sym d.2);
          others = others_stay Loads mine t;
          sound = t.sound;
        }

-- where the table that version 1 kept is missing it tells nothing
pub nothing_first : (first : Bool) (db : Database) → first ≡ false → KnowsFirst first db.schema → rows_in observations db ≡ []
nothing_first first db none knows = nothing_in observations db (missing (table_named db.schema observations.form.name) (sym knows ∙ none))
  where
    missing : (o : Option ℕ) → is_some o ≡ false → o ≡ None
    missing None h = refl
    missing (Some at) h = absurd (false≢true (sym h))

-- the table of a key stands, if it may be changed
pub ours_at : (first : Bool) (key : RowKey) (db : Database) → (is_of_first key ≡ false) ⊎ (first ≡ true) → KnowsFirst first db.schema → HasTables db → HasOurs (table_at key) db
ours_at first (OfficeRowKey kind text) db may knows has = has.of_records
ours_at first (LoadRowKey number) db may knows has = has.of_loads
ours_at first (SecondRowKey site pollutant poc hour) db may knows has = has.of_third
ours_at first (ObsRowKey site pollutant poc hour) db (inl other) knows has = absurd (false≢true (sym other))
ours_at first (ObsRowKey site pollutant poc hour) db (inr known) knows has = go has.of_observations
  where
    go : MayHave observations db → HasOurs observations db
    go (inl none) = absurd (false≢true (sym (ap is_some none) ∙ sym knows ∙ known))
    go (inr it) = it

pub turned : (first : Bool) (change : List the_rows.Row → List the_rows.Row) (old new : Database) (key : RowKey) → IsAt key change → (is_of_first key ≡ false) ⊎ (first ≡ true) → KnowsFirst first old.schema
    → ((at tree : ℕ) → HasTable (table_at key) old at tree → Turns (table_at key) change old new at tree) → HasTables old → Turned change old new
turned first change old new (OfficeRowKey kind text) is may knows turns has =
    let mine = has.of_records in turned_records change old new (OfficeRowKey kind text) is has (λ r. refl) (λ r. refl) (λ r. refl) (turns mine.at mine.tree mine.has)
turned first change old new (ObsRowKey site pollutant poc hour) is may knows turns has =
    let mine = ours_at first (ObsRowKey site pollutant poc hour) old may knows has in
    turned_observations change old new (ObsRowKey site pollutant poc hour) is has mine (λ r. refl) (λ r. refl) (λ r. refl) (turns mine.at mine.tree mine.has)
turned first change old new (LoadRowKey number) is may knows turns has =
    let mine = has.of_loads in turned_loads change old new (LoadRowKey number) is has (λ r. refl) (λ r. refl) (λ r. refl) (turns mine.at mine.tree mine.has)
turned first change old new (SecondRowKey site pollutant poc hour) is may knows turns has =
    let key = SecondRowKey site pollutant poc hour in
    let mine = has.of_third in
    last_turned change old new (at_last key change is _ _ _ _ (before key records old (λ r. refl)) (before key observations old (λ r. refl)) (before key loads old (λ r. refl))) has (turns mine.at mine.tree mine.has)

-- the tables, read one after the other
pub read_in_turn : (db : Database) → HasTables db → (a b c d : List the_rows.Row) → Reads records db [] a → b ≡ a ++ rows_in observations db → Reads loads db b c → Reads third db c d → d ≡ rows_of db
read_in_turn db has a b c d p q r s =
    let one = one_more records has.of_records [] a p in
    let three = one_more loads has.of_loads b c r in
    one_more third has.of_third c d s
    ∙ ap (λ (l : List the_rows.Row). l ++ rows_in third db) (three ∙ ap (λ (l : List the_rows.Row). l ++ rows_in loads db) (q ∙ ap (λ (l : List the_rows.Row). l ++ rows_in observations db) one))
    ∙ ap (λ (l : List the_rows.Row). rows_in records db ++ rows_in observations db ++ rows_in loads db ++ l) (sym (observations_are db has.no_second))
  where
    one_more : (ours : Ours) → HasOurs ours db → (before after : List the_rows.Row) → Reads ours db before after → after ≡ before ++ rows_in ours db
    one_more ours it before after h = h it.at it.tree it.has ∙ ap (λ (l : List the_rows.Row). before ++ l) (sym (rows_in-is ours db it.at it.tree it.has))

-- the table that version 1 kept, read after the rows that are there
pub read_here : (db : Database) (before after : List the_rows.Row) (first : Bool) → first ≡ true → KnowsFirst first db.schema → MayHave observations db → Reads observations db before after → after ≡ before ++ rows_in observations db
read_here db before after first stands knows (inl none) reads = absurd (false≢true (sym (ap is_some none) ∙ sym knows ∙ stands))
read_here db before after first stands knows (inr it) reads = reads it.at it.tree it.has ∙ ap (λ (l : List the_rows.Row). before ++ l) (sym (rows_in-is observations db it.at it.tree it.has))
