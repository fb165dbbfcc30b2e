-- What a call keeps of what a keeper tells, and what a crash leaves after it.
use Rattle.std.proofs.Common.{◌≡◌, ◌∙◌, ◌⊎◌, inl, inr, ◌&&◌, Bool, true, false, List, [], ◌∷◌, Some, Result, Ok, Err, IsTrue, OnOk, OnErr, IfOk, IfSome, is_ok, refl, sym, ap, subst, arith}
use Rattle.std.specs.Option.{option_map}
use Rattle.std.proofs.Math.Logic.{∥∥₁_elim, ∥∥₁_map}
use Rattle.std.specs.Coded.{coded_list}
use base.Stored.{Coded-set}
use Rattle.sqlite.specs.declared.error.Error.{Error}
use Rattle.sqlite.specs.Tree.{Trees}
use Rattle.sqlite.specs.Effect.{Database, IsDatabase}
use Rattle.sqlite.specs.State.{State, HasCleanDisk, KeepsCommit, Survives}
use Rattle.sqlite_trees.specs.Objects.{catalog_tree}
use Rattle.sqlite_trees.proofs.Doubt.{no_doubt}
use Rattle.sqlite_catalog.specs.Listing.{Lists}
use Rattle.sqlite_catalog.proofs.ReadLemmas.{lists_once}
use Rattle.aq_rules.specs.Kept.Rows.{Row}
use Rattle.aq_rules.specs.Kept.RowChanges.{RowChange, with_row_changes}
use Rattle.aq_keeper.specs.contracts.row.Row as row
use Rattle.aq_keeper.specs.Told.{Stays}
use Rattle.aq_tables.specs.All.{HasTables, rows_of}
use Rattle.aq_tables.specs.Batch.{Becomes, Leaves}
use Rattle.aq_sqlite.specs.Telling.{told, told_if, with_batch}
use Rattle.aq_sqlite.specs.Crash.{AlsoLeaves, IsKept, LeavesOnly}
use Rattle.aq_sqlite.specs.Faults.{answered}

rows_set : IsSet (List Row)
rows_set = Coded-set (coded_list row.the_row.coded)

-- a fault counted is an error still
pub on_ok : {X : Type 0} (P : Type 0) (r : Result X Error) → OnOk r P → OnOk (answered r) P
on_ok P (Ok x) h = h
on_ok P (Err e) h = tt

pub on_err : {X : Type 0} (P : Type 0) (r : Result X Error) → OnErr r P → OnErr (answered r) P
on_err P (Ok x) h = tt
on_err P (Err e) h = h

-- ---- what is told

same_told : (p o n : Bool) (a b : List Row) → (IsTrue n → IsTrue o) → (IsTrue p → IsTrue n → a ≡ b) → Stays (told_if (p && o) a) (told_if (p && n) b)
same_told false o n a b up same = tt
same_told true o false a b up same = tt
same_told true false true a b up same = let e = up refl in absurd (cc)
same_told true true true a b up same = ap Some (same refl refl)

changed_told : (f : List Row → List Row) (p o n : Bool) (a b : List Row) → (IsTrue n → IsTrue o) → (IsTrue p → IsTrue n → f a ≡ b) → Stays (option_map f (told_if (p && o) a)) (told_if (p && n) b)
changed_told f false o n a b up same = tt
changed_told f true o false a b up same = tt
changed_told f true false true a b up same = let e = up refl in absurd (cc)
changed_told f true true true a b up same = ap Some (same refl refl)

if_told : (p n : Bool) (P : List Row → Type 0) (rows : List Row) → (IsTrue p → IsTrue n → P rows) → IfSome (told_if (p && n) rows) P
if_told false n P rows h = tt
if_told true false P rows h = tt
if_told true true P rows h = h refl refl

told_stays : (o : Bool) (rows : List Row) → Stays (Some rows) (told_if (true && o) rows)
told_stays true rows = refl
told_stays false rows = tt

told_is : (p o : Bool) (rows : List Row) → IsTrue p → IsTrue o → told_if (p && o) rows ≡ Some rows
told_is p o rows prepared open_ = rw (prepared, open_) refl

-- ---- databases

-- trees are the trees of one database at most
same_database : (a b : Database) → IsDatabase a → IsDatabase b → a.trees ≡ b.trees → a ≡ b
same_database a b p q e =
    let s = lists_once (b.trees catalog_tree) a.schema b.schema (subst (λ (t : Trees). Lists (t catalog_tree) a.schema) e p.lists) q.lists in
    λ i. record { schema = s i; trees = e i }

-- what a batch makes of the tables, also of what a crash leaves of it
changed : (batch : List RowChange) (a b : Database) → Becomes batch a b → ∥ HasTables a ∥₁ → with_row_changes (rows_of a) batch ≡ rows_of b
changed batch a b becomes some = ∥∥₁_elim some (rows_set _ _) (λ has. sym (becomes has).told_is)

left_changed : (batch : List RowChange) (a made db : Database) → Becomes batch a made → IsDatabase a → IsDatabase db → db.trees ≡ made.trees → ∥ HasTables a ∥₁ → with_row_changes (rows_of a) batch ≡ rows_of db
left_changed batch a made db becomes sound is same some =
    ∥∥₁_elim some (rows_set _ _) (λ has. let it = becomes has in sym it.told_is ∙ ap rows_of (sym (same_database db made is (it.sound sound) same)))

-- what a commit says of its connection
pub record Committed {X : Type 0} (batch : List RowChange) (result : Result X Error) (old new : State) : Type 0 where
  pub settled : OnOk result (IsTrue old.is_open → old.now ≡ old.committed)
  pub sound : IsTrue old.is_open → IsDatabase old.committed
  pub done : HasCleanDisk new → OnOk result (Becomes batch old.now new.committed)
  pub opened : HasCleanDisk new → OnOk result (IsTrue new.is_open)
  pub left : HasCleanDisk new → OnOk result ((trees : Trees) → new.may_leave trees → trees ≡ new.committed.trees)
  pub kept : HasCleanDisk new → IsTrue new.is_open → OnErr result (new.committed ≡ old.committed)
  pub was_open : HasCleanDisk new → IsTrue new.is_open → IsTrue old.is_open
  pub crash : Survives old new (λ trees. Leaves batch old trees × (IsTrue old.is_open → old.now ≡ old.committed))

-- ---- calls

clean_if : (is_clean is_open : Bool) → (is_clean ≡ false → is_open ≡ false) → IsTrue is_open → IsTrue is_clean
clean_if true is_open shut h = refl
clean_if false is_open shut h = let e = shut refl in absurd (cc)

-- of a keeper that was prepared just now
module _ {X : Type 0} (result : Result X Error) (old new : State) where
  if_made : (r : Result X Error) (P : Type 0) → OnOk r P → IsTrue (is_ok r) → P
  if_made (Ok x) P h made = h
  if_made (Err e) P h made = absurd (cc)

  pub stands_made : OnOk result (IsTrue new.is_open → HasTables new.committed) → IsTrue (is_ok result) → IsTrue new.is_open → ∥ HasTables new.committed ∥₁
  stands_made stand made n = ∣ if_made result _ stand made n ∣₁

  -- while a store is open a crash leaves what was committed
  pub left_made : (settled : (trees : Trees) → IsTrue new.is_open → new.may_leave trees → trees ≡ new.committed.trees) → (IsTrue new.is_open → IsDatabase new.committed)
      → (prepared : Bool) → IfSome (told prepared new) (λ rows. LeavesOnly (λ left. left ≡ rows) new)
  left_made settled sound prepared = if_told prepared new.is_open (λ rows. LeavesOnly (λ left. left ≡ rows) new) (rows_of new.committed) (λ p n c db is may. ap rows_of (same_database db new.committed is (sound n) (settled db.trees n may)))

  -- and the law on calls one after the other may begin
  pub kept_made : (settled : (trees : Trees) → IsTrue new.is_open → new.may_leave trees → trees ≡ new.committed.trees) → (IsTrue new.is_open → IsDatabase new.committed)
      → (prepared : Bool) → IfSome (told prepared new) (λ rows. IsKept (record { rows = rows; left = rows ∷ [] }) new)
  kept_made settled sound prepared = if_told prepared new.is_open (λ rows. IsKept (record { rows = rows; left = rows ∷ [] }) new) (rows_of new.committed) (λ p n. record {
    told_is = told_stays new.is_open (rows_of new.committed);
    left = λ c db is may. inl (ap rows_of (same_database db new.committed is (sound n) (settled db.trees n may)));
  })

  pub told_made : OnOk result (IsTrue new.is_open → rows_of new.committed ≡ rows_of old.committed) → IfSome (told (is_ok result) new) (λ rows. rows_of old.committed ≡ rows)
  told_made same = if_told _ _ _ _ (λ made n. sym (if_made result _ same made n))

module _ (prepared : Bool) (old new : State)
    (stands : IsTrue prepared → IsTrue old.is_open → ∥ HasTables old.committed ∥₁)
    (shut : new.is_clean ≡ false → new.is_open ≡ false) where
  clean : IsTrue new.is_open → HasCleanDisk new
  clean h = no_doubt _ (clean_if _ _ shut h)

  module _ (kept : HasCleanDisk new → KeepsCommit old new) where
    pub stands_read : IsTrue prepared → IsTrue new.is_open → ∥ HasTables new.committed ∥₁
    stands_read p n = let k = kept (clean n) in subst (λ db. ∥ HasTables db ∥₁) (sym (k.committed n)) (stands p (k.was_open n))

    pub told_read : Stays (told prepared old) (told prepared new)
    told_read = same_told _ _ _ _ _ (λ n. (kept (clean n)).was_open n) (λ p n. ap rows_of (sym ((kept (clean n)).committed n)))

    pub rows_read : (r : Result (List Row) Error) → (HasCleanDisk new → IfOk r (λ rows. HasTables old.committed → rows ≡ rows_of old.committed)) → IfOk (answered r) (λ rows. IfSome (told prepared new) (λ t. rows ≡ t))
    rows_read (Ok rows) are = if_told _ _ _ _ (λ p n.
        let k = kept (clean n) in
        ∥∥₁_elim (stands p (k.was_open n)) (rows_set _ _) (are (clean n)) ∙ ap rows_of (sym (k.committed n)))
    rows_read (Err e) are = tt

  module _ {X : Type 0} (batch : List RowChange) (result : Result X Error) (it : Committed batch result old new) where
    -- what the batch made of what was committed
    becomes : (r : Result X Error) → OnOk r (IsTrue old.is_open → old.now ≡ old.committed) → OnOk r (Becomes batch old.now new.committed) → IsTrue old.is_open → OnOk r (Becomes batch old.committed new.committed)
    becomes (Ok x) settled done o = subst (λ db. Becomes batch db new.committed) (settled o) done
    becomes (Err e) settled done o = tt

    made : HasCleanDisk new → IsTrue old.is_open → OnOk result (Becomes batch old.committed new.committed)
    made c o = becomes result it.settled (it.done c) o

    stands_after : (r : Result X Error) → OnOk r (Becomes batch old.committed new.committed) → OnErr r (new.committed ≡ old.committed) → ∥ HasTables old.committed ∥₁ → ∥ HasTables new.committed ∥₁
    stands_after (Ok x) d k some = ∥∥₁_map some (λ has. (d has).tables)
    stands_after (Err e) d k some = subst (λ db. ∥ HasTables db ∥₁) (sym k) some

    pub stands_then : IsTrue prepared → IsTrue new.is_open → ∥ HasTables new.committed ∥₁
    stands_then p n = let o = it.was_open (clean n) n in stands_after result (made (clean n) o) (it.kept (clean n) n) (stands p o)

    pub done_told : OnOk result (Stays (with_batch batch (told prepared old)) (told prepared new))
    done_told = go result made
      where
        go : (r : Result X Error) → (HasCleanDisk new → IsTrue old.is_open → OnOk r (Becomes batch old.committed new.committed)) → OnOk r (Stays (with_batch batch (told prepared old)) (told prepared new))
        go (Ok x) m = changed_told _ _ _ _ _ _ (λ n. it.was_open (clean n) n) (λ p n. let o = it.was_open (clean n) n in changed batch old.committed new.committed (m (clean n) o) (stands p o))
        go (Err e) m = tt

    pub kept_told : OnErr result (Stays (told prepared old) (told prepared new))
    kept_told = go result it.kept
      where
        go : (r : Result X Error) → (HasCleanDisk new → IsTrue new.is_open → OnErr r (new.committed ≡ old.committed)) → OnErr r (Stays (told prepared old) (told prepared new))
        go (Ok x) k = tt
        go (Err e) k = same_told _ _ _ _ _ (λ n. it.was_open (clean n) n) (λ p n. ap rows_of (sym (k (clean n) n)))

    with_rows : (rows : List Row) → IsTrue prepared → IsTrue old.is_open → with_row_changes (rows_of old.committed) batch ≡ rows → with_batch batch (told prepared old) ≡ Some rows
    with_rows rows p o same = ap (with_batch batch) (told_is _ _ _ p o) ∙ ap Some same

    pub left_rows : IsTrue prepared → OnOk result (LeavesOnly (λ rows. with_batch batch (told prepared old) ≡ Some rows) new)
    left_rows p = go result made it.opened it.left
      where
        go : (r : Result X Error) → (HasCleanDisk new → IsTrue old.is_open → OnOk r (Becomes batch old.committed new.committed)) → (HasCleanDisk new → OnOk r (IsTrue new.is_open))
            → (HasCleanDisk new → OnOk r ((trees : Trees) → new.may_leave trees → trees ≡ new.committed.trees))
            → OnOk r (LeavesOnly (λ rows. with_batch batch (told prepared old) ≡ Some rows) new)
        go (Ok x) m n l = λ c db is may. let o = it.was_open c (n c) in with_rows _ p o (left_changed batch old.committed new.committed db (m c o) (it.sound o) is (l c db.trees may) (stands p o))
        go (Err e) m n l = tt

    pub crash_rows : IsTrue prepared → AlsoLeaves (λ rows. with_batch batch (told prepared old) ≡ Some rows) old new
    crash_rows p = record {
      clean = λ c. omega (arith, it.crash.clean, c);
      crash = λ c db is may. either db is (it.crash.crash c db.trees may);
    }
      where
        either : (db : Database) → IsDatabase db → old.may_leave db.trees ⊎ (Leaves batch old db.trees × (IsTrue old.is_open → old.now ≡ old.committed))
            → old.may_leave db.trees ⊎ (with_batch batch (told prepared old) ≡ Some (rows_of db))
        either db is (inl before) = inl before
        either db is (inr (leaves, settled)) =
            let o = leaves.was_open in
            inr (with_rows _ p o (left_changed batch old.committed leaves.db db (subst (λ a. Becomes batch a leaves.db) (settled o) leaves.becomes) (it.sound o) is leaves.is (stands p o)))
