-- The office that a command opens, and one that it does not.
use Rattle.std.proofs.Common.{◌≡◌, ℕ, ◌⊎◌, inl, inr, Bool, true, false, cond, ◌||◌, List, Option, Some, None, refl, sym, ap, subst, ◌∙◌, arith}
use Rattle.std.specs.Prelude.{◌↔◌, IfErr, IfOk, IfSome, IsSome, IsTrue, Result, Ok, Err, IsErrAnd}
use Rattle.std.specs.Option.{option_map}
use Rattle.std.proofs.Math.Bool.{or-true}
use Rattle.aq_base.specs.Faults.{HasRisen}
use Rattle.aq_book.proofs.OpenedFronts.{no-opening_damage}
use Rattle.aq_book.specs.Migrating.{IsMigrationFault}
use Rattle.aq_keeper.proofs.Telling.{stays, stays_as, stays_join, stays_still}
use Rattle.aq_keeper.specs.Told.{KeeperView, Stays, told_through}
use Rattle.aq_rules.specs.Kept.Migration.{are_version_1, can_be_opened, migrated, migration_batch, opening_damage}
use Rattle.aq_rules.specs.Kept.RowChanges.{RowChange, with_row_changes}
use Rattle.aq_rules.specs.Kept.Rows.{Place, Row, are_office_rows, damage, office_in, office_of_rows, rows_of}
use Rattle.aq_rules.specs.Office.Office.{IsOffice, Office}
use Rattle.aq_rows.specs.Opening.{IsOpenFault}
use Rattle.aq_rows.specs.declared.opening.OpenFault.{OpenFault}
use Rattle.aq_rows.specs.declared.opening.OpenFault.TheVariants as opening
use Rattle.aq_desk.proofs.Tables.{cut_gives, keeps_at_most_opened, keeps_still, of_any, stopped_gives, tells_before, tells_still, told_since}
use Rattle.aq_desk.proofs.Unread.{stopped_by}
use Rattle.aq_desk.specs.Command.{AtMostOpened, Outcome, RisesAt, leaving, opened_rows, unwritten}
use Rattle.aq_desk.specs.Ending.{damaged}
use Rattle.aq_desk.specs.Office.{HasOpened, IsOpened, IsUnopened, OnlyMigrates, over_damage, over_office}
use Rattle.aq_outside.specs.Outside.{IsAll, OfTold}
use Rattle.aq_desk.specs.Stop.{Gives, IsUnprinted, ending_at, status_of, stop_of_book}
use Rattle.aq_desk.specs.declared.stop.Stop.{Stop}
use Rattle.aq_desk.specs.declared.stop.Stop.TheVariants.{KeeperFailed, Damaged, Memory}

-- ---- rows that are opened

-- rows that give an office are its own
office-found : (b : Bool) (found office : Office) → cond b (Some found) None ≡ Some office → (b ≡ true) × (found ≡ office)
office-found true found office is = (refl, cc)
office-found false found office is = absurd (cc)

opened-office : (rows : List Row) → are_version_1 rows ≡ false → opened_rows rows ≡ rows
unfolding opened_rows
opened-office rows new = ap (λ (b : Bool). cond b (migrated rows) rows) new

opened-old : (rows : List Row) → are_version_1 rows ≡ true → opened_rows rows ≡ migrated rows
unfolding opened_rows
opened-old rows old = ap (λ (b : Bool). cond b (migrated rows) rows) old

office-undamaged : (rows : List Row) → are_office_rows rows ≡ true → opening_damage rows ≡ None
unfolding can_be_opened
office-undamaged rows is = no-opening_damage rows (ap (λ b. b || are_version_1 rows) is)

old-undamaged : (rows : List Row) → are_version_1 rows ≡ true → opening_damage rows ≡ None
unfolding can_be_opened
old-undamaged rows old = no-opening_damage rows (ap (λ b. are_office_rows rows || b) old ∙ or-true (are_office_rows rows))

-- rows with a damaged one are no office's
pub no_office : (rows : List Row) (place : Place) → ((rs : List Row) → (damage rs ≡ None) ↔ IsTrue (are_office_rows rs)) → damage rows ≡ Some place → are_office_rows rows ≡ false
no_office rows place undamaged at = by_test (are_office_rows rows) refl
  where
    some-none : {A : Type 0} (a : A) → Some a ≡ None → ⊥
    some-none a is = absurd (cc)

    by_test : (b : Bool) → are_office_rows rows ≡ b → are_office_rows rows ≡ false
    by_test true is = absurd (some-none place (sym at ∙ (undamaged rows).1 is))
    by_test false is = is

told-rows : (before after : Option (List Row)) (rows : List Row) → IfSome before (λ told. rows ≡ told) → IsAll (told_through before after) rows
told-rows (Some all) (Some later) rows told = sym told
told-rows None (Some later) rows told = tt
told-rows before None rows told = tt

become : (tables : Option (List Row)) (rows : List Row) → IfSome tables (λ told. rows ≡ told) → opened_rows rows ≡ rows → Stays (option_map opened_rows tables) tables
become None rows told same = tt
become (Some all) rows told same = ap Some (ap opened_rows (sym told) ∙ same ∙ told)

module _ (are : (rs : List Row) → IsTrue (are_office_rows rs) → rows_of (office_in rs) ≡ rs) (valid : (rs : List Row) → IsTrue (are_office_rows rs) → IsOffice (office_in rs)) where
  -- rows, and the office's that they become
  opened-as : (rows standing : List Row) (office : Office) → opening_damage rows ≡ None → opened_rows rows ≡ standing → office_of_rows standing ≡ Some office → IsOpened rows office
  unfolding office_of_rows
  opened-as rows standing office undamaged become found =
      let is = office-found (are_office_rows standing) (office_in standing) office found in
      record {
        undamaged = undamaged;
        is_office = ap office_in become ∙ is.1;
        are_rows = ap rows_of (sym is.1) ∙ are standing is.0 ∙ sym become;
        valid = subst IsOffice is.1 (valid standing is.0);
      }

  -- of an office's rows the tables stay as they are
  pub office_opened : (tables : Option (List Row)) (rows : List Row) (office : Office) → ((rs : List Row) → IsTrue (are_office_rows rs) → are_version_1 rs ≡ false)
      → IfSome tables (λ told. rows ≡ told) → office_of_rows rows ≡ Some office → HasOpened office tables tables
  unfolding office_of_rows
  office_opened tables rows office once told found =
      let is = office-found (are_office_rows rows) (office_in rows) office found in
      let same = opened-office rows (once rows is.0) in
      record {
        opened = record { all = rows; is_all = told-rows tables tables rows told; says = opened-as rows rows office (office-undamaged rows is.0) same found };
        tables = become tables rows told same;
      }

  -- and those of version 1 are migrated
  pub old_opened : (before after : Option (List Row)) (rows standing : List Row) (office : Office) → are_version_1 rows ≡ true → standing ≡ migrated rows
      → IfSome before (λ told. rows ≡ told) → Stays (option_map opened_rows before) after → office_of_rows standing ≡ Some office → HasOpened office before after
  old_opened before after rows standing office old is told now found = record {
    opened = record { all = rows; is_all = told-rows before after rows told; says = opened-as rows standing office (old-undamaged rows old) (opened-old rows old ∙ sym is) found };
    tables = now;
  }

-- the tables after the commit of a migration
pub committed : (before after : Option (List Row)) (rows : List Row) (batch : List RowChange) → are_version_1 rows ≡ true → batch ≡ migration_batch rows → with_row_changes rows (migration_batch rows) ≡ migrated rows
    → IfSome before (λ told. rows ≡ told) → Stays (option_map (λ told. with_row_changes told batch) before) after → Stays (option_map opened_rows before) after
committed None after rows batch old is gives told done = done
committed (Some all) after rows batch old is gives told done =
    let same = ap (λ (rs : List Row). with_row_changes rs batch) (sym told) ∙ ap (with_row_changes rows) is ∙ gives ∙ sym (opened-old rows old) ∙ ap opened_rows told in
    stays_as (Some (with_row_changes all batch)) (Some (opened_rows all)) after (ap Some (sym same)) done

-- ---- the keeper was not asked again

pub not_remembered : (tables : Option (List Row)) (m : ℕ) → IsUnopened tables tables m m Memory
not_remembered tables m = (inl (stays tables), refl)

pub not_migrated : {A : Type 0} (answer : Result A Stop) (tables : Option (List Row)) (m : ℕ) (rows : List Row) (why : OpenFault) → IsErrAnd answer (λ stop. stop ≡ stop_of_book why) → IsMigrationFault rows why
    → IfSome tables (λ told. rows ≡ told) → IfErr answer (IsUnopened tables tables m m)
not_migrated answer tables m rows why is fault told =
    subst (λ r. IfErr r (IsUnopened tables tables m m)) (sym (stopped_by answer (stop_of_book why) is)) (by why fault)
  where
    by : (w : OpenFault) → IsMigrationFault rows w → IsUnopened tables tables m m (stop_of_book w)
    by (opening.Damaged place) at = (stays tables, refl, record { all = rows; is_all = told-rows tables tables rows told; says = at })
    by opening.Memory at = not_remembered tables m

-- ---- the rows were read before, by a call that changes nothing

over-since : (before read after : Option (List Row)) (Says : List Row → Type 0) → (IsSome after → IsSome read) → Stays before read → OfTold (told_through read after) Says → OfTold (told_through before after) Says
over-since before read after Says tells stays over = record { all = over.all; is_all = told_since before read after over.all tells stays over.is_all; says = over.says }

pub read_opened : (before read after : Option (List Row)) (office : Office) → Stays before read → HasOpened office read after → HasOpened office before after
read_opened before read after office stays has = record {
  opened = over-since before read after (λ rows. IsOpened rows office) (tells_before opened_rows read after has.tables) stays has.opened;
  tables = stays_join opened_rows before read after stays has.tables;
}

pub read_unopened : (before read after : Option (List Row)) (m k n : ℕ) (stop : Stop) → Stays before read → k ≡ m → IsUnopened read after k n stop → IsUnopened before after m n stop
read_unopened before read after m k n KeeperFailed stays steady cause =
    (stays_still before read after stays cause.0, subst (λ (j : ℕ). HasRisen j n) steady cause.1)
read_unopened before read after m k n Memory stays steady cause = (by cause.0, cause.1 ∙ steady)
  where
    by : AtMostOpened read after → AtMostOpened before after
    by (inl same) = inl (stays_still before read after stays same)
    by (inr opened) = inr (stays_join opened_rows before read after stays opened)
read_unopened before read after m k n (Damaged place) stays steady cause = (
  stays_still before read after stays cause.0,
  cause.1 ∙ steady,
  over-since before read after (λ rows. opening_damage rows ≡ Some (record { table = place.table; index = place.index })) (tells_still read after cause.0) stays cause.2,
)
read_unopened before read after m k n _ stays steady cause = absurd cause

pub stopped_unopened : {A : Type 0} (answer : Result A Stop) (before read after : Option (List Row)) (m k n : ℕ) (stop : Stop) → IsErrAnd answer (λ why. why ≡ stop)
    → Stays before read → k ≡ m → IsUnopened read after k n stop → IfErr answer (IsUnopened before after m n)
stopped_unopened answer before read after m k n stop is stays steady cause =
    subst (λ r. IfErr r (IsUnopened before after m n)) (sym (stopped_by answer stop is)) (read_unopened before read after m k n stop stays steady cause)

-- an office for whose cells no memory could be had
pub unfilled : {A : Type 0} (answer : Result A Stop) (before read after : Option (List Row)) (m k n : ℕ) (office : Office) → IsErrAnd answer (λ stop. stop ≡ Memory)
    → Stays before read → k ≡ m → HasOpened office read after → n ≡ k → IfErr answer (IsUnopened before after m n)
unfilled answer before read after m k n office is stays steady has same =
    subst (λ r. IfErr r (IsUnopened before after m n)) (sym (stopped_by answer Memory is)) (inr (read_opened before read after office stays has).tables, same ∙ steady)

-- ---- what was committed

-- nothing, by a call that reads
pub read_migrates : (before after : KeeperView) → after.commits ≡ before.commits → OnlyMigrates before after
read_migrates before after same = of_any (told_through before.tables after.tables) (λ rows. are_version_1 rows ≡ false → after.commits ≡ before.commits) (λ rows new. same)

module _ (before read after : KeeperView) (rows : List Row) (told : IfSome read.tables (λ told. rows ≡ told)) (kept : Stays before.tables read.tables) (same : read.commits ≡ before.commits)
    (untouched : are_version_1 rows ≡ false → after.commits ≡ read.commits) where
  then-migrates : (IsSome after.tables → IsSome read.tables) → OnlyMigrates before after
  then-migrates tells = over-since before.tables read.tables after.tables (λ rows. are_version_1 rows ≡ false → after.commits ≡ before.commits) tells kept (record {
    all = rows;
    is_all = told-rows read.tables after.tables rows told;
    says = λ new. untouched new ∙ same;
  })

  -- nor of rows of today, if the office was opened
  pub opened_migrates : (office : Office) → HasOpened office read.tables after.tables → OnlyMigrates before after
  opened_migrates office has = then-migrates (tells_before opened_rows read.tables after.tables has.tables)

  -- or was not
  pub unopened_migrates : (m n : ℕ) (stop : Stop) → IsUnopened read.tables after.tables m n stop → OnlyMigrates before after
  unopened_migrates m n KeeperFailed cause = then-migrates (tells_still read.tables after.tables cause.0)
  unopened_migrates m n Memory cause = then-migrates (at-most cause.0)
    where
      at-most : AtMostOpened read.tables after.tables → IsSome after.tables → IsSome read.tables
      at-most (inl stays) = tells_still read.tables after.tables stays
      at-most (inr opened) = tells_before opened_rows read.tables after.tables opened
  unopened_migrates m n (Damaged place) cause = then-migrates (tells_still read.tables after.tables cause.0)
  unopened_migrates m n _ cause = absurd cause

-- none of an office's rows is damaged
pub undamaged : (rows : List Row) (place : Place) → ((rs : List Row) → (damage rs ≡ None) ↔ IsTrue (are_office_rows rs)) → are_office_rows rows ≡ true → damage rows ≡ Some place → ⊥
undamaged rows place named is at =
    let found : are_office_rows rows ≡ false = no_office rows place named at in
    absurd (cc)

-- nor of migrated ones
pub undamaged_old : (rows standing : List Row) (place : Place) → ((rs : List Row) → (damage rs ≡ None) ↔ IsTrue (are_office_rows rs)) → ((rs : List Row) → IsTrue (are_version_1 rs) → IsTrue (are_office_rows (migrated rs)))
    → are_version_1 rows ≡ true → standing ≡ migrated rows → damage standing ≡ Some place → ⊥
undamaged_old rows standing place named office old is at = undamaged standing place named (ap are_office_rows is ∙ office rows old) at

-- only what is of version 1 is changed
pub only_old : {X : Type 0} (rows : List Row) → are_version_1 rows ≡ true → are_version_1 rows ≡ false → X
only_old rows old new = absurd (cc)

-- so nothing but memory stops them from being opened
pub undamaged_stops : {A : Type 0} (answer : Result A Stop) (before after : Option (List Row)) (m n : ℕ) (standing : List Row) (why : OpenFault) → IsErrAnd answer (λ stop. stop ≡ stop_of_book why) → IsOpenFault standing why
    → ((place : Place) → damage standing ≡ Some place → ⊥) → IsUnopened before after m n Memory → IfErr answer (IsUnopened before after m n)
undamaged_stops answer before after m n standing why is fault undamaged lost =
    subst (λ r. IfErr r (IsUnopened before after m n)) (sym (stopped_by answer (stop_of_book why) is)) (by why fault)
  where
    by : (w : OpenFault) → IsOpenFault standing w → IsUnopened before after m n (stop_of_book w)
    by (opening.Damaged place) at = absurd (undamaged place at)
    by opening.Memory at = lost

-- what holds of an answer, for any that it may be
pub if_ok : {A E : Type 0} {P Q : A → Type 0} (r : Result A E) → ((a : A) → P a → Q a) → IfOk r P → IfOk r Q
if_ok (Ok value) implies holds = implies value holds
if_ok (Err fault) implies holds = tt

pub if_err : {A E : Type 0} {P Q : E → Type 0} (r : Result A E) → ((e : E) → P e → Q e) → IfErr r P → IfErr r Q
if_err (Ok value) implies holds = tt
if_err (Err fault) implies holds = implies fault holds

-- ---- what follows over the office

pub over_opened : (rows : List Row) (office : Office) (next : Office → Outcome) → IsOpened rows office → over_office rows next ≡ next office
unfolding over_office
over_opened rows office next opened = ap (λ place. over_damage place rows next) opened.undamaged ∙ ap next opened.is_office

pub over_damaged : (rows : List Row) (place : Place) (next : Office → Outcome) → opening_damage rows ≡ Some place → over_office rows next ≡ leaving rows (unwritten (damaged place))
unfolding over_office
over_damaged rows place next found = ap (λ place. over_damage place rows next) found

-- ---- an office that is not opened

unopened-gives : (before after : Option (List Row)) (m n : ℕ) (stop : Stop) (next : Office → Outcome) → IsUnopened before after m n stop → OfTold (told_through before after) (λ rows. Gives (over_office rows next) (Err stop) before after)
unopened-gives before after m n KeeperFailed next cause =
    of_any (told_through before after) (λ rows. Gives (over_office rows next) (Err KeeperFailed) before after) (λ rows.
    cut_gives (over_office rows next) KeeperFailed before after (λ kept. omega (arith, kept)) (keeps_at_most_opened (over_office rows next).rows 5 before after (λ kept. omega (arith, kept)) (λ three. omega (arith, three)) (inl cause.0)))
unopened-gives before after m n Memory next cause =
    of_any (told_through before after) (λ rows. Gives (over_office rows next) (Err Memory) before after) (λ rows.
    cut_gives (over_office rows next) Memory before after (λ kept. omega (arith, kept)) (keeps_at_most_opened (over_office rows next).rows 7 before after (λ kept. omega (arith, kept)) (λ three. omega (arith, three)) cause.0))
unopened-gives before after m n (Damaged place) next cause =
    let rows = cause.2.all in
    let P = λ (o : Outcome). Gives o (Err (Damaged place)) before after in
    record {
      all = rows;
      is_all = cause.2.is_all;
      says = subst P (sym (over_damaged rows (record { table = place.table; index = place.index }) next cause.2.says)) (stopped_gives rows before after (Damaged place) (keeps_still rows 6 before after (λ three. omega (arith, three)) cause.2.is_all cause.0));
    }
unopened-gives before after m n _ next cause = absurd cause

pub unopened_gives : (before after : Option (List Row)) (m n : ℕ) (stop : Stop) (next : Office → Outcome) (answer : Result (List ℕ) Stop) → IsErrAnd answer (λ why. why ≡ stop) → IsUnopened before after m n stop → OfTold (told_through before after) (λ rows. Gives (over_office rows next) answer before after)
unopened_gives before after m n stop next answer is cause =
    let P = λ (r : Result (List ℕ) Stop). OfTold (told_through before after) (λ rows. Gives (over_office rows next) r before after) in
    subst P (sym (stopped_by answer stop is)) (unopened-gives before after m n stop next cause)

-- the statuses of an office that is not opened, with the keeper's count
abbrev pub IsFault : ℕ → ℕ → ℕ → Type 0
IsFault m n status = ((status ≡ 5) × HasRisen m n) ⊎ (((status ≡ 6) ⊎ (status ≡ 7)) × (n ≡ m))

unopened-fault : (before after : Option (List Row)) (m n : ℕ) (stop : Stop) → IsUnopened before after m n stop → IsFault m n (ending_at stop).status
unopened-fault before after m n KeeperFailed cause = inl (refl, cause.1)
unopened-fault before after m n Memory cause = inr (inr refl, cause.1)
unopened-fault before after m n (Damaged place) cause = inr (inl refl, cause.1)
unopened-fault before after m n _ cause = absurd cause

pub fault-unprinted : (m n : ℕ) (stop : Stop) → IsFault m n (ending_at stop).status → IsUnprinted stop
fault-unprinted m n stop (inl five) = inl five.0
fault-unprinted m n stop (inr (inl six, same)) = inr (inl six)
fault-unprinted m n stop (inr (inr seven, same)) = inr (inr (inl seven))

pub fault-rises : (m n status : ℕ) → IsFault m n status → RisesAt 5 status m n
fault-rises m n status (inl five) = record { rises = λ _. five.1; stays = λ other. absurd (other five.0) }
fault-rises m n status (inr (other, same)) = record { rises = λ five. absurd (omega (arith, five, other)); stays = λ _. same }

pub unopened_unprinted : (before after : Option (List Row)) (m n : ℕ) (stop : Stop) → IsUnopened before after m n stop → IsUnprinted stop
unopened_unprinted before after m n stop cause = fault-unprinted m n stop (unopened-fault before after m n stop cause)

pub unopened_rises : (before after : Option (List Row)) (m n : ℕ) (stop : Stop) (answer : Result (List ℕ) Stop) → IsErrAnd answer (λ why. why ≡ stop) → IsUnopened before after m n stop → RisesAt 5 (status_of answer) m n
unopened_rises before after m n stop answer is cause =
    let P = λ (r : Result (List ℕ) Stop). RisesAt 5 (status_of r) m n in
    subst P (sym (stopped_by answer stop is)) (fault-rises m n (ending_at stop).status (unopened-fault before after m n stop cause))
