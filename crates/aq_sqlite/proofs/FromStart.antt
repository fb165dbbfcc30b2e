-- What is told behind an opening, by what the files held.
use Rattle.std.proofs.Common.{◌≡◌, ◌∙◌, ◌&&◌, Bool, true, false, List, IsTrue, IfSome, refl, sym}
use Rattle.sqlite_trees.proofs.Doubt.{no_doubt}
use Rattle.sqlite_wal.specs.Recovery.{Image}
use Rattle.sqlite.specs.Effect.{Database, IsDatabase}
use Rattle.sqlite.specs.State.{State, HasCleanDisk, IsLive, Opens}
use Rattle.sqlite.specs.Start.{FindsIn}
use Rattle.sqlite.specs.Files.{AreFoundIn}
use Rattle.aq_rules.specs.Kept.Rows.{Row}
use Rattle.aq_tables.specs.All.{rows_of}
use Rattle.aq_sqlite.specs.Telling.{told, told_if}

if_both : (p n : Bool) (rows : List Row) (P Q : List Row → Type 0) → (P rows → Q rows) → IfSome (told_if (p && n) rows) P → IfSome (told_if (p && n) rows) Q
if_both false n rows P Q f h = tt
if_both true false rows P Q f h = tt
if_both true true rows P Q f h = f h

pub found_rows : (prepared : Bool) (was new : State) (image : Image) → Opens was → IsLive was → FindsIn image was
    → IfSome (told prepared new) (λ rows. rows_of was.committed ≡ rows)
    → IfSome (told prepared new) (λ rows. (db : Database) × IsDatabase db × AreFoundIn image db.trees × (rows ≡ rows_of db))
found_rows prepared was new image opens live found same =
    if_both prepared new.is_open (rows_of new.committed) _ _ (λ e. (was.committed, (live opens.is_open).1, found.reads, sym e)) same

if_open : (p n : Bool) (rows : List Row) (C : Type 0) (P Q : List Row → Type 0) → (IsTrue n → C) → (P rows → Q rows) → (C → IfSome (told_if (p && n) rows) P) → IfSome (told_if (p && n) rows) Q
if_open false n rows C P Q c f h = tt
if_open true false rows C P Q c f h = tt
if_open true true rows C P Q c f h = f (h (c refl))

clean_if : (is_clean is_open : Bool) → (is_clean ≡ false → is_open ≡ false) → IsTrue is_open → IsTrue is_clean
clean_if true is_open shut h = refl
clean_if false is_open shut h = let e = shut refl in absurd (cc)

pub found_is : (rows : List Row) (prepared : Bool) (s : State) (image : Image) → (s.is_clean ≡ false → s.is_open ≡ false)
    → ((db : Database) → IsDatabase db → AreFoundIn image db.trees → rows_of db ≡ rows)
    → (HasCleanDisk s → IfSome (told prepared s) (λ found. (db : Database) × IsDatabase db × AreFoundIn image db.trees × (found ≡ rows_of db)))
    → IfSome (told prepared s) (λ found. rows ≡ found)
found_is rows prepared s image shut holds h =
    if_open prepared s.is_open (rows_of s.committed) (HasCleanDisk s) _ _ (λ n. no_doubt _ (clean_if _ _ shut n)) (λ it. sym (it.3 ∙ holds it.0 it.1 it.2)) h
