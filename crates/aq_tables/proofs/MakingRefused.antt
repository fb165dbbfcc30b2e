-- What the making of the tables is refused for, and what a database is refused for before.
use Rattle.std.proofs.Common.{◌≡◌, ◌⊎◌, ◌≤◌, inl, inr, ℕ, ◌+◌, List, [], ◌∷◌, ◌++◌, take, drop, map, Bool, true, false, Option, Result, IfErr, IsTrue, refl, sym, ap, subst, ◌∙◌, append-nil, append_assoc, arith}
use Rattle.std.proofs.lemmas.Bool.{false≢true}
use Rattle.sqlite_trees.specs.declared.store.Store.{Ghosts}
use Rattle.sqlite.specs.declared.error.Error.{Error}
use Rattle.sqlite.specs.declared.error.Error.TheVariants.{SqliteFailure}
use Rattle.sqlite.specs.declared.error.ErrorCode.TheVariants.{NotADatabase, TransactionState}
use Rattle.sqlite.specs.Effect.{Database}
use Rattle.sqlite.specs.State.{State, HasCleanDisk, Survives}
use Rattle.sqlite.specs.Held.{Held, state}
use Rattle.aq_rules.specs.Kept.Rows as the_rows
use Rattle.aq_rules.specs.Kept.Rows.{ObsRow2, OfSecondRow}
use Rattle.aq_tables.specs.declared.missing.Missing.{Missing}
use Rattle.aq_tables.specs.declared.reading.Table.{Table as Which}
use Rattle.aq_tables.specs.declared.reading.Table.TheVariants.{Second}
use Rattle.aq_tables.specs.All.{rows_in}
use Rattle.aq_tables.specs.Made.{AreMissing, IsOffice}
use Rattle.aq_tables.specs.Told.{second}
use Rattle.aq_tables.specs.Texts.{read_text, rowids_text}
use Rattle.aq_tables.specs.Sixteen.{AreNumbered, IsStill, MovesAll}
use Rattle.aq_tables.specs.Why.{IsCaused, IsEndless, OrBegun, RefusesAnswer, RefusesPut, RefusesPuts, RefusesRead}
use Rattle.aq_tables.specs.WhyMade.{DoesNotRise, RefusesFile, RefusesMaking, RefusesMove, RefusesMoves, RefusesOffice, RefusesRowids, ShowsNoRowid, is_missing_in}
use Rattle.aq_tables.proofs.Causes.{answer_as, answer_later, caused_as, caused_before, caused_later}
use Rattle.aq_tables.proofs.ReadRefused.{answer_since}
use Rattle.aq_tables.proofs.Refused.{parts}
use Rattle.aq_tables.proofs.RowsMoved.{moves_none, moves_still, moves_then}

-- ---- rows are moved

pub move_refused : {X : Type 0} (row : the_rows.Row) (it : ObsRow2) (old new : State) (r : Result X Error) → row ≡ OfSecondRow it → IfErr r (IsCaused (RefusesPut true (OfSecondRow it) old) old new)
    → IfErr r (IsCaused (RefusesMove row old) old new)
move_refused row it old new r is h = answer_as (RefusesPut true (OfSecondRow it) old) (RefusesMove row old) old new r (λ e why. inr (it, is, why)) h

module _ {S : Type 0} (g : Ghosts S) where
  pub one_refused : (rows : List the_rows.Row) (place : ℕ) (row : the_rows.Row) (old mid : Held S) (new : State) (e : Error) → take (place + 1) rows ≡ take place rows ++ (row ∷ [])
      → Survives (state g old) (state g mid) (λ _. ⊥) → HasCleanDisk (state g mid) → (state g mid).faults ≤ new.faults → MovesAll (take place rows) (state g old) (state g mid)
      → IsCaused (RefusesMove row (state g mid)) (state g mid) new e → IsCaused (RefusesMoves g rows old) (state g old) new e
  one_refused rows place row old mid new e next kept clean up made h =
      caused_later (RefusesMove row (state g mid)) (RefusesMoves g rows old) (state g old) (state g mid) new (λ _. ⊥) e kept clean up (λ why. record {
        before = take place rows;
        some = row ∷ [];
        after = drop (place + 1) rows;
        are = ap (λ l. l ++ drop (place + 1) rows) (sym next) ∙ parts rows (place + 1);
        mid = mid;
        limit = kept.limit;
        made = made;
        refused = inr (row, refl, why);
      }) h

  pub rows_refused : (rows : List the_rows.Row) (old : Held S) (new : State) (e : Error) → IsTrue (state g old).in_transaction
      → IsCaused (λ e. (found : List ObsRow2) × (rows ≡ map OfSecondRow found) × AreNumbered found × RefusesPuts found (state g old) e) (state g old) new e
      → IsCaused (RefusesMoves g rows old) (state g old) new e
  rows_refused rows old new e begun h =
      caused_as (λ e. (found : List ObsRow2) × (rows ≡ map OfSecondRow found) × AreNumbered found × RefusesPuts found (state g old) e) (RefusesMoves g rows old) (state g old) new e (λ why. record {
        before = [];
        some = rows;
        after = [];
        are = append-nil rows;
        mid = old;
        limit = refl;
        made = moves_none (state g old) begun;
        refused = inl why;
      }) h

  pub moves_still_refused : {X : Type 0} (rows : List the_rows.Row) (old mid : Held S) (new : State) (r : Result X Error) → Survives (state g old) (state g mid) (λ _. ⊥) → HasCleanDisk (state g mid) → (state g mid).faults ≤ new.faults
      → (IsTrue (state g mid).is_open → IsTrue (state g old).is_open) → IsStill (state g old) (state g mid) → IfErr r (IsCaused (RefusesMoves g rows mid) (state g mid) new)
      → IfErr r (IsCaused (RefusesMoves g rows old) (state g old) new)
  moves_still_refused rows old mid new r kept clean up was still h =
      answer_later (RefusesMoves g rows mid) (RefusesMoves g rows old) (state g old) (state g mid) new (λ _. ⊥) r kept clean up (λ e why. record {
        before = why.before;
        some = why.some;
        after = why.after;
        are = why.are;
        mid = why.mid;
        limit = why.limit ∙ kept.limit;
        made = moves_still why.before (state g old) (state g mid) (state g why.mid) was still why.made;
        refused = why.refused;
      }) h

  pub moves_within_refused : (all done some rest : List the_rows.Row) (old mid : Held S) (new : State) (e : Error) → done ++ (some ++ rest) ≡ all
      → Survives (state g old) (state g mid) (λ _. ⊥) → HasCleanDisk (state g mid) → (state g mid).faults ≤ new.faults
      → MovesAll done (state g old) (state g mid) → IsCaused (RefusesMoves g some mid) (state g mid) new e → IsCaused (RefusesMoves g all old) (state g old) new e
  moves_within_refused all done some rest old mid new e are kept clean up made h =
      caused_later (RefusesMoves g some mid) (RefusesMoves g all old) (state g old) (state g mid) new (λ _. ⊥) e kept clean up (λ why. record {
        before = done ++ why.before;
        some = why.some;
        after = why.after ++ rest;
        are = joined done why.before why.some why.after rest ∙ ap (λ l. done ++ (l ++ rest)) why.are ∙ are;
        mid = why.mid;
        limit = why.limit ∙ kept.limit;
        made = moves_then done why.before (state g old) (state g mid) (state g why.mid) made why.made;
        refused = why.refused;
      }) h
    where
      joined : (a b c d e : List the_rows.Row) → (a ++ b) ++ c ++ (d ++ e) ≡ a ++ ((b ++ c ++ d) ++ e)
      joined a b c d e = search (append_assoc, arith)

  -- ---- the transaction

  pub making_refused : (missing : Missing) (rows : List the_rows.Row) (conn : Held S) (last end : State) (e : Error) → missing.third ≡ true → last.faults ≤ end.faults
      → IsCaused (RefusesMaking g missing rows (record conn { in_transaction = true })) (state g (record conn { in_transaction = true })) last e
      → IsCaused (λ e. (missing.third ≡ true) × RefusesMaking g missing rows (record conn { in_transaction = true }) e) (state g conn) end e
  making_refused missing rows conn last end e third up h =
      caused_before (RefusesMaking g missing rows (record conn { in_transaction = true })) (λ e. (missing.third ≡ true) × RefusesMaking g missing rows (record conn { in_transaction = true }) e) (state g conn) last end e up
      (λ why. (third, why)) h

  -- ---- what is seen before

  rowids_since : (text : List ℕ) (s mid : State) (e : Error) → mid.now ≡ s.now → mid.step_limit ≡ s.step_limit → RefusesRowids text mid e → RefusesRowids text s e
  rowids_since text s mid e now limit h =
      subst (λ (l : Option ℕ). RefusesRead text l s.now e ⊎ (ShowsNoRowid text s.now ⊎ (IsEndless text s.now ⊎ DoesNotRise text s.now))) limit
      (subst (λ (db : Database). RefusesRead text mid.step_limit db e ⊎ (ShowsNoRowid text db ⊎ (IsEndless text db ⊎ DoesNotRise text db))) now h)

  pub rowids_refused : (missing : Missing) (table : Which) (old : Held S) (mid new : State) (e : Error) → Survives (state g old) mid (λ _. ⊥) → HasCleanDisk mid → mid.faults ≤ new.faults → mid.now ≡ (state g old).now
      → IsCaused (λ e. (is_missing_in missing table ≡ false) × RefusesRowids (rowids_text table) mid e) mid new e → IsCaused (RefusesOffice g missing old) (state g old) new e
  rowids_refused missing table old mid new e kept clean up now h =
      caused_later (λ e. (is_missing_in missing table ≡ false) × RefusesRowids (rowids_text table) mid e) (RefusesOffice g missing old) (state g old) mid new (λ _. ⊥) e kept clean up
      (λ why. inl (table, why.0, rowids_since (rowids_text table) (state g old) mid e now kept.limit why.1)) h

  -- ---- the whole

  pub unseen_refused : (old : Held S) (new : State) (e : Error) → ((e ≡ SqliteFailure TransactionState) × IsTrue old.in_transaction) ⊎ ((e ≡ SqliteFailure NotADatabase) × (IsOffice old.schema → ⊥))
      → IsCaused (OrBegun (state g old) (RefusesFile g old)) (state g old) new e
  unseen_refused old new e (inl begun) = inr (inr (inr (inl begun.1)))
  unseen_refused old new e (inr other) = inr (inr (inr (inr (inl other.1))))

  pub office_refused : (missing : Missing) (old : Held S) (new : State) (e : Error) → AreMissing missing old.schema → IsCaused (RefusesOffice g missing old) (state g old) new e
      → IsCaused (OrBegun (state g old) (RefusesFile g old)) (state g old) new e
  office_refused missing old new e are h = caused_as (RefusesOffice g missing old) (OrBegun (state g old) (RefusesFile g old)) (state g old) new e (λ why. inr (inr (missing, are, why))) h

  pub second_unread : (missing : Missing) (old : Held S) (mid new : State) (e : Error) → AreMissing missing old.schema → Survives (state g old) mid (λ _. ⊥) → HasCleanDisk mid → mid.faults ≤ new.faults → mid.now ≡ (state g old).now
      → IsCaused (λ e. (missing.second ≡ false) × RefusesAnswer Second (read_text Second) mid e) mid new e → IsCaused (OrBegun (state g old) (RefusesFile g old)) (state g old) new e
  second_unread missing old mid new e are kept clean up now h =
      caused_later (λ e. (missing.second ≡ false) × RefusesAnswer Second (read_text Second) mid e) (OrBegun (state g old) (RefusesFile g old)) (state g old) mid new (λ _. ⊥) e kept clean up
      (λ why. inr (inr (missing, are, inr (inl (why.0, answer_since Second (read_text Second) (state g old) mid e now kept.limit why.1))))) h

  pub again_unseen : (old mid : Held S) (new : State) (e : Error) → mid.in_transaction ≡ false → (state g mid).now ≡ (state g old).now
      → ((e ≡ SqliteFailure TransactionState) × IsTrue mid.in_transaction) ⊎ ((e ≡ SqliteFailure NotADatabase) × (IsOffice mid.schema → ⊥)) → IsCaused (OrBegun (state g old) (RefusesFile g old)) (state g old) new e
  again_unseen old mid new e alone now (inl begun) = absurd (false≢true (sym alone ∙ begun.1))
  again_unseen old mid new e alone now (inr other) = inr (inr (inr (inr (inl (λ is. other.1 (subst (λ (db : Database). IsOffice db.schema) (sym now) is))))))

  pub unmade_refused : (missing : Missing) (rows : List the_rows.Row) (old mid : Held S) (new : State) (e : Error) → AreMissing missing mid.schema → Survives (state g old) (state g mid) (λ _. ⊥) → HasCleanDisk (state g mid)
      → (state g mid).faults ≤ new.faults → (state g mid).now ≡ (state g old).now → (IsTrue (state g mid).is_open → rows ≡ rows_in second (state g mid).now)
      → IsCaused (λ e. (missing.third ≡ true) × RefusesMaking g missing rows (record mid { in_transaction = true }) e) (state g mid) new e → IsCaused (OrBegun (state g old) (RefusesFile g old)) (state g old) new e
  unmade_refused missing rows old mid new e are kept clean up now seen h = go (state g mid).is_open refl
    where
      go : (is_open : Bool) → (state g mid).is_open ≡ is_open → IsCaused (OrBegun (state g old) (RefusesFile g old)) (state g old) new e
      go false shut =
          caused_later (λ _. ⊥) (OrBegun (state g old) (RefusesFile g old)) (state g old) (state g mid) new (λ _. ⊥) e kept clean up (λ none. absurd none) (inr (inr (inl shut)))
      go true stands =
          caused_later (λ e. (missing.third ≡ true) × RefusesMaking g missing rows (record mid { in_transaction = true }) e) (OrBegun (state g old) (RefusesFile g old)) (state g old) (state g mid) new (λ _. ⊥) e kept clean up
          (λ why. inr (inr (missing, subst (λ (db : Database). AreMissing missing db.schema) now are, inr (inr (why.0, rows, mid, kept.limit, now, seen stands, why.1))))) h
