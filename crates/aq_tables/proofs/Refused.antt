-- What a batch is refused for, made of what its statements are refused for.
use Rattle.std.proofs.Common.{◌≡◌, ◌≤◌, inl, inr, ℕ, zero, suc, ◌+◌, List, [], ◌∷◌, ◌++◌, take, drop, Bool, true, Result, Ok, Err, IfErr, IsTrue, is_some, refl, sym, ap, subst, ◌∙◌, append-nil, append_assoc, arith}
use Rattle.std.proofs.lemmas.Bool.{false≢true}
use Rattle.sqlite_trees.specs.declared.store.Store.{Ghosts}
use Rattle.sqlite.specs.declared.types.Value.TheVariants.{Null}
use Rattle.sqlite.specs.declared.error.Error.{Error}
use Rattle.sqlite.specs.State.{State, HasCleanDisk, Survives}
use Rattle.sqlite.specs.Steps.{FailsToCommit}
use Rattle.sqlite.specs.Held.{Held, state}
use Rattle.sqlite.proofs.Callers.{survives_begin}
use Rattle.sqlite_schema.specs.Names.{table_named}
use Rattle.aq_tables.specs.Forms.{observations_form}
use Rattle.aq_rules.specs.Kept.Rows as the_rows
use Rattle.aq_rules.specs.Kept.Rows.{ObsRow2, OfSecondRow}
use Rattle.aq_rules.specs.Kept.RowChanges.{RowChange, PutRow, row_key}
use Rattle.aq_tables.specs.Batch.{Changes, DropsKey}
use Rattle.aq_tables.specs.Sixteen.{IsStill}
use Rattle.aq_tables.specs.Texts.{put_text}
use Rattle.aq_tables.specs.Told.{row_values}
use Rattle.aq_tables.specs.Why.{IsCaused, OrBegun, Refuses, RefusesBatch, RefusesChange, RefusesCommit, RefusesDrop, RefusesPut, RefusesSixteen, RefusesWithin, nothing_text}
use Rattle.aq_tables.proofs.Causes.{answer_as, answer_later, caused_as, caused_before, caused_later, failed}
use Rattle.aq_tables.proofs.Making.{changes_nothing, changes_then, still_changes}

-- ---- one row

pub put_refused : {X : Type 0} (first : Bool) (row : the_rows.Row) (old new : State) (r : Result X Error) → IfErr r (IsCaused (Refuses (put_text (row_key row)) (row_values row) old) old new)
    → IfErr r (IsCaused (RefusesPut first row old) old new)
put_refused first row old new r h = answer_as (Refuses (put_text (row_key row)) (row_values row) old) (RefusesPut first row old) old new r (λ e why. inr (inr why)) h

pub put_alone_refused : {X : Type 0} (row : ObsRow2) (old new : State) (r : Result X Error) → IfErr r (IsCaused (Refuses (put_text (row_key (OfSecondRow row))) (row_values (OfSecondRow row)) old) old new)
    → IfErr r (IsCaused (RefusesPut true (OfSecondRow row) old) old new)
put_alone_refused row = put_refused true (OfSecondRow row)

any_first : (first : Bool) (row : ObsRow2) (s : State) (e : Error) → RefusesPut true (OfSecondRow row) s e → RefusesPut first (OfSecondRow row) s e
any_first first row s e (inl none) = inl none
any_first first row s e (inr (inl missing)) = absurd (false≢true missing.0)
any_first first row s e (inr (inr why)) = inr (inr why)

pub second_refused : {X : Type 0} (first : Bool) (row : ObsRow2) (old new : State) (r : Result X Error) → IfErr r (IsCaused (RefusesPut true (OfSecondRow row) old) old new)
    → IfErr r (IsCaused (RefusesPut first (OfSecondRow row) old) old new)
second_refused first row old new r h = answer_as (RefusesPut true (OfSecondRow row) old) (RefusesPut first (OfSecondRow row) old) old new r (any_first first row old) h

pub parts : {X : Type 0} (xs : List X) (i : ℕ) → take i xs ++ drop i xs ≡ xs
parts [] zero = refl
parts [] (suc i) = refl
parts (x ∷ xs) zero = refl
parts (x ∷ xs) (suc i) = ap (λ l. x ∷ l) (parts xs i)

module _ {S : Type 0} (g : Ghosts S) (first : Bool) where
  -- ---- one change

  pub drop_refused : (row : the_rows.Row) (old : Held S) (new : State) (e : Error) → IsCaused (RefusesDrop first (row_key row) (state g old)) (state g old) new e
      → IsCaused (RefusesChange g first (PutRow row) old) (state g old) new e
  drop_refused row old new e h = caused_as (RefusesDrop first (row_key row) (state g old)) (RefusesChange g first (PutRow row) old) (state g old) new e (λ why. inl why) h

  pub row_refused : {X : Type 0} (row : the_rows.Row) (old mid : Held S) (new : State) (r : Result X Error) → Survives (state g old) (state g mid) (λ _. ⊥) → HasCleanDisk (state g mid) → (state g mid).faults ≤ new.faults
      → DropsKey first (row_key row) (state g old) (state g mid) → IfErr r (IsCaused (RefusesPut first row (state g mid)) (state g mid) new) → IfErr r (IsCaused (RefusesChange g first (PutRow row) old) (state g old) new)
  row_refused row old mid new r kept clean up dropped h =
      answer_later (RefusesPut first row (state g mid)) (RefusesChange g first (PutRow row) old) (state g old) (state g mid) new (λ _. ⊥) r kept clean up (λ e why. inr (mid, kept.limit, dropped, why)) h

  -- ---- changes one after the other

  pub change_refused : (changes : List RowChange) (place : ℕ) (change : RowChange) (old mid : Held S) (new : State) (e : Error) → take (place + 1) changes ≡ take place changes ++ (change ∷ [])
      → Survives (state g old) (state g mid) (λ _. ⊥) → HasCleanDisk (state g mid) → (state g mid).faults ≤ new.faults → Changes first (take place changes) (state g old) (state g mid)
      → IsCaused (RefusesChange g first change mid) (state g mid) new e → IsCaused (RefusesWithin g first changes old) (state g old) new e
  change_refused changes place change old mid new e next kept clean up made h =
      caused_later (RefusesChange g first change mid) (RefusesWithin g first changes old) (state g old) (state g mid) new (λ _. ⊥) e kept clean up (λ why. record {
        before = take place changes;
        some = change ∷ [];
        after = drop (place + 1) changes;
        are = ap (λ l. l ++ drop (place + 1) changes) (sym next) ∙ parts changes (place + 1);
        mid = mid;
        limit = kept.limit;
        made = made;
        refused = inr (change, refl, why);
      }) h

  pub sixteen_refused : (changes : List RowChange) (old : Held S) (new : State) (e : Error) → IsTrue (state g old).in_transaction → IsCaused (RefusesSixteen changes (state g old)) (state g old) new e
      → IsCaused (RefusesWithin g first changes old) (state g old) new e
  sixteen_refused changes old new e begun h =
      caused_as (RefusesSixteen changes (state g old)) (RefusesWithin g first changes old) (state g old) new e (λ why. record {
        before = [];
        some = changes;
        after = [];
        are = append-nil changes;
        mid = old;
        limit = refl;
        made = changes_nothing first (state g old) begun;
        refused = inl why;
      }) h

  pub still_refused : {X : Type 0} (changes : List RowChange) (old mid : Held S) (new : State) (r : Result X Error) → Survives (state g old) (state g mid) (λ _. ⊥) → HasCleanDisk (state g mid) → (state g mid).faults ≤ new.faults
      → (IsTrue (state g mid).is_open → IsTrue (state g old).is_open) → IsStill (state g old) (state g mid) → IfErr r (IsCaused (RefusesWithin g first changes mid) (state g mid) new)
      → IfErr r (IsCaused (RefusesWithin g first changes old) (state g old) new)
  still_refused changes old mid new r kept clean up was still h =
      answer_later (RefusesWithin g first changes mid) (RefusesWithin g first changes old) (state g old) (state g mid) new (λ _. ⊥) r kept clean up (λ e why. record {
        before = why.before;
        some = why.some;
        after = why.after;
        are = why.are;
        mid = why.mid;
        limit = why.limit ∙ kept.limit;
        made = still_changes first why.before (state g old) (state g mid) (state g why.mid) was still why.made;
        refused = why.refused;
      }) h

  pub nothing_refused : {X : Type 0} (batch : List RowChange) (old : Held S) (new : State) (r : Result X Error) → batch ≡ [] → IfErr r (IsCaused (Refuses nothing_text (Null ∷ []) (state g old)) (state g old) new)
      → IfErr r (IsCaused (RefusesBatch g first batch old) (state g old) new)
  nothing_refused batch old new r none h = answer_as (Refuses nothing_text (Null ∷ []) (state g old)) (RefusesBatch g first batch old) (state g old) new r (λ e why. inr (none, why)) h

  pub within_refused : (batch done some rest : List RowChange) (old mid : Held S) (new : State) (e : Error) → done ++ (some ++ rest) ≡ batch
      → Survives (state g old) (state g mid) (λ _. ⊥) → HasCleanDisk (state g mid) → (state g mid).faults ≤ new.faults → (IsTrue (state g mid).is_open → IsTrue (state g old).is_open)
      → Changes first done (state g old) (state g mid) → IsCaused (RefusesWithin g first some mid) (state g mid) new e → IsCaused (RefusesBatch g first batch old) (state g old) new e
  within_refused batch done some rest old mid new e all kept clean up was made h =
      caused_later (RefusesWithin g first some mid) (RefusesBatch g first batch old) (state g old) (state g mid) new (λ _. ⊥) e kept clean up (λ why. inl (record {
        before = done ++ why.before;
        some = why.some;
        after = why.after ++ rest;
        are = joined done why.before why.some why.after rest ∙ ap (λ l. done ++ (l ++ rest)) why.are ∙ all;
        mid = why.mid;
        limit = why.limit ∙ kept.limit;
        made = changes_then first done why.before (state g old) (state g mid) (state g why.mid) was made why.made;
        refused = why.refused;
      })) h
    where
      joined : (a b c d e : List RowChange) → (a ++ b) ++ c ++ (d ++ e) ≡ a ++ ((b ++ c ++ d) ++ e)
      joined a b c d e = search (append_assoc, arith)

  -- ---- the transaction

  pub ended_refused : (conn : Held S) (last end : State) (Q : Error → Type 0) (e : Error) → Survives (state g (record conn { in_transaction = true })) last (λ _. ⊥) → HasCleanDisk last → last.faults ≤ end.faults
      → IsTrue last.in_transaction → FailsToCommit last end e → IsCaused Q (state g conn) end e
  ended_refused conn last end Q e kept clean up mode (inl fails) =
      caused_later (λ _. ⊥) Q (state g conn) last end (λ _. ⊥) e (survives_begin g conn last (λ _. ⊥) kept) clean up (λ none. absurd none) (failed (λ _. ⊥) last end ⊥ e (λ none. none) fails)
  ended_refused conn last end Q e kept clean up mode (inr ended) = absurd (false≢true (sym ended.1 ∙ mode))

  pub ended_answer : {X : Type 0} (conn : Held S) (last end : State) (Q : Error → Type 0) (r : Result X Error) → Survives (state g (record conn { in_transaction = true })) last (λ _. ⊥) → HasCleanDisk last → last.faults ≤ end.faults
      → IsTrue last.in_transaction → IfErr r (FailsToCommit last end) → IfErr r (IsCaused Q (state g conn) end)
  ended_answer conn last end Q (Ok x) kept clean up mode h = tt
  ended_answer conn last end Q (Err e) kept clean up mode h = ended_refused conn last end Q e kept clean up mode h

  pub batch_refused : (batch : List RowChange) (conn : Held S) (last end : State) (e : Error) → first ≡ is_some (table_named conn.schema observations_form.name) → last.faults ≤ end.faults
      → IsCaused (RefusesBatch g first batch (record conn { in_transaction = true })) (state g (record conn { in_transaction = true })) last e
      → IsCaused (OrBegun (state g conn) (RefusesCommit g batch conn)) (state g conn) end e
  batch_refused batch conn last end e known up h =
      caused_before (RefusesBatch g first batch (record conn { in_transaction = true })) (OrBegun (state g conn) (RefusesCommit g batch conn)) (state g conn) last end e up
      (λ why. inr (subst (λ (b : Bool). RefusesBatch g b batch (record conn { in_transaction = true }) e) known why)) h
