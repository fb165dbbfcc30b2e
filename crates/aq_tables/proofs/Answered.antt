-- What a query is while its rows are read.
use Rattle.std.proofs.Common.{◌≡◌, ℕ, List, [], ◌++◌, map, false, None, Ok, Err, Result, inl, inr, refl, sym, ap, subst, ◌∙◌, OnOk}
use Rattle.sqlite.specs.Order.{Row}
use Rattle.sqlite.specs.Effect.{Database, Reads}
use Rattle.sqlite.specs.Listing.{understood, reads_listing}
use Rattle.sqlite.proofs.Callers.{command_of, reads_as}
use Rattle.sqlite.specs.Clock.{timed}
use Rattle.sqlite.specs.declared.error.Error.{Error}
use Rattle.sqlite.specs.State.{State, Survives, CommitsShowing, IsUnchanged, KeepsCommit, IsNotRun, FailsToQuery, FailsToShow, Shown}
use Rattle.sqlite.specs.Given.{Returns, HasBegun, HasGiven}
use Rattle.sqlite.specs.Held.{Held, state}
use Rattle.sqlite.proofs.StateLemmas.{survives_weaker}
use Rattle.sqlite_trees.specs.declared.store.Store.{Ghosts}
use Rattle.sqlite_resolve.specs.declared.compiled.Compiled.{Compiled}
use Rattle.sqlite_resolve.specs.declared.error.CompileError.{CompileError}
use Rattle.aq_rules.specs.Kept.Rows as the_rows
use Rattle.aq_tables.specs.Standing.{Ours, HasTable}
use Rattle.aq_tables.specs.Told.{told, Reads as AreRead}
use Rattle.aq_tables.specs.Queries.{IsBareText, Shows, Takes}
use Rattle.aq_tables.proofs.Steps.{unchanged_keeps, undone_keeps}

returns_bare : (r : Result Compiled CompileError) → ((c : Compiled) → r ≡ Ok c → (c.returning ≡ None) × (c.formats ≡ [])) → ¬ Returns r
returns_bare (Ok c) bare h = absurd (let e = rw (bare c refl).0 at h in cc)
returns_bare (Err e) bare h = h

module _ (text : List ℕ) (bare : IsBareText text) where
  -- it commits nothing
  pub commits_nothing : (old new : State) → Survives old new (CommitsShowing text [] old) → Survives old new (λ _. ⊥)
  unfolding CommitsShowing
  commits_nothing old new = survives_weaker old new _ _ (λ _ db h. returns_bare (Ok h.0) (λ c is. bare old.now.schema c (h.1.is ∙ is)) h.2)

  -- if it is refused, nothing is committed
  pub refused_keeps : (old new : State) (e : Error) → FailsToQuery text [] old new e → KeepsCommit old new
  unfolding FailsToQuery IsNotRun
  refused_keeps old new e (inl (inl none)) = unchanged_keeps old new none.1
  refused_keeps old new e (inl (inr failed)) = undone_keeps old new failed.3
  refused_keeps old new e (inr h) =
      unchanged_keeps old new (subst (FailsToShow old new text h.0 (timed [] h.0.formats h.1.now) e) (bare old.now.schema h.0 h.1.is).0 h.2).3

  -- and so it begins as a query
  pub begun_here : {S : Type 0} (g : Ghosts S) (old new : Held S) → HasBegun g text [] old new → HasGiven g text [] new [] × IsUnchanged (state g old) (state g new)
  begun_here g old new (inl h) = h
  begun_here g old new (inr h) = absurd (returns_bare _ (bare old.schema) h.0)

  -- what it has shown at its end it reads in what stood at its beginning
  pub shown_from : (first old new : State) (given : List Row) → IsUnchanged first old → Shown text [] old new given → Shows text first.now given
  shown_from first old new given same shown c is unlisted =
      let here = subst (λ (d : Database). understood d.schema text ≡ Ok c) (sym same.0.now_is) is in
      let apart = subst (λ (d : Database). reads_listing d.schema text ≡ false) (sym same.0.now_is) unlisted in
      subst (λ (d : Database). Reads c.command d [] given) same.0.now_is (reads_as text [] old new old.now.schema refl c.command (ap command_of here) (rw here (bare old.now.schema c here)) apart given shown)

-- the rows that were taken are those that the table says
pub tells : {X E : Type 0} (ours : Ours) (text : List ℕ) (says : Row → the_rows.Row) (db : Database) (before after : List the_rows.Row) (result : Result X E)
    → ((at tree : ℕ) → HasTable ours db at tree → (shown : List Row) → Shows text db shown → map says shown ≡ told ours (db.trees tree))
    → OnOk result (Takes says text db before after) → OnOk result (AreRead ours db before after)
tells ours text says db before after (Ok x) reads h = λ at tree has. h.2 ∙ ap (λ l. before ++ l) (reads at tree has h.0 h.1)
tells ours text says db before after (Err e) reads h = tt
