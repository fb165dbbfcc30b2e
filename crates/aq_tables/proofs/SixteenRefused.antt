-- A statement that is refused for a rule of its table changes nothing.
use Rattle.std.proofs.Common.{◌≡◌, inl, inr, ℕ, List, true, false, Err, IfOk, IfErr, MatchBool, flat_map, sym, ap, subst, ◌∙◌, IsTrue}
use Rattle.std.proofs.lemmas.Bool.{cases_Bool, false≢true}
use Rattle.sqlite_trees.specs.declared.error.StoreError.{StoreError}
use Rattle.sqlite_trees.specs.declared.error.StoreError.TheVariants.{OutOfMemory, Io, Corrupt, Full, Broken, Unstorable}
use Rattle.sqlite.specs.declared.error.Error.{Error}
use Rattle.sqlite.specs.Order.{Row}
use Rattle.sqlite.specs.State.{State, ExecutesIn, ExecutesInside, IsNotRun, IsUnchanged, RunsCommand, shows_rows, store_error}
use Rattle.sqlite_resolve.specs.declared.compiled.Compiled.{Compiled}
use Rattle.aq_rules.specs.Kept.Rows.{ObsRow2}
use Rattle.aq_tables.specs.Told.{third_values}
use Rattle.aq_tables.specs.Sixteen.{IsStill, put_sixteen}
use Rattle.aq_tables.specs.Why.{IsCaused, Refuses, RefusesPuts, is_clash, unless_clash}
use Rattle.aq_tables.proofs.Causes.{caused_as, ran_inside}

no_fault : (e : Error) (cause : StoreError) → is_clash e ≡ true → e ≡ store_error cause → ⊥
no_fault e OutOfMemory clash is = false≢true (sym (ap is_clash is) ∙ clash)
no_fault e Io clash is = false≢true (sym (ap is_clash is) ∙ clash)
no_fault e Corrupt clash is = false≢true (sym (ap is_clash is) ∙ clash)
no_fault e Full clash is = false≢true (sym (ap is_clash is) ∙ clash)
no_fault e Broken clash is = false≢true (sym (ap is_clash is) ∙ clash)
no_fault e Unstorable clash is = false≢true (sym (ap is_clash is) ∙ clash)

module _ (sql : List ℕ) (params : Row) (old new : State) (error : Error) (clash : is_clash error ≡ true) where
  command_refused : (c : Compiled) (params : Row) → RunsCommand old new sql c params (Err error) → IsUnchanged old new
  command_refused c params (inl refused) = refused.1
  command_refused c params (inr fails) = absurd (no_fault error fails.0 clash fails.1)

  not_run : IsNotRun old new sql params error → IsUnchanged old new
  unfolding IsNotRun
  not_run (inl none) = none.1
  not_run (inr fails) = absurd (no_fault error fails.0 clash fails.1)

  refused : ExecutesIn false sql params old new (Err error) → IsUnchanged old new
  unfolding ExecutesIn
  refused (inl none) = not_run none
  refused (inr ran) = elim (cases_Bool (shows_rows false ran.0)) [
    | inl shows ↦ (rw shows at ran.2).1
    | inr runs ↦ command_refused ran.0 _ (rw runs at ran.2)
  ]

  inside_refused : ExecutesInside 0 sql params old new (Err error) → IsUnchanged old new
  inside_refused (inl ran) = refused ran.0
  inside_refused (inr barred) = barred.2

  pub refused_still : IsTrue old.in_transaction → ExecutesInside 0 sql params old new (Err error) → IsStill old new
  refused_still begun ran =
      let same = inside_refused ran in
      record { now = same.0.now_is; mode = subst IsTrue (sym same.0.mode) begun; committed = same.0.committed_is }

-- where nothing was put for a clash, nothing changed
pub clash_still : (sql : List ℕ) (params : Row) (old new : State) (e : Error) (P : Type 0) → IsTrue old.in_transaction → ExecutesInside 0 sql params old new (Err e) → IfOk (unless_clash e) (λ is_put. MatchBool is_put P (IsStill old new))
clash_still sql params old new e P begun ran = elim (cases_Bool (is_clash e)) [
  | inl clash ↦ rw clash (refused_still sql params old new e clash begun ran)
  | inr other ↦ rw other tt
]

-- and an error is none
pub clash_caused : (sql : List ℕ) (params : Row) (rows : List ObsRow2) (old new : State) (e : Error) → sql ≡ put_sixteen → params ≡ flat_map third_values rows → ExecutesInside 0 sql params old new (Err e)
    → IfErr (unless_clash e) (IsCaused (RefusesPuts rows old) old new)
clash_caused sql params rows old new e is are ran = elim (cases_Bool (is_clash e)) [
  | inl clash ↦ rw clash tt
  | inr other ↦ rw other (caused_as (Refuses put_sixteen (flat_map third_values rows) old) (RefusesPuts rows old) old new e (λ why. (why, other)) (ran_inside put_sixteen (flat_map third_values rows) old new e (rw (is, are) at ran)))
]
