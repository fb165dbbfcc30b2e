-- What a statement is refused for, and that a cause of one step is a cause of the whole.
use Rattle.std.proofs.Common.{◌≡◌, ◌≤◌, inl, inr, ℕ, List, Bool, true, false, Result, Ok, Err, IfErr, refl, sym, ◌∙◌, arith}
use Rattle.std.proofs.lemmas.Bool.{cases_Bool, false≢true}
use Rattle.sqlite_trees.specs.declared.error.StoreError.{StoreError}
use Rattle.sqlite_trees.specs.declared.error.StoreError.TheVariants.{OutOfMemory, Io, Corrupt, Full, Broken, Unstorable}
use Rattle.sqlite_resolve.specs.declared.compiled.Compiled.{Compiled}
use Rattle.sqlite.specs.declared.error.Error.{Error}
use Rattle.sqlite.specs.Order.{Row}
use Rattle.sqlite.specs.Tree.{Trees}
use Rattle.sqlite.specs.Clock.{timed}
use Rattle.sqlite.specs.State.{State, EndsScope, ExecutesIn, ExecutesInside, Fails, HasCause, HasCleanDisk, IsNotRun, RunsCommand, Survives, shows_rows, store_error}
use Rattle.aq_tables.specs.Why.{IsCaused, Refuses, RefusesCommand}

-- ---- one step and those around it

-- the cause of a later step
pub caused_later : (P Q : Error → Type 0) (a b c : State) (X : Trees → Type 0) (e : Error) → Survives a b X → HasCleanDisk b → b.faults ≤ c.faults → (P e → Q e) → IsCaused P b c e → IsCaused Q a c e
caused_later P Q a b c X e kept clean up f (inl is) = inl is
caused_later P Q a b c X e kept clean up f (inr (inl more)) = let less = kept.counts in inr (inl (omega (arith, less, more)))
caused_later P Q a b c X e kept clean up f (inr (inr (inl shut))) = go a.is_open refl
  where
    go : (is_open : Bool) → a.is_open ≡ is_open → IsCaused Q a c e
    go false was = inr (inr (inl was))
    go true was = elim (kept.closes clean was) [
      | inl stands ↦ absurd (false≢true (sym shut ∙ stands))
      | inr more ↦ inr (inl (omega (arith, more, up)))
    ]
caused_later P Q a b c X e kept clean up f (inr (inr (inr why))) = inr (inr (inr (f why)))

-- the cause of a step that others follow
pub caused_before : (P Q : Error → Type 0) (a b c : State) (e : Error) → b.faults ≤ c.faults → (P e → Q e) → IsCaused P a b e → IsCaused Q a c e
caused_before P Q a b c e up f (inl is) = inl is
caused_before P Q a b c e up f (inr (inl more)) = inr (inl (omega (arith, up, more)))
caused_before P Q a b c e up f (inr (inr (inl shut))) = inr (inr (inl shut))
caused_before P Q a b c e up f (inr (inr (inr why))) = inr (inr (inr (f why)))

pub caused_as : (P Q : Error → Type 0) (a b : State) (e : Error) → (P e → Q e) → IsCaused P a b e → IsCaused Q a b e
caused_as P Q a b e f h = caused_before P Q a b b e (omega arith) f h

-- the same of an answer
pub answer_as : {X : Type 0} (P Q : Error → Type 0) (a b : State) (r : Result X Error) → ((e : Error) → P e → Q e) → IfErr r (IsCaused P a b) → IfErr r (IsCaused Q a b)
answer_as P Q a b (Ok x) f h = tt
answer_as P Q a b (Err e) f h = caused_as P Q a b e (f e) h

pub answer_later : {X : Type 0} (P Q : Error → Type 0) (a b c : State) (W : Trees → Type 0) (r : Result X Error) → Survives a b W → HasCleanDisk b → b.faults ≤ c.faults → ((e : Error) → P e → Q e)
    → IfErr r (IsCaused P b c) → IfErr r (IsCaused Q a c)
answer_later P Q a b c W (Ok x) kept clean up f h = tt
answer_later P Q a b c W (Err e) kept clean up f h = caused_later P Q a b c W e kept clean up (f e) h

-- ---- a fault

module _ (P : Error → Type 0) (old new : State) (U : Type 0) (e : Error) where
  by_cause : (cause : StoreError) → e ≡ store_error cause → HasCause old new U cause → (U → P e) → IsCaused P old new e
  by_cause OutOfMemory is has f = inl is
  by_cause Io is has f = inr (inl has)
  by_cause Corrupt is has f = inr (inl has)
  by_cause Full is has f = inr (inl has)
  by_cause Broken is has f = inr (inr (inl has))
  by_cause Unstorable is has f = inr (inr (inr (f has)))

  pub failed : (U → P e) → Fails old new U e → IsCaused P old new e
  failed f h = by_cause h.0 h.1 h.2 f

-- ---- a statement

module _ (text : List ℕ) (values : Row) (old new : State) (e : Error) where
  not_run : IsNotRun old new text values e → IsCaused (Refuses text values old) old new e
  unfolding IsNotRun Refuses
  not_run (inl none) = inr (inr (inr (inl none.0)))
  not_run (inr fails) = failed (Refuses text values old) old new ⊥ e (λ none. absurd none) fails

  command_refused : (c : Compiled) (given : Row) → RunsCommand old new text c given (Err e) → IsCaused (RefusesCommand old text c given) old new e
  command_refused c given (inl (inl misplaced, same)) = inr (inr (inr (inr (inl misplaced))))
  command_refused c given (inl (inr refused, same)) = inr (inr (inr (inr (inr (inr (inl refused.1))))))
  command_refused c given (inr fails) = failed (RefusesCommand old text c given) old new _ e (λ long. inr (inr (inr (inr long)))) fails

  executed : ExecutesIn false text values old new (Err e) → IsCaused (Refuses text values old) old new e
  unfolding ExecutesIn Refuses
  executed (inl none) = not_run none
  executed (inr ran) = elim (cases_Bool (shows_rows false ran.0)) [
    | inl shows ↦ inr (inr (inr (inr (ran.0, ran.1, inl shows))))
    | inr runs ↦ caused_as (RefusesCommand old text ran.0 (timed values ran.0.formats ran.1.now)) (Refuses text values old) old new e (λ why. inr (ran.0, ran.1, why)) (command_refused ran.0 _ (rw runs at ran.2))
  ]

  ends : EndsScope 0 text values old → IsCaused (Refuses text values old) old new e
  unfolding EndsScope Refuses
  ends barred = inr (inr (inr (inr (barred.0, barred.1, inr (inr (inl barred.2))))))

  pub ran_inside : ExecutesInside 0 text values old new (Err e) → IsCaused (Refuses text values old) old new e
  ran_inside (inl ran) = executed ran.0
  ran_inside (inr barred) = ends barred.0

-- what a statement inside a transaction is refused for
pub inside_caused : (text : List ℕ) (values : Row) (old new : State) (r : Result ℕ Error) → ExecutesInside 0 text values old new r → IfErr r (IsCaused (Refuses text values old) old new)
inside_caused text values old new (Ok count) h = tt
inside_caused text values old new (Err e) h = ran_inside text values old new e h
