-- Statements within a transaction, one after the other.
use Rattle.std.proofs.Common.{◌≡◌, true, ℕ, List, inl, inr, arith, Result, Ok, Err, IfErr, OnErr, refl, sym, subst, ◌∙◌}
use Rattle.sqlite.specs.declared.error.Error.{Error}
use Rattle.sqlite.specs.Order.{Row}
use Rattle.sqlite.specs.Tree.{Trees}
use Rattle.sqlite.specs.State.{State, HasCleanDisk, Survives, KeepsCommit, IsUnchanged, IsRolledBack, ExecutesInside}
use Rattle.sqlite.specs.Steps.{FailsToCommit}
use Rattle.sqlite.specs.Held.{Held, state}
use Rattle.sqlite.proofs.StateLemmas.{survives_then}
use Rattle.sqlite.proofs.Callers.{survives_begin}
use Rattle.sqlite_trees.specs.declared.store.Store.{Ghosts}

pub survives_here : (s : State) (P : Trees → Type 0) → Survives s s P
survives_here s P = record { clean = omega arith; shield = λ h. h; counts = omega arith; limit = refl; closes = λ _ stands. inl stands; crash = λ _ db h. inl h }

pub survives_both : (a b c : State) → Survives a b (λ _. ⊥) → Survives b c (λ _. ⊥) → Survives a c (λ _. ⊥)
survives_both a b c = survives_then a b c _ _ (λ _. ⊥) (λ _ db none. none) (λ _ db none. none)

-- what a commit may leave is what its transaction has made
pub survives_whole : {S : Type 0} (g : Ghosts S) (Leaves : Trees → Type 0) (first end given : Held S) (last : State) → end ≡ given
    → Survives (state g (record first { in_transaction = true })) last (λ _. ⊥) → (HasCleanDisk last → Leaves last.now.trees)
    → Survives last (state g end) (λ trees. trees ≡ last.now.trees) → Survives (state g first) (state g given) Leaves
survives_whole g Leaves first end given last same before made after =
    subst (λ h. Survives (state g first) (state g h) Leaves) same (survives_then (state g first) last (state g end) _ _ Leaves (λ _ db none. absurd none)
    (λ clean db is. subst Leaves (sym is) (made (omega (arith, after.clean)))) (survives_begin g first last _ before) after)

pub kept_here : (s : State) → KeepsCommit s s
kept_here s = record { was_open = λ h. h; committed = λ _. refl }

pub kept_both : (a b c : State) → KeepsCommit a b → KeepsCommit b c → KeepsCommit a c
kept_both a b c p q = record { was_open = λ h. p.was_open (q.was_open h); committed = λ h. q.committed h ∙ p.committed (q.was_open h) }

pub unchanged_keeps : (old new : State) → IsUnchanged old new → KeepsCommit old new
unchanged_keeps old new h = record { was_open = λ _. h.0.was_open; committed = λ _. h.0.committed_is }

pub undone_keeps : (old new : State) → IsRolledBack old new → KeepsCommit old new
undone_keeps old new h = record { was_open = h.was_open; committed = λ is. (h.undone is).1 }

-- a commit that fails commits nothing
pub failed_keeps : {X : Type 0} (old last new : State) (r : Result X Error) → KeepsCommit old last → IfErr r (FailsToCommit last new) → OnErr r (KeepsCommit old new)
failed_keeps old last new (Ok x) kept h = tt
failed_keeps old last new (Err e) kept (inl failed) = kept_both old last new kept (undone_keeps last new failed.3)
failed_keeps old last new (Err e) kept (inr ended) = kept_both old last new kept (unchanged_keeps last new ended.2)

-- a statement inside a transaction commits nothing
pub inside_keeps : (held : ℕ) (sql : List ℕ) (params : Row) (old new : State) (r : Result ℕ Error) → ExecutesInside held sql params old new r → KeepsCommit old new
inside_keeps held sql params old new (Ok count) h = record { was_open = λ _. h.1.was_open; committed = λ _. h.1.committed_is }
inside_keeps held sql params old new (Err e) (inl (ran, inl same)) = unchanged_keeps old new same
inside_keeps held sql params old new (Err e) (inl (ran, inr undone)) = undone_keeps old new undone
inside_keeps held sql params old new (Err e) (inr barred) = unchanged_keeps old new barred.2
