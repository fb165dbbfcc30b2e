-- Why a keeper fails: what its connection was refused for.
use Rattle.std.proofs.Common.{◌≡◌, ◌⊎◌, inl, inr, false, Result, Ok, Err, IfErr, refl, sym, ap, ◌∙◌}
use Rattle.std.proofs.lemmas.Bool.{false≢true}
use Rattle.aq_tables.specs.Why.{MoreFaults}
use Rattle.sqlite.specs.declared.error.Error.{Error}
use Rattle.sqlite.specs.State.{State, HasCleanDisk}
use Rattle.aq_keeper.specs.declared.keeper.KeeperFault.{KeeperFault}
use Rattle.aq_keeper.specs.declared.keeper.KeeperFault.TheVariants.{Failed, Memory}
use Rattle.aq_tables.specs.Why.{IsCaused, OrBegun}
use Rattle.aq_sqlite.specs.Faults.{FailsOnlyIf, HasReason, answered, fault_of}

module _ (P : Error → Type 0) (old new : State) (alone : old.in_transaction ≡ false) where
  failed_for : (e : Error) → fault_of e ≡ Failed → IsCaused (OrBegun old P) old new e → MoreFaults old.faults new.faults ⊎ ((old.is_open ≡ false) ⊎ ((error : Error) × P error))
  failed_for e is (inl memory) = let same = ap fault_of memory in absurd cc
  failed_for e is (inr (inl more)) = inl more
  failed_for e is (inr (inr (inl shut))) = inr (inl shut)
  failed_for e is (inr (inr (inr (inl begun)))) = absurd (false≢true (sym alone ∙ begun))
  failed_for e is (inr (inr (inr (inr why)))) = inr (inr (e, why))

  of_fault : (X : Type 0) (e : Error) (fault : KeeperFault) → fault_of e ≡ fault → (HasCleanDisk new → IsCaused (OrBegun old P) old new e) → FailsOnlyIf {A = X} (Err fault) (HasReason P old new)
  of_fault X e Memory is h = tt
  of_fault X e Failed is h = λ clean. failed_for e is (h clean)

  pub reason_of : {X : Type 0} (r : Result X Error) → (HasCleanDisk new → IfErr r (IsCaused (OrBegun old P) old new)) → FailsOnlyIf (answered r) (HasReason P old new)
  reason_of {X} (Ok x) h = tt
  reason_of {X} (Err e) h = of_fault X e (fault_of e) refl h

-- whatever stands beside it
pub or_reason : {X : Type 0} (Gone Why : Type 0) (r : Result X KeeperFault) → FailsOnlyIf r Why → FailsOnlyIf r (Gone ⊎ Why)
or_reason Gone Why (Ok x) h = tt
or_reason Gone Why (Err Failed) h = inr h
or_reason Gone Why (Err Memory) h = tt
