-- What is known while the rows of an office are taken one after the other.
use Rattle.std.specs.Prelude.{◌≡◌, ℕ, Bool, true, false, List, [], ◌∷◌, Some, Option}
use Rattle.aq_base.specs.declared.monitor.Duration.{Duration}
use Rattle.aq_base.specs.declared.observation.ObsKey.{ObsKey}
use Rattle.aq_base.specs.declared.observation.Observation.{Observation}
use Rattle.aq_base.specs.declared.office.OfficeRecord.{OfficeRecord}
use Rattle.aq_rules.specs.Office.Office.{Office, StoredLoad, IsOffice, observation_numbers, observation_rank, load_rank, duration_at}
use Rattle.aq_rules.specs.Kept.Rows.{Row, Place, office_in, are_office_rows, damaged_at}
use Rattle.aq_rows.specs.declared.walk.Last.{Last}
use Rattle.aq_rows.specs.declared.walk.Last.TheVariants.{Record, Observation as Observed, Load}
use Rattle.aq_rows.specs.declared.walk.RowFault.{RowFault}
use Rattle.aq_rows.specs.declared.walk.RowFault.TheVariants.{Damaged, Memory}
use Rattle.aq_rows.specs.declared.walk.Walk.{Walk}
use Rattle.aq_rows.specs.OneMoreRow.{EndsAt, may_follow, with_last}

abbrev pub office_with : List OfficeRecord → List (ObsKey × Observation) → List StoredLoad → Office
office_with records observations loads = record { records = records; observations = observations; loads = loads }

abbrev pub standing : Walk → Office
standing walk = office_with walk.registry walk.shelf walk.loads

-- no observation and no load came yet
pub record AreRecordsAlone (office : Office) : Type 0 where
  pub no_observations : office.observations ≡ []
  pub no_loads : office.loads ≡ []

-- the last row said the load with the number
pub record EndsWithLoad (number : ℕ) (office : Office) : Type 0 where
  pub no_observations : office.observations ≡ []
  pub ends : EndsAt load_rank (number ∷ []) office.loads

-- the last row said an observation at the key, whose monitor has samples that last so long
pub record EndsWithObservation (key : ObsKey) (duration : Duration) (office : Office) : Type 0 where
  pub ends : EndsAt observation_rank (observation_numbers key) office.observations
  pub known : duration_at office key.monitor ≡ Some duration

abbrev pub IsLast : Last → Office → Type 0
IsLast Record office = AreRecordsAlone office
IsLast (Observed key duration) office = EndsWithObservation key duration office
IsLast (Load number) office = EndsWithLoad number office

-- what stands is a valid office, and the last row is known
pub record IsWalk (walk : Walk) : Type 0 where
  pub office : IsOffice (standing walk)
  pub last : IsLast walk.last (standing walk)

-- the walk after a row that may follow
pub record Follows (before : Walk) (row : Row) (now : Walk) : Type 0 where
  pub may : may_follow (standing before) row ≡ true
  pub office : standing now ≡ with_last (standing before) row
  pub walk : IsWalk now

-- a row is damaged if it may not follow; of want of memory nothing is said
abbrev pub IsRowFault : Bool → RowFault → Type 0
IsRowFault may Damaged = may ≡ false
IsRowFault may Memory = Unit

-- the same if it is something else that would let it follow
abbrev pub IsFault : Type 0 → RowFault → Type 0
IsFault Holds Damaged = Holds → ⊥
IsFault Holds Memory = Unit

-- the rows before are taken, and the first damaged row of all, if there is one, is that of the rest after them
pub record HasTaken (before behind : List Row) (walk : Walk) (found : Option Place) : Type 0 where
  pub good : are_office_rows before ≡ true
  pub office : standing walk ≡ office_in before
  pub rest : damaged_at before behind ≡ found
  pub known : IsWalk walk
