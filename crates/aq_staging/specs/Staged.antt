-- What a load makes of an office, and what it leaves.
use Rattle.std.specs.Prelude.{◌≡◌, ◌≤◌, Option, unwrap_or, List, ◌++◌, length}
use Rattle.aq_base.specs.declared.observation.ObsKey.{ObsKey}
use Rattle.aq_base.specs.declared.observation.Observation.{Observation}
use Rattle.aq_base.specs.declared.office.OfficeRecord.{OfficeRecord}
use Rattle.aq_base.specs.declared.reply.LoadReply.{LoadReply}
use Rattle.aq_rules.specs.Limits.{MOST_OBSERVATIONS}
use Rattle.aq_rules.specs.Office.Load.{OfficeChange, observation_changes, record_changes}
use Rattle.aq_rules.specs.Office.Office.{Office, StoredLoad}
use Rattle.aq_staging.specs.declared.changes.Changes.{Changes}
use Rattle.aq_staging.specs.declared.identity.LoadIdentity.{LoadIdentity}
use Rattle.aq_staging.specs.Changes.{with_changes, AreChanges}

-- the records after the load, if they may differ from those before it, what it leaves of the observations, what it changes of both, under what it is kept, if it is, and its reply
pub record StagedLoad : Type 0 where
  pub records : Option (List OfficeRecord)
  pub changes : Changes
  pub office_changes : List OfficeChange
  pub identity : Option LoadIdentity
  pub reply : LoadReply

-- ---- the office after it

-- with these records, if they may differ, and with these changes of observations
abbrev pub office_after : Option (List OfficeRecord) → Changes → Office → Office
office_after records changes office = record office {
  records = unwrap_or records office.records;
  observations = with_changes changes office.observations;
}

-- the office after the lines of a staged load
abbrev pub after_lines : StagedLoad → Office → Office
after_lines staged office = office_after staged.records staged.changes office

-- ---- what it changes

-- the changes of records and of observations between two offices, in the order of their tables and keys
unfoldable pub changes_between : Office → Office → List OfficeChange
changes_between before after = record_changes before after ++ observation_changes before after

-- the office of these records, observations and loads
abbrev pub office_beside : List StoredLoad → List OfficeRecord → List (ObsKey × Observation) → Office
office_beside loads records observations = record { records = records; observations = observations; loads = loads }

-- the changes that lines make which leave these records and observations, whatever the loads of the office are
abbrev pub AreChangesOf : List OfficeRecord → List (ObsKey × Observation) → Option (List OfficeRecord) → Changes → List OfficeChange → Type 0
AreChangesOf records observations left changes office_changes =
    (loads : List StoredLoad)
    → office_changes ≡ changes_between (office_beside loads records observations) (office_after left changes (office_beside loads records observations))

-- ---- what holds of it

-- a load is staged on these records and observations: its changes are those of its lines, and no more observations stand after it than may
pub record IsStagedOn (records : List OfficeRecord) (observations : List (ObsKey × Observation)) (staged : StagedLoad) : Type 0 where
  pub changed : AreChangesOf records observations staged.records staged.changes staged.office_changes
  pub changes : AreChanges observations staged.changes
  pub few : length (with_changes staged.changes observations) ≤ MOST_OBSERVATIONS
