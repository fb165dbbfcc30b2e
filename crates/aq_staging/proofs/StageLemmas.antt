-- The office that a staged load stands for.
use Rattle.std.proofs.Common.{◌≡◌, Option, unwrap_or, List, sym, ◌∙◌}
use Rattle.aq_base.specs.declared.observation.ObsKey.{ObsKey}
use Rattle.aq_base.specs.declared.observation.Observation.{Observation}
use Rattle.aq_base.specs.declared.office.OfficeRecord.{OfficeRecord}
use Rattle.aq_staging.specs.declared.staging.Staging.{Staging}
use Rattle.aq_staging.specs.declared.changes.Changes.{Changes}
use Rattle.aq_staging.specs.Changes.{with_changes}
use Rattle.aq_staging.specs.OfficeView.{office_of}
use Rattle.aq_staging.specs.Refusals.{office_before, office_in}
use Rattle.aq_staging.specs.Staged.{office_after}

pub staged-office : (staging : Staging) (copy : Option (List OfficeRecord)) (changes : Changes) (records : List OfficeRecord) (rows : List (ObsKey × Observation))
    → office_before staging ≡ office_of records rows → unwrap_or copy staging.records.before ≡ staging.records.standing → with_changes changes staging.observations.before ≡ staging.observations.standing
    → office_after copy changes (office_of records rows) ≡ office_in staging
staged-office staging copy changes records rows before copied standing =
    (λ i. office_of (unwrap_or copy (sym before i).records) (with_changes changes (sym before i).observations))
    ∙ (λ i. office_of (copied i) (standing i))
