-- Replies over an office, as parts of what a whole request is answered with.
use Rattle.std.specs.Prelude.{◌≡◌, ℕ, ◌==◌, ◌⊎◌, Bool, true, false, List, codes}
use Rattle.aq_base.specs.Faults.{HasRisen}
use Rattle.aq_rules.specs.Office.Office.{Office}
use Rattle.aq_rules.specs.Shown.OtherSheets.{conflict_sheet}
use Rattle.aq_serve.specs.Answered.{Answered, refused, reply_of, shown}
use Rattle.aq_keeper.specs.Standing.{AreOfOffice, Become, Keeps, Standing}
use Rattle.aq_serve.specs.Service.{Counts}
use Rattle.aq_office.specs.declared.posting.Posted.{Posted}
use Rattle.aq_office.specs.declared.posting.Posted.TheVariants.{Done, Conflict, Full, Failed}

-- bytes that answer, the keeper failing or not, and the office and the tables after them
pub record AnswersBy (answered : Bool → Answered) (close : Bool) (bytes : List ℕ) (before after : Standing) : Type 0 where
  pub fails : Bool
  pub reply : bytes ≡ reply_of (answered fails) close
  pub office : after.office ≡ (answered fails).office
  pub cause : Counts ((answered fails).status == 503) before.faults after.faults
  pub tables : Keeps before after

-- memory was not to be had for them
pub record LosesBy (answered : Bool → Answered) (before after : Standing) : Type 0 where
  pub cause : (after.faults ≡ before.faults) ⊎ HasRisen before.faults after.faults
  pub tables : AreOfOffice before → Become before before.office after ⊎ Become before (answered false).office after

-- what a posted load is answered with, over the office that then stands
abbrev pub to_posted : Posted → ℕ → Office → Answered
to_posted (Done sheet) number office = shown 200 sheet office
to_posted (Conflict kept sent) number office = shown 409 (conflict_sheet number kept sent) office
to_posted Full number office = refused 507 office
to_posted Failed number office = refused 503 office

-- the methods that a 405 allows
abbrev pub methods : Bool → List ℕ
methods true = codes "GET, POST"
methods false = codes "GET"
