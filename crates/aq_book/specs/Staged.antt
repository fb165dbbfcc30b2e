-- What a staged load makes of an office.
use Rattle.std.specs.Prelude.{◌≡◌, ℕ, Option, Some, None, List, [], ◌∷◌}
use Rattle.aq_base.specs.declared.reply.LoadReply.{LoadReply}
use Rattle.aq_rules.specs.Lines.Lines.{body_lines}
use Rattle.aq_rules.specs.Office.Load.{OfficeChange, PutLoad, after_all, reply}
use Rattle.aq_rules.specs.Office.Office.{IsOffice, Office, StoredLoad, load_rank, with_row}
use Rattle.aq_staging.specs.Identity.{identity_of}
use Rattle.aq_staging.specs.Staged.{StagedLoad, after_lines, IsStagedOn}
use Rattle.aq_staging.specs.declared.identity.LoadIdentity.{LoadIdentity}
use Rattle.aq_rows.specs.KeptLoads.{stored_as}

-- the loads with this one, if it is kept
abbrev pub kept_under : Option LoadIdentity → LoadReply → List StoredLoad → List StoredLoad
kept_under None reply loads = loads
kept_under (Some identity) reply loads = with_row load_rank (stored_as identity.number identity.digest reply) loads

abbrev pub with_kept : Option LoadIdentity → LoadReply → Office → Office
with_kept identity reply office = record office { loads = kept_under identity reply office.loads }

-- the change of the load's own row, if it is kept
abbrev pub own_change : Option LoadIdentity → LoadReply → List OfficeChange
own_change None reply = []
own_change (Some identity) reply = PutLoad (stored_as identity.number identity.digest reply) ∷ []

-- the office after the load: its lines are taken, and it is kept if it has an identity
unfoldable pub office_with : StagedLoad → Office → Office
office_with staged office = with_kept staged.identity staged.reply (after_lines staged office)

-- a staged load fits an office: it was staged on it, and with it the office is a valid one
pub record Fits (staged : StagedLoad) (office : Office) : Type 0 where
  pub on : IsStagedOn office.records office.observations staged
  pub valid : IsOffice (office_with staged office)

-- a load that was staged on an office: the lines of this body, under this number and digest
pub record IsStageOf (office : Office) (number : ℕ) (digest body : List ℕ) (staged : StagedLoad) : Type 0 where
  pub identity_is : staged.identity ≡ identity_of number digest
  pub reply_is : staged.reply ≡ reply office number body
  pub lines_taken : after_lines staged office ≡ after_all office (body_lines body)
  pub on : IsStagedOn office.records office.observations staged
