-- What becomes of a load that is posted over a keeper, by what the book of rules says of it.
use Rattle.std.specs.Prelude.{◌≡◌, ⊤, ℕ, ◌⊎◌, Bool, true, false, if◌then◌else◌, List, map, Option, Some, None, bytes_eq}
use Rattle.std.specs.Option.{option_map}
use Rattle.aq_base.specs.Faults.{HasRisen}
use Rattle.aq_base.specs.declared.reply.LoadReply.{LoadReply}
use Rattle.aq_keeper.specs.Told.{KeeperView, Stays}
use Rattle.aq_rules.specs.Kept.RowChanges.{RowChange, batch_rises, changed_key, with_row_changes}
use Rattle.aq_rules.specs.Kept.Rows.{rows_of}
use Rattle.aq_rules.specs.Office.Load as loads
use Rattle.aq_rules.specs.Office.Load.{TooManyLines, Repeated, Differing, NoRoom, Taken}
use Rattle.aq_rules.specs.Office.Office.{Office, StoredLoad}
use Rattle.aq_rules.specs.Shown.Sheets.{load_sheet}
use Rattle.aq_rules.specs.Shown.WellFormed.{IsWellFormed}
use Rattle.aq_keeper.specs.Standing.{AreOfOffice, Become, Keeps, Standing}
use Rattle.aq_book.specs.Staged.{Fits, office_with}
use Rattle.aq_office.specs.declared.posting.Posted.{Posted}
use Rattle.aq_office.specs.declared.posting.ReadyLoad.{ReadyLoad}
use Rattle.aq_office.specs.declared.posting.Posted.TheVariants.{Done, Conflict, Full, Failed}

-- a load that is to be taken stands, in the tables too, and is answered with its reply; or the keeper failed and nothing changed
abbrev pub TakenBy : Posted → LoadReply → Office → Standing → Standing → Type 0
TakenBy (Done sheet) reply now before after =
    (sheet ≡ load_sheet reply) × (after.office ≡ now) × (after.faults ≡ before.faults) × Keeps before after
TakenBy Failed reply now before after =
    (after.office ≡ before.office) × Stays before.tables after.tables × HasRisen before.faults after.faults
TakenBy (Conflict kept sent) reply now before after = ⊥
TakenBy Full reply now before after = ⊥

-- the answer to a load that is not new, by what stands under its number
abbrev pub standing_answer : Option StoredLoad → List ℕ → Posted
standing_answer None sent = Full
standing_answer (Some kept) sent = if bytes_eq kept.digest sent then Done (load_sheet kept.reply) else Conflict kept.digest sent

-- the answer, by what the load would come to; a body has few lines
abbrev pub IsPosted : loads.Posted → Standing → Standing → Posted → Type 0
IsPosted TooManyLines before after answer = ⊥
IsPosted (Repeated kept) before after answer = (answer ≡ Done (load_sheet kept)) × (after ≡ before)
IsPosted (Differing kept sent) before after answer = (answer ≡ Conflict kept sent) × (after ≡ before)
IsPosted NoRoom before after answer = (answer ≡ Full) × (after ≡ before)
IsPosted (Taken reply now) before after answer = TakenBy answer reply now before after

-- the sheet of a reply has a text in JSON
abbrev pub IsPostedShown : Posted → Type 0
IsPostedShown (Done sheet) = IsWellFormed sheet
IsPostedShown (Conflict kept sent) = ⊤
IsPostedShown Full = ⊤
IsPostedShown Failed = ⊤

-- memory was not to be had: the tables are as before, or have the load
pub record LosesLoad (number : ℕ) (digest body : List ℕ) (before after : Standing) : Type 0 where
  pub faults : after.faults ≡ before.faults
  pub tables : AreOfOffice before → Become before before.office after ⊎ Become before (loads.post before.office number digest body) after

-- ---- the steps of a post

-- a new load that is ready: it fits, the office with it is the one after the load, its changes of rows are in order and give the rows of that office, and its sheet is that of its reply and well formed
pub record IsReady (office : Office) (number : ℕ) (digest body : List ℕ) (ready : ReadyLoad) : Type 0 where
  pub fits : Fits ready.staged office
  pub office_is : office_with ready.staged office ≡ loads.load office number digest body
  pub in_order : batch_rises (map changed_key ready.batch) ≡ true
  pub gives : with_row_changes (rows_of office) ready.batch ≡ rows_of (loads.load office number digest body)
  pub sheet_is : ready.sheet ≡ load_sheet (loads.reply office number body)
  pub shown : IsWellFormed ready.sheet

-- changes of rows stand; or the keeper failed, and the tables are as before
abbrev pub Commits : Bool → List RowChange → KeeperView → KeeperView → Type 0
Commits true batch before after = Stays (option_map (λ told. with_row_changes told batch) before.tables) after.tables × (after.faults ≡ before.faults)
Commits false batch before after = Stays before.tables after.tables × HasRisen before.faults after.faults

-- nothing was committed, and the keeper did not fail
abbrev pub LeavesTables : KeeperView → KeeperView → Type 0
LeavesTables before after = Stays before.tables after.tables × (after.faults ≡ before.faults)
