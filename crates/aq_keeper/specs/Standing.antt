-- An office, and the rows that its keeper tells of it.
use Rattle.std.specs.Prelude.{◌≡◌, ℕ, List, Option, IfSome}
use Rattle.std.specs.Option.{option_map}
use Rattle.aq_keeper.specs.Told.{KeeperView, Stays}
use Rattle.aq_rules.specs.Kept.Rows.{Row, rows_of}
use Rattle.aq_rules.specs.Office.Office.{Office}

-- the office, the rows of the keeper's tables if it tells them, and its count of faults
pub record Standing : Type 0 where
  pub office : Office
  pub tables : Option (List Row)
  pub faults : ℕ

-- the same of a keeper that is seen so
abbrev pub standing_of : Office → KeeperView → Standing
standing_of office keeper = record { office = office; tables = keeper.tables; faults = keeper.faults }

-- the tables, if they are told, are those of the office
abbrev pub AreOfOffice : Standing → Type 0
AreOfOffice standing = IfSome standing.tables (λ told. told ≡ rows_of standing.office)

-- the tables, if they are told still, become those of this office
abbrev pub Become : Standing → Office → Standing → Type 0
Become before office after = Stays (option_map (λ _. rows_of office) before.tables) after.tables

-- tables that were those of the office before are those of the office after
abbrev pub Keeps : Standing → Standing → Type 0
Keeps before after = AreOfOffice before → Become before after.office after
