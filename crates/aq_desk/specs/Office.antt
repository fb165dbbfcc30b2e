-- The office that a command opens: that of the rows which the keeper hands out, of which those of version 1 are migrated first (own).
use Rattle.std.specs.Prelude.{◌≡◌, ℕ, false, List, Option, Some, None}
use Rattle.std.specs.Option.{option_map}
use Rattle.aq_keeper.specs.Told.{KeeperView, Stays, told_through}
use Rattle.aq_rules.specs.Kept.Migration.{are_version_1, opening_damage}
use Rattle.aq_rules.specs.Kept.Rows.{Place, Row, office_in, rows_of}
use Rattle.aq_rules.specs.Office.Office.{IsOffice, Office}
use Rattle.aq_base.specs.Faults.{HasRisen}
use Rattle.aq_desk.specs.Command.{AtMostOpened, Outcome, leaving, opened_rows, unwritten}
use Rattle.aq_desk.specs.Ending.{damaged}
use Rattle.aq_outside.specs.Outside.{OfTold}
use Rattle.aq_desk.specs.declared.stop.Stop.{Stop}
use Rattle.aq_desk.specs.declared.stop.Stop.TheVariants.{KeeperFailed, Damaged, Memory}

-- what follows over the office; rows that cannot be opened have a first such one, and stay as they are
abbrev pub over_damage : Option Place → List Row → (Office → Outcome) → Outcome
over_damage (Some place) rows next = leaving rows (unwritten (damaged place))
over_damage None rows next = next (office_in (opened_rows rows))

unfoldable pub over_office : List Row → (Office → Outcome) → Outcome
over_office rows next = over_damage (opening_damage rows) rows next

-- rows that can be opened, and the valid office that they are once they are opened
pub record IsOpened (rows : List Row) (office : Office) : Type 0 where
  pub undamaged : opening_damage rows ≡ None
  pub is_office : office_in (opened_rows rows) ≡ office
  pub are_rows : rows_of office ≡ opened_rows rows
  pub valid : IsOffice office

-- the office of these tables was opened, and they are its own, if they are told still
pub record HasOpened (office : Office) (before after : Option (List Row)) : Type 0 where
  pub opened : OfTold (told_through before after) (λ rows. IsOpened rows office)
  pub tables : Stays (option_map opened_rows before) after

-- why an office is not opened: the keeper's count rose, or, if it did not, a row cannot be opened with those before it, and the tables are as before; want of memory has no cause that is told, and may come after the migration
abbrev pub IsUnopened : Option (List Row) → Option (List Row) → ℕ → ℕ → Stop → Type 0
IsUnopened before after m n KeeperFailed = Stays before after × HasRisen m n
IsUnopened before after m n Memory = AtMostOpened before after × (n ≡ m)
IsUnopened before after m n (Damaged place) =
    Stays before after × (n ≡ m) × OfTold (told_through before after) (λ rows. opening_damage rows ≡ Some (record { table = place.table; index = place.index }))
IsUnopened before after m n _ = ⊥

-- nothing was committed, unless the rows that were told are of version 1
abbrev pub OnlyMigrates : KeeperView → KeeperView → Type 0
OnlyMigrates before after = OfTold (told_through before.tables after.tables) (λ rows. are_version_1 rows ≡ false → after.commits ≡ before.commits)
