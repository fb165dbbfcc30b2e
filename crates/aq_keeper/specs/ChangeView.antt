-- The change that a content is, as the book of rules has it.
use Rattle.aq_keeper.specs.declared.change.ChangeContent.{ChangeContent}
use Rattle.aq_keeper.specs.declared.change.ChangeContent.TheVariants.{Put, Drop}
use Rattle.aq_rules.specs.Kept.RowChanges as row_changes

abbrev pub change_of : ChangeContent → row_changes.RowChange
change_of (Put row) = row_changes.PutRow row
change_of (Drop key) = row_changes.DropRow key
