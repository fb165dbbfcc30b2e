-- The row that a content is, as the book of rules has it.
use Rattle.aq_keeper.specs.declared.row.RowContent.{RowContent}
use Rattle.aq_keeper.specs.declared.row.RowContent.TheVariants.{Office, Observation, Load, Second}
use Rattle.aq_rules.specs.Kept.Rows as rows

abbrev pub row_of : RowContent → rows.Row
row_of (Office row) = rows.OfOfficeRow row
row_of (Observation row) = rows.OfObsRow row
row_of (Load row) = rows.OfLoadRow row
row_of (Second row) = rows.OfSecondRow row
