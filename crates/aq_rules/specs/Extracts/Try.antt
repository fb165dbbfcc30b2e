-- The reply that a load would get, without the load (own).
use Rattle.std.specs.Prelude.{ℕ, List}
use Rattle.aq_rules.specs.Office.Load.{reply}
use Rattle.aq_rules.specs.Office.Office.{Office}
use Rattle.aq_rules.specs.Shown.Sheet.{Sheet}
use Rattle.aq_rules.specs.Shown.Sheets.{load_sheet}

-- under the number 0, which no load has
unfoldable pub try_answer : Office → List ℕ → Sheet
try_answer office body = load_sheet (reply office 0 body)
