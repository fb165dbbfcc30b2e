-- The loads that were taken (own).
use Rattle.std.specs.Prelude.{List, [], ◌∷◌, length, map, codes}
use Rattle.aq_rules.specs.Office.Office.{Office, StoredLoad}
use Rattle.aq_rules.specs.Shown.OtherSheets.{digest_text}
use Rattle.aq_rules.specs.Shown.Sheet.{SheetCell, Sheet, head_of, count_cell}
use Rattle.aq_rules.specs.Shown.Sheet.SheetCell.{Text}

abbrev pub load_cells : StoredLoad → List SheetCell
load_cells load =
    count_cell load.number ∷ count_cell load.reply.lines ∷ count_cell load.reply.accepted ∷ count_cell load.reply.refused
    ∷ Text (digest_text load.digest) ∷ []

-- by number
unfoldable pub loads_sheet : List StoredLoad → Sheet
loads_sheet loads = record {
  heads = head_of (codes "loads") (count_cell (length loads)) ∷ [];
  columns = codes "load" ∷ codes "lines" ∷ codes "accepted" ∷ codes "refused" ∷ codes "digest" ∷ [];
  rows = map load_cells loads;
}

unfoldable pub loads_answer : Office → Sheet
loads_answer office = loads_sheet office.loads
