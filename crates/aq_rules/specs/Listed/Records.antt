-- The records of an office as text: the lines that make them anew (own).
use Rattle.std.specs.Prelude.{ℕ, List, ◌++◌, flat_map, codes}
use Rattle.aq_base.specs.declared.office.OfficeRecord.{OfficeRecord}
use Rattle.aq_rules.specs.Lines.Canonical.{canonical_office, record_line}
use Rattle.aq_rules.specs.Office.Office.{Office}

-- a record's line: an insertion, and for a concurrence the update that makes it
abbrev pub record_text : OfficeRecord → List ℕ
record_text r = canonical_office (record_line r) ++ codes "\n"

-- in the order of their rows, in which each record comes after those without which it does not stand
unfoldable pub records_answer : Office → List ℕ
records_answer office = flat_map record_text office.records
