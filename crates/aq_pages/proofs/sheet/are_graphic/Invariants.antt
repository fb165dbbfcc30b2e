use Rattle.std.proofs.Common.{◌≡◌, drop}
use Rattle.std.specs.List.{list_all}
use Rattle.aq_pages.specs.Sheets.{is_graphic}
use Rattle.aq_pages.proofs.sheet.are_graphic.Given as goal

abbrev pub invariant-loop-byte : goal.invariant-loop-byte
invariant-loop-byte l = list_all is_graphic (drop l.byte-index l.bytes) ≡ list_all is_graphic l.bytes
