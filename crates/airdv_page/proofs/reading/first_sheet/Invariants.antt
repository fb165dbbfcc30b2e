use Rattle.std.proofs.Common.{◌≡◌, drop}
use Rattle.airdv_page.specs.Reading.{first_sheet}
use Rattle.airdv_page.proofs.reading.first_sheet.Given as goal

abbrev pub invariant-loop-kind : goal.invariant-loop-kind
invariant-loop-kind l = first_sheet (drop l.kind-index l.kinds) l.lines ≡ first_sheet l.kinds l.lines
