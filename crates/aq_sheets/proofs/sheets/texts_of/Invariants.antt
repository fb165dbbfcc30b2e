use Rattle.std.proofs.Common.{◌≡◌, ◌++◌, drop, flat_map}
use Rattle.aq_rules.specs.Shown.Sheet.{text_of}
use Rattle.aq_sheets.proofs.sheets.texts_of.Given as goal

abbrev pub invariant-loop-sheet : goal.invariant-loop-sheet
invariant-loop-sheet l = l.out.items ++ flat_map text_of (drop l.sheet-index l.sheets) ≡ flat_map text_of l.sheets
