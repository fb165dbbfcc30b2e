use Rattle.std.proofs.Common.{◌≡◌, ◌++◌, drop}
use Rattle.aq_rules.specs.Shown.OtherSheets as other_sheets
use Rattle.aq_reports.proofs.single.digest_text.Given as goal

abbrev pub invariant-loop-byte : goal.invariant-loop-byte
invariant-loop-byte l = l.text.items ++ other_sheets.digest_text (drop l.byte-index l.digest) ≡ other_sheets.digest_text l.digest
