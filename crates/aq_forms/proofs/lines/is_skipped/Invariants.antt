use Rattle.std.proofs.Common.{◌≡◌, drop}
use Rattle.aq_rules.specs.Lines.Lines.{is_skipped}
use Rattle.aq_forms.proofs.lines.is_skipped.Given as goal

-- only spaces were passed over
abbrev pub invariant-loop-byte : goal.invariant-loop-byte
invariant-loop-byte l = is_skipped (drop l.byte-index l.text) ≡ is_skipped l.text
