use Rattle.std.proofs.Common.{◌≡◌, ◌≤◌, ◌+◌, ◌-◌, length, take, drop}
use Rattle.aq_rules.specs.Lines.Spellings.{qualifiers_in, qualifiers_onto}
use Rattle.aq_rules.specs.Lines.RdForm.{qualifier_fields}
use Rattle.aq_rd.proofs.spellings.qualifiers.Given as goal

abbrev pub invariant-loop-number : goal.invariant-loop-number
invariant-loop-number l = record {
  few : length l.quals + 17 ≤ l.number;
  same : qualifiers_in (qualifier_fields l.texts) ≡ qualifiers_onto l.quals (take (27 - l.number) (drop (l.number - 1) l.texts));
}
