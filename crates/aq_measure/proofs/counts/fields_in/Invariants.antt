use Rattle.std.proofs.Common.{◌≡◌, ◌≤◌, ◌+◌, ◌*◌, ◌^◌, length, map, sum}
use Rattle.aq_rules.specs.Lines.Lines.{body_lines}
use Rattle.aq_measure.specs.Counts.{field_count_in}
use Rattle.aq_measure.proofs.counts.fields_in.Given as goal

abbrev pub invariant-loop-line : goal.invariant-loop-line
invariant-loop-line l = record {
  lines : l.lines + length l.line-iterator ≡ length (body_lines l.body);
  fields : l.fields + sum (map field_count_in l.line-iterator) ≡ sum (map field_count_in (body_lines l.body));
  few : l.fields ≤ l.lines * 2 ^ 64;
}
