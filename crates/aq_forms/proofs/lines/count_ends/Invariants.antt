use Rattle.std.proofs.Common.{◌≡◌, ◌≤◌, ◌+◌, ◌==◌, length, count_by}
use Rattle.aq_forms.proofs.lines.count_ends.Given as goal

abbrev pub invariant-loop-rest : goal.invariant-loop-rest
invariant-loop-rest l = record {
  counted : l.ends + count_by (λ byte. byte == 10) l.rest ≡ count_by (λ byte. byte == 10) l.bytes;
  few : length l.rest ≤ length l.bytes;
}

abbrev pub decreases-loop-rest : goal.decreases-loop-rest
decreases-loop-rest l = length l.rest
