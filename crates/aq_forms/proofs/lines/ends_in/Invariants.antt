use Rattle.std.proofs.Common.{◌≡◌, ◌≤◌, ◌==◌, take, count_by}
use Rattle.aq_forms.proofs.lines.ends_in.Given as goal

abbrev pub invariant-loop-byte : goal.invariant-loop-byte
invariant-loop-byte l = record {
  counted : l.ends ≡ count_by (λ byte. byte == 10) (take l.byte-index l.piece);
  few : l.ends ≤ l.byte-index;
}
