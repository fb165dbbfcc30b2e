use Rattle.std.proofs.Common.{◌≡◌, ◌≤◌, ◌==◌, take, count_by}
use Rattle.aq_measure.proofs.counts.bars_in.Given as goal

abbrev pub invariant-loop-byte : goal.invariant-loop-byte
invariant-loop-byte l = record {
  ends : l.ends ≡ count_by (λ byte. byte == 10) (take l.byte-index l.body);
  bars : l.bars ≡ count_by (λ byte. byte == 124) (take l.byte-index l.body);
  few_ends : l.ends ≤ l.byte-index;
  few_bars : l.bars ≤ l.byte-index;
}
