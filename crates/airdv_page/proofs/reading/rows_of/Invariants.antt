use Rattle.std.proofs.Common.{◌≡◌, ◌+◌, drop}
use Rattle.std.specs.List.{prefix_len}
use Rattle.airdv_page.specs.Reading.{is_row}
use Rattle.airdv_page.proofs.reading.rows_of.Given as goal

abbrev pub invariant-loop-line : goal.invariant-loop-line
invariant-loop-line l = record {
  counted : l.count ≡ l.line-index;
  same : l.count + prefix_len (is_row l.width) (drop l.line-index l.lines) ≡ prefix_len (is_row l.width) l.lines;
}
