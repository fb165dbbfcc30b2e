use Rattle.std.proofs.Common.{◌≡◌, ◌+◌, drop, length, map}
use Rattle.airdv_page.specs.Reading.{are_heads}
use Rattle.airdv_page.proofs.reading.are_heads.Given as goal

abbrev pub invariant-loop-name : goal.invariant-loop-name
invariant-loop-name l = record {
  same :
      are_heads (map (λ name. name.now) (drop l.name-index l.names)) l.rest
      ≡ are_heads (map (λ name. name.now) l.names) l.fn.lines;
  counted : length l.rest + l.name-index ≡ length l.fn.lines;
}
