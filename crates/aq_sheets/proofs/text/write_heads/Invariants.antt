use Rattle.std.proofs.Common.{◌≡◌, ◌++◌, drop, flat_map}
use Rattle.aq_rules.specs.Shown.Sheet as sheets
use Rattle.aq_sheets.proofs.text.write_heads.Given as goal

abbrev pub invariant-loop-head : goal.invariant-loop-head
invariant-loop-head l =
    l.out.items ++ flat_map sheets.head_text (drop l.head-index l.heads) ≡ l.fn.out.items ++ flat_map sheets.head_text l.heads
