use Rattle.std.proofs.Common.{◌≡◌, ◌++◌}
use Rattle.std.specs.Prelude.{false, flat_map, true}
use Rattle.aq_staging.specs.Extracts.Texts.{put_line}
use Rattle.aq_series.specs.OfficeView.{office_of}
use Rattle.aq_staging.proofs.extracts.puts.add_puts.Given as goal

abbrev pub invariant-loop-key : goal.invariant-loop-key
invariant-loop-key g l = record {
  updated : l.updates.items ++ flat_map (put_line true (office_of l.registry l.shelf)) l.key-iterator
      ≡ l.fn.updates.items ++ flat_map (put_line true (office_of l.registry l.shelf)) l.rows;
  inserted : l.insertions.items ++ flat_map (put_line false (office_of l.registry l.shelf)) l.key-iterator
      ≡ l.fn.insertions.items ++ flat_map (put_line false (office_of l.registry l.shelf)) l.rows;
}
