use Rattle.std.proofs.Common.{◌≡◌, ◌++◌, ◌≤◌, length}
use Rattle.std.specs.Prelude.{option_map}
use Rattle.airdv_page.specs.Reading.{sheets_in}
use Rattle.airdv_page.proofs.reading.read_sheets.Given as goal

abbrev pub invariant-loop-left : goal.invariant-loop-left
invariant-loop-left l = record {
  same :
      option_map (λ more. l.sheets.items ++ more) (sheets_in l.left l.rest)
      ≡ option_map (λ more. l.fn.sheets.items ++ more) (sheets_in l.fn.most l.fn.lines);
  few : length l.rest ≤ 100000;
}

abbrev pub decreases-loop-left : goal.decreases-loop-left
decreases-loop-left l = l.left
