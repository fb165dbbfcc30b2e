use Rattle.std.proofs.Common.{◌≡◌, ◌+◌, ◌++◌, map, drop}
use Rattle.std.specs.List.{enumerate_from}
use Rattle.aq_rules.specs.Listed.Highest as highest
use Rattle.aq_reports.proofs.daily.highest_sheet.particle_rows.Given as goal

abbrev pub invariant-loop-row : goal.invariant-loop-row
invariant-loop-row l = record {
  rank : l.rank ≡ 1 + l.row-index;
  so_far : l.rows ++ map highest.particle_cells (enumerate_from l.rank (drop l.row-index l.days)) ≡ map highest.particle_cells (enumerate_from 1 l.days);
}
