use Rattle.std.proofs.Common.{◌≡◌, true, ◌+◌, ◌++◌, map, drop, zip}
use Rattle.std.specs.List.{enumerate_from}
use Rattle.aq_rules.specs.Shown.ParticleSheets as particle_sheets
use Rattle.aq_reports.specs.Formed.{are_rows}
use Rattle.aq_reports.proofs.value_pm25.annual_rows.Given as goal

abbrev pub invariant-loop-place : goal.invariant-loop-place
invariant-loop-place l = record {
  so_far : l.rows ++ map particle_sheets.annual_cells (enumerate_from (l.oldest + l.place) (zip (drop l.place l.years) (drop l.place l.valid))) ≡ map particle_sheets.annual_cells (enumerate_from l.oldest (zip l.years l.valid));
  rows : are_rows 7 l.rows ≡ true;
}
