use Rattle.std.proofs.Common.{◌≡◌, ◌++◌, drop, flat_map}
use Rattle.aq_rules.specs.Shown.Export as export
use Rattle.aq_sheets.specs.Written.{IsReady, written}
use Rattle.aq_sheets.proofs.export.export_of.Given as goal

abbrev pub invariant-loop-row : goal.invariant-loop-row
invariant-loop-row l = record {
  ready : IsReady l.records;
  so_far : written l.records ++ flat_map (λ s. export.csv_record (export.shown_fields s)) (drop l.row-index l.rows)
      ≡ export.export_header ++ flat_map (λ s. export.csv_record (export.shown_fields s)) l.rows;
}
