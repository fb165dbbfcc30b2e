use Rattle.std.proofs.Common.{List, ◌++◌, map, ap, ◌∙◌}
use Rattle.std.specs.List.{filter_map}
use Rattle.aq_base.specs.declared.office.OfficeRecord.{OfficeRecord}
use Rattle.aq_rules.specs.Office.Office.{key_of}
use Rattle.aq_staging.specs.Batch.{record_change_at}
use Rattle.aq_staging.proofs.BatchLemmas.{batch-is}
use Rattle.aq_staging.proofs.batch.changes_of.Goals as goal

pub returns : goal.returns
returns c =
    let of_records = ap (λ (after : List OfficeRecord). c.new-changes.result ++ filter_map (record_change_at c.args.registry.now after) (map key_of c.args.touched.now)) c.registry_after-after.ensures in
    batch-is c.args.left.now c.args.touched.now c.args.staged.now c.args.registry.now c.args.shelf.now c.requires.touched c.requires.changes c.requires.order
    c.new-changes.result c.add_records.new.changes c.add_observations.new.changes c.new-changes.ensures (c.in_ok-add_records.ensures ∙ of_records) c.in_ok-add_observations.ensures
