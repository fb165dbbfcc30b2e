use Rattle.std.proofs.Common.{◌∙◌, None, Some, ap, sym}
use Rattle.aq_rules.specs.Kept.Reach.{changed_row}
use Rattle.aq_dirty.specs.Reach.{record_row}
use Rattle.aq_series.specs.OfficeView.{office_of}
use Rattle.aq_staging.specs.Batch.{change_in}
use Rattle.aq_cells.specs.Reached.{is_amiss}
use Rattle.aq_cells.proofs.ReachedLemmas.{dropped-row}
use Rattle.aq_cells.proofs.reached.change_of.Goals as goal

pub returns-in-DropRecord : goal.returns-in-DropRecord
returns-in-DropRecord c rows =
    ap (λ o. record_row o None) c.get-in-DropRecord.ensures
    ∙ dropped-row c.args.before.now c.in-DropRecord.key (ap (λ change. is_amiss c.args.before.now (change_in change)) (sym c.in-DropRecord.is) ∙ c.requires)
    ∙ ap (λ change. Some (changed_row (office_of c.args.before.now rows) (change_in change))) (sym c.in-DropRecord.is)
