use Rattle.aq_series.specs.OfficeView.{office_of}
use Rattle.aq_ozone_cells.proofs.FillLemmas.{none-approved, stay-itself}
use Rattle.aq_ozone_cells.proofs.filling.fill_record.Goals as goal

pub returns-in_default : goal.returns-in_default
returns-in_default g c = record {
  filling = c.requires;
  stay = stay-itself (office_of c.args.registry.now c.args.shelf.now) c.args.cells.now;
  filled = λ site day is. absurd (none-approved site day c.args.row.now c.in_default.not-Approved is);
}
