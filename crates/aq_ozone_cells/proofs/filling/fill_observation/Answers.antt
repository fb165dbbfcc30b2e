use Rattle.std.proofs.Common.{◌/◌, ap, sym}
use Rattle.aq_series.specs.OfficeView.{office_of}
use Rattle.aq_ozone_cells.proofs.FillLemmas.{near-filled, stay-itself}
use Rattle.aq_ozone_cells.proofs.filling.fill_observation.Goals as goal

pub returns-then-ne-clause-stay : goal.returns-then-ne-clause-stay
returns-then-ne-clause-stay g c = stay-itself (office_of c.args.registry.now c.args.shelf.now) c.args.cells.now

pub returns-clause-filled : goal.returns-clause-filled
returns-clause-filled g c site day =
    near-filled (office_of c.args.registry.now c.args.shelf.now) c.fill_at.new.cells site day c.args.key.now (c.number.result / 24)
    (sym (ap (λ n. n / 24) c.number.ensures.value)) c.in_ok-fill_at.ensures.day c.in_ok-fill_at.ensures.before
