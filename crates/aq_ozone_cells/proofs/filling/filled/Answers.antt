use Rattle.std.proofs.Common.{inr}
use Rattle.aq_series.specs.OfficeView.{office_of}
use Rattle.aq_ozone_cells.specs.Filling.{AreFilling}
use Rattle.aq_ozone_cells.proofs.FillLemmas.{stay-at}
use Rattle.aq_ozone_cells.proofs.Unobserved.{all-kept}
use Rattle.aq_ozone_cells.proofs.filling.filled.Goals as goal

pub fill_observed-requires : goal.fill_observed-requires
unfolding AreFilling
fill_observed-requires g c site day in_profile = inr (record {
  hours = λ hour at. c.new-cells.ensures.hours site hour;
  averages = λ start at. c.new-cells.ensures.averages site start;
  held = c.new-cells.ensures.days site day;
})

pub returns : goal.returns
returns g c =
    let office = office_of c.args.registry.now c.args.shelf.now in
    all-kept office c.fill_approved.new.cells c.in_ok-fill_approved.ensures.each
    (λ site day in_profile any. stay-at office c.fill_observed.new.cells c.fill_approved.new.cells c.in_ok-fill_approved.ensures.stay site day in_profile (c.in_ok-fill_observed.ensures.filled site day in_profile any))
    c.in_ok-fill_approved.ensures.filled
