use Rattle.std.proofs.Common.{◌∙◌, inr}
use Rattle.aq_series.specs.OfficeView.{office_of}
use Rattle.aq_particle_cells.proofs.Pm10Lemmas.Pm10Filling.{all-filled, none-filling}
use Rattle.aq_particle_cells.proofs.pm10.filling.filled.Goals as goal

pub fill_days-requires : goal.fill_days-requires
fill_days-requires g c = none-filling (office_of c.args.registry.now c.args.shelf.now) c.new-cells.result c.new-cells.ensures.cells c.new-cells.ensures.samples

pub fill_strata-requires : goal.fill_strata-requires
fill_strata-requires g c = record {
  values = c.in_ok-fill_days.ensures.values;
  strata = λ site first within. inr (c.in_ok-fill_days.ensures.strata site first ∙ c.new-cells.ensures.strata site first);
}

pub returns : goal.returns
returns g c =
    all-filled (office_of c.args.registry.now c.args.shelf.now) c.fill_days.new.cells c.fill_strata.new.cells c.in_ok-fill_days.ensures.values c.in_ok-fill_days.ensures.counts
    c.in_ok-fill_strata.ensures.strata c.in_ok-fill_strata.ensures.cells c.in_ok-fill_strata.ensures.samples
