use Rattle.std.proofs.Common.{w32, arith}
use Rattle.std.proofs.lemmas.Int.{to_z-of_z}
use Rattle.std.proofs.lemmas.List.Elements.{All-tail}
use Rattle.aq_series.specs.Samples.{IsOzone}
use Rattle.aq_ozone_cells.proofs.ranked_maxima.RankedMaximaAggregate.take.Goals as goal

pub returns : goal.returns
returns c rest of = record {
  values_are = c.take.ensures rest (rw (to_z-of_z w32 c.args.item c.ranges.item) of.values_are);
  number_is = omega (arith, of.number_is);
  ozone = All-tail IsOzone c.args.item rest of.ozone;
}
