use Rattle.std.proofs.Common.{◌≡◌, ◌∙◌, map, ap, of_z, to_z, w32}
use Rattle.std.specs.Prelude.{neg_ℤ}
use Rattle.std.proofs.lemmas.Int.{to_z-of_z}
use Rattle.std.proofs.lemmas.List.Elements.{All-tail}
use Rattle.aq_series.specs.DayCells.{IsParticle}
use Rattle.aq_particle_cells.proofs.pm25.day_values.DayValuesAggregate.take.Goals as goal

pub returns : goal.returns
returns c rest of =
    let mirror : to_z w32 (of_z w32 c.negated.result) ≡ neg_ℤ c.args.item
    = to_z-of_z w32 c.negated.result (record { sfits = c.negated.type_inv }) ∙ c.negated.ensures ∙ ap neg_ℤ (to_z-of_z w32 c.args.item c.ranges.item) in
    record {
      sums = c.take.ensures rest (rw (to_z-of_z w32 c.args.item c.ranges.item) of.sums);
      greatest_are = c.take-2.ensures rest (rw (to_z-of_z w32 c.args.item c.ranges.item) of.greatest_are);
      least_are = c.take-3.ensures (map neg_ℤ rest) (rw mirror of.least_are);
      particles = All-tail IsParticle c.args.item rest of.particles;
    }
