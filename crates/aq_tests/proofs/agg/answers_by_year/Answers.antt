use Rattle.std.proofs.Common.{[], ◌∷◌, arith}
use Rattle.std.specs.Prelude.{pos}
use Rattle.aq_tests.proofs.agg.answers_by_year.Goals as goal

pub change-requires-2-clause-old : goal.change-requires-2-clause-old
change-requires-2-clause-old g c = record { rest = []; whole = c.in_ok-change.ensures.bag [] (c.new-tally.ensures 2024) }

pub change-requires-2-clause-room : goal.change-requires-2-clause-room
change-requires-2-clause-room g c = record { bag = pos 71 ∷ []; whole = c.in_ok-change.ensures.bag [] (c.new-tally.ensures 2024); few = omega arith }

pub change-requires-3-clause-room : goal.change-requires-3-clause-room
change-requires-3-clause-room g c = record {
  bag = [];
  whole = c.in_ok-change-2.ensures.others 2023 (λ same. cc) [] (c.in_ok-change.ensures.others 2023 (λ same. cc) [] (c.new-tally.ensures 2023));
  few = omega arith;
}
