use Rattle.std.proofs.Common.{◌≡◌, take, pos}
use Rattle.aq_num.specs.Fractions.{sum_of_fractions}
use Rattle.aq_num.proofs.ratios.sum_of_ratios.Given as goal

abbrev pub invariant-loop-total : goal.invariant-loop-total
invariant-loop-total l = record {
  num : l.sum.num ≡ (sum_of_fractions (take l.total-index l.parts)).0;
  den : l.sum.den ≡ pos (sum_of_fractions (take l.total-index l.parts)).1;
}
