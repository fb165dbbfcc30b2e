use Rattle.std.proofs.Common.{◌≡◌, length, arith}
use Rattle.aq_rules.specs.Kept.Summaries.{KeepsPm10Quarter}
use Rattle.aq_verdict.proofs.Lists.{all-four}
use Rattle.aq_verdict.proofs.pm10_year.Pm10Year.new.Goals as goal

pub invariant_of-result : goal.invariant_of-result
invariant_of-result c =
    let four : length c.args.quarters ≡ 4 = omega arith in
    record {
      four = four;
      each = all-four KeepsPm10Quarter c.args.quarters _ _ _ _ four c.days.ensures.facts c.days-2.ensures.facts c.days-3.ensures.facts c.days-4.ensures.facts;
    }
