use Rattle.std.proofs.Common.{◌≡◌, length, ◌∙◌, ap, arith}
use Rattle.aq_verdict.specs.Top.{given, placed}
use Rattle.aq_verdict.specs.Places.{places-given}
use Rattle.aq_verdict.proofs.top_eight.TopEight.of_places.Goals as goal

pub invariant_of-result : goal.invariant_of-result
invariant_of-result c =
    let eight : length c.args.places ≡ 8 = omega arith in
    record {
      falls = c.requires;
      eight = eight;
      rest = places-given c.args.places c.requires ∙ ap (λ n. placed n (given c.args.places)) eight;
    }
