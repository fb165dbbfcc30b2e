use Rattle.std.proofs.Common.{◌++◌, sym, pos}
use Rattle.aq_verdict.proofs.Rows.{four-of}
use Rattle.aq_verdict.proofs.quarterly.together.Goals as goal

pub returns : goal.returns
returns c =
    let first = four-of c.args.first.now (pos 0, 0) (pos 0, 0) (pos 0, 0) (pos 0, 0) c.told-first in
    let second = four-of c.args.second.now (pos 0, 0) (pos 0, 0) (pos 0, 0) (pos 0, 0) c.told-second in
    let third = four-of c.args.third.now (pos 0, 0) (pos 0, 0) (pos 0, 0) (pos 0, 0) c.told-third in
    sym (λ i. first i ++ (second i ++ third i))
