use Rattle.aq_listed.specs.FlagWords.{is_covered}
use Rattle.aq_listed.proofs.FlagRows.{few-those, those-are}
use Rattle.aq_listed.proofs.flag_marks.covered_marks.Goals as goal

pub sorted-requires : goal.sorted-requires
sorted-requires c = few-those (is_covered c.args.standing.now) c.args.marks.now c.as_slice.result.now c.in_ok-covered.covered.items c.as_slice.ensures.marks c.in_ok-covered.ensures c.as_slice.ensures.few

pub returns : goal.returns
returns c = those-are (is_covered c.args.standing.now) c.args.marks.now c.as_slice.result.now c.in_ok-covered.covered.items c.sorted.result c.as_slice.ensures.marks c.in_ok-covered.ensures c.sorted.ensures
