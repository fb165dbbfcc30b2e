use Rattle.aq_listed.specs.FlagWords.{is_left_out}
use Rattle.aq_listed.proofs.FlagRows.{few-those, those-are}
use Rattle.aq_listed.proofs.flag_marks.excluded_marks.Goals as goal

pub sorted-requires : goal.sorted-requires
sorted-requires c = few-those (is_left_out c.args.registry.now c.args.site) c.args.marks.now c.as_slice.result.now c.in_ok-excluded.excluded.items c.as_slice.ensures.marks c.in_ok-excluded.ensures c.as_slice.ensures.few

pub returns : goal.returns
returns c = those-are (is_left_out c.args.registry.now c.args.site) c.args.marks.now c.as_slice.result.now c.in_ok-excluded.excluded.items c.sorted.result c.as_slice.ensures.marks c.in_ok-excluded.ensures c.sorted.ensures
