use Rattle.std.proofs.Common.{◌≡◌, filter}
use Rattle.std.specs.Prelude.{flat_map}
use Rattle.std.specs.List.{range_with_len}
use Rattle.aq_listed.specs.FlagWords.{flags_by, is_carried}
use Rattle.aq_listed.proofs.flag_list.listed_flags.Given as goal

abbrev pub invariant-loop-place : goal.invariant-loop-place
invariant-loop-place g l = l.rows ≡ filter is_carried (flat_map (flags_by l.marks l.pollutant) (range_with_len l.first l.place))
