use Rattle.std.proofs.Common.{◌≡◌, ◌+◌, drop}
use Rattle.std.specs.Prelude.{find, option_map}
use Rattle.std.specs.List.{enumerate_from}
use Rattle.aq_rules.specs.Listed.Highest.{is_net, maximum_at}
use Rattle.aq_reports.specs.Daily.Maxima.{first_among}
use Rattle.aq_reports.proofs.daily.maximum.first_at.Given as goal

abbrev pub invariant-loop-row : goal.invariant-loop-row
invariant-loop-row l = record {
  hour_is : l.hour ≡ 7 + l.row-index;
  left : option_map maximum_at (find (is_net l.value) (enumerate_from l.hour (drop l.row-index l.windows))) ≡ first_among l.value l.windows;
}
