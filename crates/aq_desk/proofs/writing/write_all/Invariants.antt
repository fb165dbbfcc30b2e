use Rattle.std.proofs.Common.{◌≡◌, ◌++◌, ◌-◌, ◌≤◌, length, take}
use Rattle.std.specs.Option.{option_map}
use Rattle.aq_desk.proofs.writing.write_all.Given as goal

abbrev pub invariant-loop-count : goal.invariant-loop-count
invariant-loop-count g l = record {
  within : l.count ≤ length l.text;
  written : (g.O.Sink.seen l.sink).written ≡ option_map (λ bytes. bytes ++ take l.count l.text) (g.O.Sink.seen l.fn.sink).written;
  steady : (g.O.Sink.seen l.sink).faults ≡ (g.O.Sink.seen l.fn.sink).faults;
}

abbrev pub decreases-loop-count : goal.decreases-loop-count
decreases-loop-count g l = length l.text - l.count
