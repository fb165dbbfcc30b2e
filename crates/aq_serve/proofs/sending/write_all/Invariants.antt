use Rattle.std.proofs.Common.{◌≡◌, ◌-◌, ◌≤◌, [], length, take}
use Rattle.aq_outside.specs.Door.{Exchange, IsSameDoor}
use Rattle.aq_serve.proofs.sending.write_all.Given as goal

abbrev pub invariant-loop-count : goal.invariant-loop-count
invariant-loop-count g l = record {
  within : l.count ≤ length l.text;
  wire : Exchange [] (take l.count l.text) (g.D.Door.seen l.fn.door).wire (g.D.Door.seen l.door).wire;
  door : IsSameDoor (g.D.Door.seen l.fn.door) (g.D.Door.seen l.door);
  reads : (g.D.Door.seen l.door).reads ≡ (g.D.Door.seen l.fn.door).reads;
  writes : (g.D.Door.seen l.door).writes ≡ (g.D.Door.seen l.fn.door).writes;
}

abbrev pub decreases-loop-count : goal.decreases-loop-count
decreases-loop-count g l = length l.text - l.count
