use Rattle.std.proofs.Common.{◌≡◌, ◌+◌, ◌-◌, true}
use Rattle.aq_rules.specs.Shown.Generator.{load_count}
use Rattle.aq_simulation.proofs.Steps.{TakesOn}
use Rattle.aq_simulation.proofs.taken.take_all.Given as goal

abbrev pub invariant-loop-load : goal.invariant-loop-load
invariant-loop-load l = record {
  takes : TakesOn l.start l.sites l.years l.load l.taken.lines l.taken.book;
  held : l.keeper.is_held ≡ true;
}

abbrev pub decreases-loop-load : goal.decreases-loop-load
decreases-loop-load l = load_count l.sites l.years + 1 - l.load
