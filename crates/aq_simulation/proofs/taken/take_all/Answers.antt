use Rattle.std.proofs.Common.{◌≤◌, ap, arith}
use Rattle.aq_keeper.specs.Memories.{SteadyState}
use Rattle.aq_rules.specs.Shown.Generator.{load_count}
use Rattle.aq_simulation.proofs.Steps.{takes_first, takes_next}
use Rattle.aq_simulation.proofs.taken.take_all.Goals as goal

pub loop-load-init : goal.loop-load-init
loop-load-init c = record {
  takes = takes_first c.args.start c.args.sites c.args.years _ c.an_office_of_nothing_is_valid.ensures c.new.ensures c.requires.few_sites c.requires.few_years;
  held = ap (λ (s : SteadyState). s.is_held) c.new-keeper.ensures;
}

pub loop-load-preserved : goal.loop-load-preserved
loop-load-preserved c =
    let is_there : c.loop-load.load ≤ load_count c.args.sites c.args.years = omega (arith, c.loop-load-test.true, c.load_count-count.ensures) in
    record {
      takes = takes_next c.args.start c.args.sites c.args.years c.loop-load.load c.loop-load.taken.lines _ c.loop-load.taken.book _ is_there c.loop-load.invariant.takes
          c.in_ok-take_load.ensures.valid c.in_ok-take_load.ensures.book c.in_ok-take_load.ensures.lines c.in_ok-take_load.ensures.few_lines;
      held = c.in_ok-take_load.ensures.held;
    }
