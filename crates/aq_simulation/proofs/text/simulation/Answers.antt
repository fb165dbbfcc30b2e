use Rattle.std.proofs.Common.{arith}
use Rattle.aq_simulation.proofs.Steps.{simulation_is}
use Rattle.aq_simulation.proofs.text.simulation.Goals as goal

pub returns : goal.returns
returns c =
    simulation_is c.args.start c.args.sites c.args.years _ c.load_count.result _ _ c.in_ok-text.text.items _
    c.load_count.ensures c.in_ok-taken.ensures.office c.in_ok-taken.ensures.lines (omega arith) c.in_ok-text.ensures c.in_ok-add_reports.ensures
