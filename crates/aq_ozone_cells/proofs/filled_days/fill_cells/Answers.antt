use Rattle.std.proofs.Common.{None, arith, ap, ◌∙◌, ◌%◌, get_or}
use Rattle.std.specs.Prelude.{option_map}
use Rattle.aq_ozone_cells.specs.KeptDays.{cell_of}
use Rattle.aq_ozone_cells.proofs.FilledLemmas.{average-kept, kept-back}
use Rattle.aq_ozone_cells.proofs.filled_days.fill_cells.Goals as goal

pub returns-clause-hours : goal.returns-clause-hours
returns-clause-hours c number =
    ap (option_map cell_of) (c.kept_hours-cells.ensures (number % 24) (omega arith)) ∙ kept-back (get_or c.args.hours.now (number % 24) None)

pub returns-clause-averages : goal.returns-clause-averages
returns-clause-averages c = average-kept c.args.hours.now c.kept_averages-cells.result c.kept_averages-cells.ensures
