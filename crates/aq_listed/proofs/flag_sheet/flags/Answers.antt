use Rattle.std.proofs.Common.{◌∙◌, ap}
use Rattle.aq_rules.specs.Listed.Flags as flags
use Rattle.aq_listed.proofs.flag_sheet.flags.Goals as goal

pub returns : goal.returns
unfolding flags.flags_answer
returns g c = c.in_ok-sheet.ensures ∙ ap (flags.flags_sheet c.args.site c.args.pollutant c.args.year) (c.as_slice.ensures ∙ c.in_ok-listed.ensures)
