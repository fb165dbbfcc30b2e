use Rattle.std.proofs.Common.{sym, ◌∙◌}
use Rattle.aq_pages.proofs.Names.{no_head_left}
use Rattle.aq_pages.proofs.kind.are_named.Goals as goal

pub returns-in_default : goal.returns-in_default
returns-in_default c =
    sym (no_head_left _ c.loop-name.name-index c.args.names.now c.loop-name.rest.now c.loop-name-test.true c.in_default.len_below)
    ∙ c.loop-name.invariant
