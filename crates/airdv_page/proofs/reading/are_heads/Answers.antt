use Rattle.std.proofs.Common.{sym, ◌∙◌}
use Rattle.airdv_page.proofs.Names.{no_line_left}
use Rattle.airdv_page.proofs.reading.are_heads.Goals as goal

pub returns-in_default-clause-heads : goal.returns-in_default-clause-heads
returns-in_default-clause-heads c =
    sym (no_line_left _ c.loop-name.name-index c.args.names.now c.loop-name.rest.now c.loop-name-test.true c.in_default.len_below)
    ∙ c.loop-name.invariant.same
