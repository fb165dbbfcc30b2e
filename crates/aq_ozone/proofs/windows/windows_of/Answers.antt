use Rattle.std.proofs.Common.{◌≡◌, ◌∙◌, sym, subst, arith}
use Rattle.aq_ozone.specs.DayHours.{AreNetOzone}
use Rattle.aq_ozone.proofs.DayLemmas.{rows_are}
use Rattle.aq_ozone.proofs.RangeLemmas.{rows_range}
use Rattle.aq_ozone.proofs.windows.windows_of.Goals as goal

pub returns-clause-windows : goal.returns-clause-windows
returns-clause-windows c cell_at day is =
    let all : c.loop-i.i ≡ 17 = omega (arith, c.loop-i-test.false, c.loop-i.auto.i-end) in
    c.new.ensures ∙ rows_are cell_at day c.loop-i.i c.args.cells.now c.loop-i.rows all is (omega (arith, c.loop-i.invariant.many, all)) c.loop-i.invariant.rows

pub returns-clause-range : goal.returns-clause-range
returns-clause-range c =
    let all : c.loop-i.i ≡ 17 = omega (arith, c.loop-i-test.false, c.loop-i.auto.i-end) in
    subst AreNetOzone (sym c.new.ensures)
    (rows_range c.args.cells.now c.loop-i.rows c.loop-i.i c.requires (omega (arith, c.loop-i.invariant.many, all)) c.loop-i.invariant.rows)
