use Rattle.std.proofs.Common.{◌≡◌, ◌++◌, ◌∷◌, []}
use Rattle.std.proofs.lemmas.Result.{err_from_is_err_and}
use Rattle.aq_journal.specs.JournalFormat.{changes_at}
use Rattle.aq_journal.proofs.Loop.{goes_on, stops, is_done}
use Rattle.aq_journal.proofs.reading.Cursor.changes.Goals as goal

pub returns-in_err-change : goal.returns-in_err-change
returns-in_err-change c =
    let p = err_from_is_err_and c.from_residual.result c.from_residual.ensures.1 in
    rw (p.1, p.2) (stops c.in_err-change.field-0.0 c.loop.changes.items c.args.count c.loop.counter c.loop.self.rest.now (changes_at c.args.count c.args.self.now.rest.now) c.loop-test.true c.in_err-change.ensures c.loop.invariant)

pub loop-preserved : goal.loop-preserved
loop-preserved c =
    let more : c.add.new.changes.items ≡ c.loop.changes.items ++ c.in_ok-change.change ∷ [] = c.in_ok-add.ensures in
    rw more (goes_on c.loop.changes.items c.args.count c.loop.counter c.loop.self.rest.now c.in_ok-change.change c.change.new.self.rest.now (changes_at c.args.count c.args.self.now.rest.now) c.loop-test.true c.in_ok-change.ensures c.loop.invariant)

pub returns : goal.returns
returns c = is_done c.loop.changes.items c.args.count c.loop.counter c.loop.self.rest.now (changes_at c.args.count c.args.self.now.rest.now) c.loop-test.false c.loop.invariant
