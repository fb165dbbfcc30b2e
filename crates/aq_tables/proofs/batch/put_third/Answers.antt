use Rattle.sqlite.specs.Held.{state}
use Rattle.std.proofs.Common.{inl, inr, ◌∙◌, is_some, not, sym, ap}
use Rattle.aq_tables.proofs.RowTurns.{put_alone}
use Rattle.std.proofs.lemmas.Bool.{false≢true}
use Rattle.aq_tables.proofs.Refused.{put_alone_refused}
use Rattle.aq_tables.proofs.batch.put_third.Goals as goal

pub returns-clause-done : goal.returns-clause-done
returns-clause-done g c clean begun =
    let number = c.number_in-number.ensures in
    let some = sym (ap is_some number) ∙ c.is_none.ensures ∙ ap not c.if-is_none.false in
    put_alone c.args.row.now c.run.result _ _ some (rw (c.row_values.ensures number) at (c.run.ensures.done clean begun))

pub returns-then-is_none-clause-why : goal.returns-then-is_none-clause-why
returns-then-is_none-clause-why g c clean begun =
    let none = sym (ap is_some c.number_in-number.ensures) ∙ c.is_none.ensures ∙ ap not c.if-is_none.true in
    inr (inr (inr (inl (λ numbered. false≢true (sym none ∙ numbered)))))

pub returns-clause-why : goal.returns-clause-why
returns-clause-why g c clean begun = put_alone_refused c.args.row.now (state g.S.Store c.args.tx.now.conn.now) (state g.S.Store c.run.new.tx.conn.now) c.run.result (rw (c.row_values.ensures c.number_in-number.ensures) at (c.run.ensures.why clean begun))
