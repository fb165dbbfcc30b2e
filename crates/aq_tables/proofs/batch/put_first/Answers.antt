use Rattle.std.proofs.Common.{◌≡◌, true, false, inl, inr, refl, rules}
use Rattle.sqlite.specs.Held.{state}
use Rattle.aq_rules.specs.Kept.Rows.{OfObsRow}
use Rattle.aq_tables.proofs.RowTurns.{put}
use Rattle.aq_tables.proofs.Refused.{put_refused}
use Rattle.aq_tables.proofs.batch.put_first.Goals as goal

pub returns-clause-done : goal.returns-clause-done
returns-clause-done g c clean begun =
    let first : c.args.first ≡ true = search rules in
    put c.args.first (OfObsRow c.args.row.now) c.run.result _ _ tt (λ _. first) (rw c.row_values.ensures at (c.run.ensures.done clean begun))

pub returns-then-not-first-clause-why : goal.returns-then-not-first-clause-why
returns-then-not-first-clause-why g c clean begun =
    let first : c.args.first ≡ false = search rules in
    inr (inr (inr (inr (inl (refl, first)))))

pub returns-clause-why : goal.returns-clause-why
returns-clause-why g c clean begun = put_refused c.args.first (OfObsRow c.args.row.now) (state g.S.Store c.args.tx.now.conn.now) (state g.S.Store c.run.new.tx.conn.now) c.run.result (rw c.row_values.ensures at (c.run.ensures.why clean begun))
