use Rattle.std.proofs.Common.{◌≡◌, [], false, rules}
use Rattle.sqlite.specs.Held.{state}
use Rattle.aq_tables.proofs.Dropping.{loses_second}
use Rattle.aq_tables.proofs.Prepared.{if_ok}
use Rattle.aq_tables.proofs.Causes.{answer_as}
use Rattle.aq_tables.specs.Why.{Refuses}
use Rattle.aq_tables.specs.Texts.{drop_second_text}
use Rattle.aq_tables.proofs.preparing.drop_second.Goals as goal

pub returns-clause-done : goal.returns-clause-done
returns-clause-done g c clean begun =
    let stands : c.args.is_missing ≡ false = search rules in
    if_ok c.run.result (λ a. record {
      mode = rw a.1.1.mode;
      was_open = λ _. a.1.1.was_open;
      committed = a.1.1.committed_is;
      changes = rw stands (loses_second (state g.S.Store c.args.tx.now.conn.now) (state g.S.Store c.run.new.tx.conn.now) a.0 a.1.0);
    }) (c.run.ensures.done clean begun)

pub returns-clause-why : goal.returns-clause-why
returns-clause-why g c clean begun =
    let stands : c.args.is_missing ≡ false = search rules in
    answer_as (Refuses drop_second_text [] (state g.S.Store c.args.tx.now.conn.now)) (λ e. (c.args.is_missing ≡ false) × Refuses drop_second_text [] (state g.S.Store c.args.tx.now.conn.now) e) (state g.S.Store c.args.tx.now.conn.now) (state g.S.Store c.run.new.tx.conn.now) c.run.result (λ e why. (stands, why)) (c.run.ensures.why clean begun)
