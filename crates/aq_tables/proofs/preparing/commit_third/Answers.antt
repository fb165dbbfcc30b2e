use Rattle.std.proofs.Common.{◌≡◌, true, false, OnErr, IfErr, refl, sym, subst, arith, rules}
use Rattle.sqlite.specs.Effect.{Database}
use Rattle.sqlite.specs.State.{HasCleanDisk, KeepsCommit}
use Rattle.sqlite.specs.Held.{state}
use Rattle.aq_tables.specs.Made.{IsMade}
use Rattle.aq_tables.proofs.Prepared.{if_ok}
use Rattle.aq_tables.proofs.Steps.{failed_keeps, survives_whole}
use Rattle.aq_tables.proofs.Whole.{both_or_none, here_already}
use Rattle.std.proofs.lemmas.Result.{err_from_is_err_and}
use Rattle.aq_tables.proofs.MakingRefused.{making_refused}
use Rattle.aq_tables.proofs.Refused.{ended_answer}
use Rattle.aq_tables.specs.Why.{IsCaused}
use Rattle.aq_tables.specs.WhyMade.{RefusesMaking}
use Rattle.aq_tables.proofs.preparing.commit_third.Goals as goal

-- nothing to do
pub returns-then-not-missing-clause-made : goal.returns-then-not-missing-clause-made
returns-then-not-missing-clause-made g c clean is_open =
    let third : c.args.missing.now.third ≡ false = search rules in
    here_already c.args.missing.now (state g.S.Store c.args.conn.now).now third c.requires.whole c.requires.missing (c.requires.there is_open)

pub returns-clause-made : goal.returns-clause-made
returns-clause-made g c clean =
    let begun = c.transaction-tx.ensures.begun in
    let old = state g.S.Store c.args.conn.now in
    let last = state g.S.Store c.make_third.new.tx.conn.now in
    let end = c.commit.new.self.0 in
    let same : end ≡ c.conn-2-1.given.0 = search rules in
    let late : HasCleanDisk (state g.S.Store end) = search rules in
    let before : HasCleanDisk last = omega (arith, c.commit.ensures.survives.clean) in
    let made = c.in_ok-make_third.ensures.done before (rw begun) in
    let third : c.args.missing.now.third ≡ true = search rules in
    let both = both_or_none c.args.missing.now old.now.schema c.requires.missing c.requires.whole third in
    let was = rw begun at made.was_open in
    let is : IsMade old.now last.now = (rw begun at made.changes) third both (c.requires.there was) (c.requires.rows was) in
    if_ok c.commit.result (λ ended h. subst (λ k. IsMade old.now (state g.S.Store k).now) same (subst (IsMade old.now) (sym ended.1.now_is) is)) (c.commit.ensures.ok late)

pub returns-clause-was_open : goal.returns-clause-was_open
returns-clause-was_open g c clean =
    let last = state g.S.Store c.make_third.new.tx.conn.now in
    let late : HasCleanDisk (state g.S.Store c.commit.new.self.0) = search rules in
    let before : HasCleanDisk last = omega (arith, c.commit.ensures.survives.clean) in
    let made = c.in_ok-make_third.ensures.done before (rw c.transaction-tx.ensures.begun) in
    if_ok c.commit.result (λ ended h. rw c.transaction-tx.ensures.begun at made.was_open) (c.commit.ensures.ok late)

pub returns-clause-crash : goal.returns-clause-crash
returns-clause-crash g c =
    let begun = c.transaction-tx.ensures.begun in
    let old = state g.S.Store c.args.conn.now in
    let last = state g.S.Store c.make_third.new.tx.conn.now in
    let third : c.args.missing.now.third ≡ true = search rules in
    let both = both_or_none c.args.missing.now old.now.schema c.requires.missing c.requires.whole third in
    survives_whole g.S.Store (λ trees. (db : Database) × IsMade old.now db × (trees ≡ db.trees)) c.args.conn.now c.commit.new.self.0 c.conn-2-1.given.0 last (search rules) (rw begun at c.make_third.ensures.survives)
    (λ clean.
    let made = c.in_ok-make_third.ensures.done clean (rw begun) in
    let was = rw begun at made.was_open in
    (last.now, (rw begun at made.changes) third both (c.requires.there was) (c.requires.rows was), refl)) c.commit.ensures.survives

pub returns-clause-kept : goal.returns-clause-kept
returns-clause-kept g c clean =
    let begun = c.transaction-tx.ensures.begun in
    let old = state g.S.Store c.args.conn.now in
    let last = state g.S.Store c.make_third.new.tx.conn.now in
    let end = c.commit.new.self.0 in
    let same : end ≡ c.conn-2-1.given.0 = search rules in
    let late : HasCleanDisk (state g.S.Store end) = search rules in
    let before : HasCleanDisk last = omega (arith, c.commit.ensures.survives.clean) in
    let made = rw begun at (c.make_third.ensures.kept before (rw begun)) in
    let inside : KeepsCommit old last = record { was_open = λ h. made.was_open h; committed = λ h. made.committed h } in
    subst (λ h. OnErr c.commit.result (KeepsCommit old (state g.S.Store h))) same (failed_keeps old last (state g.S.Store end) c.commit.result inside (c.commit.ensures.err late))

pub returns-in_err-make_third-clause-why : goal.returns-in_err-make_third-clause-why
returns-in_err-make_third-clause-why g c clean =
    let begun = c.transaction-tx.ensures.begun in
    let old = state g.S.Store c.args.conn.now in
    let last = state g.S.Store c.make_third.new.tx.conn.now in
    let end = c.drop-tx.new.self.0 in
    let same : end ≡ c.conn-1.given.0 = search rules in
    let late : HasCleanDisk (state g.S.Store end) = search rules in
    let before : HasCleanDisk last = omega (arith, c.drop-tx.ensures.survives.clean) in
    let third : c.args.missing.now.third ≡ true = search rules in
    let p = err_from_is_err_and c.from_residual.result c.from_residual.ensures.1 in
    subst (λ h. IfErr c.from_residual.result (IsCaused (λ e. (c.args.missing.now.third ≡ true) × RefusesMaking g.S.Store c.args.missing.now c.args.rows.now (record c.args.conn.now { in_transaction = true }) e) old (state g.S.Store h))) same
    (rw (p.1, p.2) (making_refused g.S.Store c.args.missing.now c.args.rows.now c.args.conn.now last (state g.S.Store end) c.in_err-make_third.field-0.0 third c.drop-tx.ensures.survives.counts (rw begun at (c.in_err-make_third.ensures.why before (rw begun)))))

pub returns-clause-why : goal.returns-clause-why
returns-clause-why g c clean =
    let begun = c.transaction-tx.ensures.begun in
    let old = state g.S.Store c.args.conn.now in
    let last = state g.S.Store c.make_third.new.tx.conn.now in
    let end = c.commit.new.self.0 in
    let same : end ≡ c.conn-2-1.given.0 = search rules in
    let late : HasCleanDisk (state g.S.Store end) = search rules in
    let before : HasCleanDisk last = omega (arith, c.commit.ensures.survives.clean) in
    let made = c.in_ok-make_third.ensures.done before (rw begun) in
    subst (λ h. IfErr c.commit.result (IsCaused (λ e. (c.args.missing.now.third ≡ true) × RefusesMaking g.S.Store c.args.missing.now c.args.rows.now (record c.args.conn.now { in_transaction = true }) e) old (state g.S.Store h))) same
    (ended_answer g.S.Store true c.args.conn.now last (state g.S.Store end) (λ e. (c.args.missing.now.third ≡ true) × RefusesMaking g.S.Store c.args.missing.now c.args.rows.now (record c.args.conn.now { in_transaction = true }) e) c.commit.result (rw begun at c.make_third.ensures.survives) before c.commit.ensures.survives.counts made.mode (c.commit.ensures.err late))
