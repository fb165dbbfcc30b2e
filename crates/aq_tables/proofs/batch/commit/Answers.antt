use Rattle.std.proofs.Common.{◌≡◌, Bool, List, IsTrue, IfErr, true, refl, sym, subst, arith, rules}
use Rattle.sqlite.specs.State.{State, HasCleanDisk}
use Rattle.sqlite.specs.Held.{Held, state}
use Rattle.sqlite_trees.specs.declared.store.Store.{Ghosts}
use Rattle.aq_rules.specs.Kept.RowChanges.{RowChange}
use Rattle.aq_tables.specs.Batch.{Becomes, Changes, KnowsFirst, Leaves}
use Rattle.std.proofs.lemmas.Result.{err_from_is_err_and}
use Rattle.aq_tables.specs.Why.{IsCaused, OrBegun, RefusesCommit}
use Rattle.aq_tables.proofs.Refused.{batch_refused, ended_refused}
use Rattle.aq_tables.proofs.Steps.{survives_whole}
use Rattle.aq_tables.proofs.batch.commit.Goals as goal

leaves : {S : Type 0} (knows : Bool) (batch : List RowChange) (g : Ghosts S) (first : Held S) (last : State) → KnowsFirst knows (state g first).now.schema → Changes knows batch (state g (record first { in_transaction = true })) last
    → IsTrue (state g first).is_open → Leaves batch (state g first) last.now.trees
leaves knows batch g first last known made was_open = record { was_open = was_open; db = last.now; becomes = made.becomes known; is = refl }

pub returns-clause-done : goal.returns-clause-done
returns-clause-done g c clean =
    let old = state g.S.Store c.args.conn.now in
    let last = state g.S.Store c.make_all.new.tx.conn.now in
    let end = c.commit.new.self.0 in
    let same : end ≡ c.conn-2-1.given.0 = search rules in
    let late : HasCleanDisk (state g.S.Store end) = search rules in
    let made = c.in_ok-make_all.ensures.done (omega (arith, c.commit.ensures.survives.clean)) (rw c.transaction-tx.ensures.begun) in
    let becomes : Becomes c.args.batch.now old.now last.now = (rw c.transaction-tx.ensures.begun at made.becomes) c.first_stands-first.ensures in
    subst (λ h. Becomes c.args.batch.now old.now (state g.S.Store h).committed) same (subst (Becomes c.args.batch.now old.now) (sym (c.in_ok-commit.ensures.ok late).1.committed_is) becomes)

pub returns-clause-numbered : goal.returns-clause-numbered
returns-clause-numbered g c clean =
    let late : HasCleanDisk (state g.S.Store c.commit.new.self.0) = search rules in
    (c.in_ok-make_all.ensures.done (omega (arith, c.commit.ensures.survives.clean)) (rw c.transaction-tx.ensures.begun)).numbered

pub returns-clause-crash : goal.returns-clause-crash
returns-clause-crash g c =
    let begun = c.transaction-tx.ensures.begun in
    let last = state g.S.Store c.make_all.new.tx.conn.now in
    survives_whole g.S.Store (Leaves c.args.batch.now (state g.S.Store c.args.conn.now)) c.args.conn.now c.commit.new.self.0 c.conn-2-1.given.0 last (search rules) (rw begun at c.make_all.ensures.survives)
    (λ clean. leaves c.first_stands-first.result c.args.batch.now g.S.Store c.args.conn.now last c.first_stands-first.ensures (rw begun at (c.in_ok-make_all.ensures.done clean (rw begun))) (rw begun at (c.in_ok-make_all.ensures.opened clean (rw begun)))) c.commit.ensures.survives

pub returns-in_err-commit-clause-crash : goal.returns-in_err-commit-clause-crash
returns-in_err-commit-clause-crash g c =
    let begun = c.transaction-tx.ensures.begun in
    let last = state g.S.Store c.make_all.new.tx.conn.now in
    survives_whole g.S.Store (Leaves c.args.batch.now (state g.S.Store c.args.conn.now)) c.args.conn.now c.commit.new.self.0 c.conn-2-1.given.0 last (search rules) (rw begun at c.make_all.ensures.survives)
    (λ clean. leaves c.first_stands-first.result c.args.batch.now g.S.Store c.args.conn.now last c.first_stands-first.ensures (rw begun at (c.in_ok-make_all.ensures.done clean (rw begun))) (rw begun at (c.in_ok-make_all.ensures.opened clean (rw begun)))) c.commit.ensures.survives

pub returns-clause-left : goal.returns-clause-left
returns-clause-left g c clean trees h =
    let end = c.commit.new.self.0 in
    let same : end ≡ c.conn-2-1.given.0 = search rules in
    let late : HasCleanDisk (state g.S.Store end) = search rules in
    let there = subst (λ k. (state g.S.Store k).may_leave trees) (sym same) h in
    subst (λ k. trees ≡ (state g.S.Store k).committed.trees) same (g.met.S.Store.settled end.store trees (c.in_ok-commit.ensures.ok late).1.is_open there)

pub returns-in_err-make_all-clause-why : goal.returns-in_err-make_all-clause-why
returns-in_err-make_all-clause-why g c clean =
    let begun = c.transaction-tx.ensures.begun in
    let old = state g.S.Store c.args.conn.now in
    let last = state g.S.Store c.make_all.new.tx.conn.now in
    let end = c.drop-tx.new.self.0 in
    let same : end ≡ c.conn-1.given.0 = search rules in
    let late : HasCleanDisk (state g.S.Store end) = search rules in
    let before : HasCleanDisk last = omega (arith, c.drop-tx.ensures.survives.clean) in
    let p = err_from_is_err_and c.from_residual.result c.from_residual.ensures.1 in
    subst (λ h. IfErr c.from_residual.result (IsCaused (OrBegun old (RefusesCommit g.S.Store c.args.batch.now c.args.conn.now)) old (state g.S.Store h))) same
    (rw (p.1, p.2) (batch_refused g.S.Store c.first_stands-first.result c.args.batch.now c.args.conn.now last (state g.S.Store end) c.in_err-make_all.field-0.0 c.first_stands-first.ensures c.drop-tx.ensures.survives.counts (rw begun at (c.in_err-make_all.ensures.why before (rw begun)))))

pub returns-in_err-commit-clause-why : goal.returns-in_err-commit-clause-why
returns-in_err-commit-clause-why g c clean =
    let begun = c.transaction-tx.ensures.begun in
    let old = state g.S.Store c.args.conn.now in
    let last = state g.S.Store c.make_all.new.tx.conn.now in
    let end = c.commit.new.self.0 in
    let same : end ≡ c.conn-2-1.given.0 = search rules in
    let late : HasCleanDisk (state g.S.Store end) = search rules in
    let before : HasCleanDisk last = omega (arith, c.commit.ensures.survives.clean) in
    let made = c.in_ok-make_all.ensures.done before (rw begun) in
    let p = err_from_is_err_and c.from_residual-in_err-commit.result c.from_residual-in_err-commit.ensures.1 in
    subst (λ h. IfErr c.from_residual-in_err-commit.result (IsCaused (OrBegun old (RefusesCommit g.S.Store c.args.batch.now c.args.conn.now)) old (state g.S.Store h))) same
    (rw (p.1, p.2) (ended_refused g.S.Store c.first_stands-first.result c.args.conn.now last (state g.S.Store end) (OrBegun old (RefusesCommit g.S.Store c.args.batch.now c.args.conn.now)) c.in_err-commit.field-0.0 (rw begun at c.make_all.ensures.survives) before c.commit.ensures.survives.counts made.mode (c.in_err-commit.ensures.err late)))
