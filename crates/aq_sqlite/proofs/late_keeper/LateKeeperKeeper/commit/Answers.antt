use Rattle.std.proofs.Common.{◌∙◌, sym}
use Rattle.aq_sqlite.proofs.LateLemmas.{none_if, opened_if, late_done}
use Rattle.aq_sqlite.proofs.late_keeper.LateKeeperKeeper.commit.Goals.{in-Some, in-None}
use Rattle.aq_sqlite.proofs.late_keeper.LateKeeperKeeper.commit.Goals as goal

pub returns-clause-done : goal.returns-clause-done
returns-clause-done g c =
    let none = none_if c.args.self.now.left (sym c.is_some.ensures ∙ c.if-is_some.false) in
    let e = opened_if c.open.result _ c.open.ensures.opened c.in_default.not-Err in
    elim c.match-self.branch [
      | in-Some w ↦ rw (c.counted-2.ensures.same, w.made-is, w.self-is, none, e) (late_done _ _ _ _ w.commit-made.result (rw (e, w.in-Some.is) at c.open.ensures.tells) w.commit-made.ensures.done)
      | in-None w ↦ rw (c.counted-2.ensures.same, w.made-is) tt
    ]
