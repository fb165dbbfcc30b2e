use Rattle.std.proofs.Common.{◌∙◌, sym}
use Rattle.aq_sqlite.proofs.LateLemmas.{none_if, opened_if}
use Rattle.aq_sqlite.proofs.late_keeper.LateKeeperKeeper.read_all.Goals.{in-Some, in-None}
use Rattle.aq_sqlite.proofs.late_keeper.LateKeeperKeeper.read_all.Goals as goal

pub returns-clause-rows : goal.returns-clause-rows
returns-clause-rows g c =
    let none = none_if c.args.self.now.left (sym c.is_some.ensures ∙ c.if-is_some.false) in
    let e = opened_if c.open.result _ c.open.ensures.opened c.in_default.not-Err in
    elim c.match-self.branch [
      | in-Some w ↦ rw (c.counted-2.ensures.same, w.rows-is, w.self-is, none, e) w.read_all-rows.ensures.rows
      | in-None w ↦ rw (c.counted-2.ensures.same, w.rows-is) tt
    ]
