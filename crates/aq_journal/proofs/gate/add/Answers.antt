use Rattle.std.proofs.Common.{◌≡◌, ◌+◌, ◌^◌, ◌<◌, ◌∙◌, true, length, sym, arith}
use Rattle.std.specs.Prelude.{is_some}
use Rattle.aq_journal.specs.declared.gate.Gate.TheVariants.{Shut, Doubtful}
use Rattle.aq_journal.proofs.Enduring.{held_if, stage_failed_at, half_added_at, added_at, on_err}
use Rattle.aq_journal.proofs.gate.add.Goals as goal

pub returns-in_err-put-clause-held : goal.returns-in_err-put-clause-held
returns-in_err-put-clause-held g c batch is = held_if g.D.Disk c.put.new.disk c.args.gate.now c.requires.held.room (λ still. (stage_failed_at g.D.Disk g.met.D.Disk.reads_image g.met.D.Disk.only_now c.args.disk.now c.put.new.disk c.args.gate.now c.args.end batch c.args.behind.now c.requires.gate c.requires.held (c.put.ensures.images still)).held)

pub returns-in_err-put-clause-kept : goal.returns-in_err-put-clause-kept
returns-in_err-put-clause-kept g c batch is = on_err c.from_residual.result (λ still. (stage_failed_at g.D.Disk g.met.D.Disk.reads_image g.met.D.Disk.only_now c.args.disk.now c.put.new.disk c.args.gate.now c.args.end batch c.args.behind.now c.requires.gate c.requires.held (c.put.ensures.images still)).told_is)

pub returns-in_err-put-clause-crash : goal.returns-in_err-put-clause-crash
returns-in_err-put-clause-crash g c batch is = λ still. (stage_failed_at g.D.Disk g.met.D.Disk.reads_image g.met.D.Disk.only_now c.args.disk.now c.put.new.disk c.args.gate.now c.args.end batch c.args.behind.now c.requires.gate c.requires.held (c.put.ensures.images still)).endures

pub returns-in_err-put-2-clause-held : goal.returns-in_err-put-2-clause-held
returns-in_err-put-2-clause-held g c batch is =
    let room : c.args.end + 1 < 2 ^ 63 = omega (arith, c.requires.room) in
    held_if g.D.Disk c.put-2.new.disk (Doubtful c.args.end) room (λ still. let second = c.put-2.ensures.images still in let before : is_some (g.D.Disk.seen c.put.new.disk) ≡ true = sym second.tells ∙ still in (half_added_at g.D.Disk g.met.D.Disk.reads_image g.met.D.Disk.only_now c.args.disk.now c.put.new.disk c.put-2.new.disk c.args.gate.now c.args.end batch c.args.behind.now c.requires.gate c.requires.held is (c.put.ensures.images before) (c.in_ok-put.ensures.done before) second).held)

pub returns-in_err-put-2-clause-kept : goal.returns-in_err-put-2-clause-kept
returns-in_err-put-2-clause-kept g c batch is = on_err c.from_residual-in_err-put-2.result (λ still. let second = c.put-2.ensures.images still in let before : is_some (g.D.Disk.seen c.put.new.disk) ≡ true = sym second.tells ∙ still in (half_added_at g.D.Disk g.met.D.Disk.reads_image g.met.D.Disk.only_now c.args.disk.now c.put.new.disk c.put-2.new.disk c.args.gate.now c.args.end batch c.args.behind.now c.requires.gate c.requires.held is (c.put.ensures.images before) (c.in_ok-put.ensures.done before) second).told_is)

pub returns-in_err-put-2-clause-crash : goal.returns-in_err-put-2-clause-crash
returns-in_err-put-2-clause-crash g c batch is = λ still. let second = c.put-2.ensures.images still in let before : is_some (g.D.Disk.seen c.put.new.disk) ≡ true = sym second.tells ∙ still in (half_added_at g.D.Disk g.met.D.Disk.reads_image g.met.D.Disk.only_now c.args.disk.now c.put.new.disk c.put-2.new.disk c.args.gate.now c.args.end batch c.args.behind.now c.requires.gate c.requires.held is (c.put.ensures.images before) (c.in_ok-put.ensures.done before) second).endures

pub returns-clause-held : goal.returns-clause-held
returns-clause-held g c batch is =
    let room : c.args.end + length c.args.behind.now + 1 < 2 ^ 63 = omega (arith, c.requires.room) in
    held_if g.D.Disk c.put-2.new.disk (Shut (c.args.end + length c.args.behind.now)) room (λ still. let second = c.put-2.ensures.images still in let before : is_some (g.D.Disk.seen c.put.new.disk) ≡ true = sym second.tells ∙ still in (added_at g.D.Disk g.met.D.Disk.reads_image g.met.D.Disk.only_now c.args.disk.now c.put.new.disk c.put-2.new.disk c.args.gate.now c.args.end batch c.args.behind.now c.requires.gate c.requires.held is room (c.put.ensures.images before) (c.in_ok-put.ensures.done before) second (c.in_ok-put-2.ensures.done still)).held)

pub returns-clause-done : goal.returns-clause-done
returns-clause-done g c batch is =
    let room : c.args.end + length c.args.behind.now + 1 < 2 ^ 63 = omega (arith, c.requires.room) in
    λ still. let second = c.put-2.ensures.images still in let before : is_some (g.D.Disk.seen c.put.new.disk) ≡ true = sym second.tells ∙ still in (added_at g.D.Disk g.met.D.Disk.reads_image g.met.D.Disk.only_now c.args.disk.now c.put.new.disk c.put-2.new.disk c.args.gate.now c.args.end batch c.args.behind.now c.requires.gate c.requires.held is room (c.put.ensures.images before) (c.in_ok-put.ensures.done before) second (c.in_ok-put-2.ensures.done still)).told_is

pub returns-clause-crash : goal.returns-clause-crash
returns-clause-crash g c batch is =
    let room : c.args.end + length c.args.behind.now + 1 < 2 ^ 63 = omega (arith, c.requires.room) in
    λ still. let second = c.put-2.ensures.images still in let before : is_some (g.D.Disk.seen c.put.new.disk) ≡ true = sym second.tells ∙ still in (added_at g.D.Disk g.met.D.Disk.reads_image g.met.D.Disk.only_now c.args.disk.now c.put.new.disk c.put-2.new.disk c.args.gate.now c.args.end batch c.args.behind.now c.requires.gate c.requires.held is room (c.put.ensures.images before) (c.in_ok-put.ensures.done before) second (c.in_ok-put-2.ensures.done still)).endures
