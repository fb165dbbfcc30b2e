use Rattle.std.proofs.Common.{◌∙◌, List, Option}
use Rattle.aq_rules.specs.Kept.Rows.{Row}
use Rattle.aq_journal.specs.Keeping.{told, with_batch}
use Rattle.aq_journal.proofs.Enduring.{endures_also, endures_next, on_err, told_next}
use Rattle.aq_journal.proofs.journal.commit.Goals as goal

pub returns-in_err-end-clause-crash : goal.returns-in_err-end-clause-crash
returns-in_err-end-clause-crash g c =
    endures_also g.D.Disk g.met.D.Disk.reads_image g.met.D.Disk.only_now c.args.disk.now c.end_of.new.disk c.args.gate.now c.end_of.new.gate (with_batch c.args.batch.now) c.end_of.ensures.held c.end_of.ensures.told c.end_of.ensures.crash

pub returns-in_err-behind-clause-crash : goal.returns-in_err-behind-clause-crash
returns-in_err-behind-clause-crash g c =
    endures_also g.D.Disk g.met.D.Disk.reads_image g.met.D.Disk.only_now c.args.disk.now c.end_of.new.disk c.args.gate.now c.end_of.new.gate (with_batch c.args.batch.now) c.end_of.ensures.held c.end_of.ensures.told c.end_of.ensures.crash

pub returns-then-len-end-clause-crash : goal.returns-then-len-end-clause-crash
returns-then-len-end-clause-crash g c =
    endures_also g.D.Disk g.met.D.Disk.reads_image g.met.D.Disk.only_now c.args.disk.now c.end_of.new.disk c.args.gate.now c.end_of.new.gate (with_batch c.args.batch.now) c.end_of.ensures.held c.end_of.ensures.told c.end_of.ensures.crash

pub returns-in_err-add-clause-crash : goal.returns-in_err-add-clause-crash
returns-in_err-add-clause-crash g c =
    let made = c.in_ok-behind.ensures.ok in
    endures_next g.D.Disk g.met.D.Disk.reads_image g.met.D.Disk.only_now c.args.disk.now c.end_of.new.disk c.add.new.disk c.args.gate.now c.end_of.new.gate c.add.new.gate (with_batch c.args.batch.now) c.end_of.ensures.told c.end_of.ensures.crash
    (c.add.ensures.crash c.args.batch.now (record { fits = made.1; bytes_are = c.deref.ensures.value ∙ made.0 }))

pub returns-clause-crash : goal.returns-clause-crash
returns-clause-crash g c =
    let made = c.in_ok-behind.ensures.ok in
    endures_next g.D.Disk g.met.D.Disk.reads_image g.met.D.Disk.only_now c.args.disk.now c.end_of.new.disk c.add.new.disk c.args.gate.now c.end_of.new.gate c.add.new.gate (with_batch c.args.batch.now) c.end_of.ensures.told c.end_of.ensures.crash
    (c.add.ensures.crash c.args.batch.now (record { fits = made.1; bytes_are = c.deref.ensures.value ∙ made.0 }))

pub returns-in_err-add-clause-kept : goal.returns-in_err-add-clause-kept
returns-in_err-add-clause-kept g c =
    let made = c.in_ok-behind.ensures.ok in
    on_err c.from_residual-in_err-add.result
    (told_next g.D.Disk g.met.D.Disk.reads_image g.met.D.Disk.only_now c.args.disk.now c.end_of.new.disk c.add.new.disk c.args.gate.now c.end_of.new.gate c.add.new.gate (λ (rows : Option (List Row)). rows) (with_batch c.args.batch.now (told c.end_of.new.gate (g.D.Disk.seen c.end_of.new.disk))) c.end_of.ensures.told (c.add.ensures.crash c.args.batch.now (record { fits = made.1; bytes_are = c.deref.ensures.value ∙ made.0 })) (c.in_err-add.ensures.kept c.args.batch.now (record { fits = made.1; bytes_are = c.deref.ensures.value ∙ made.0 })))

pub returns-clause-done : goal.returns-clause-done
returns-clause-done g c =
    let made = c.in_ok-behind.ensures.ok in
    told_next g.D.Disk g.met.D.Disk.reads_image g.met.D.Disk.only_now c.args.disk.now c.end_of.new.disk c.add.new.disk c.args.gate.now c.end_of.new.gate c.add.new.gate (with_batch c.args.batch.now) (with_batch c.args.batch.now (told c.end_of.new.gate (g.D.Disk.seen c.end_of.new.disk))) c.end_of.ensures.told (c.add.ensures.crash c.args.batch.now (record { fits = made.1; bytes_are = c.deref.ensures.value ∙ made.0 })) (c.in_ok-add.ensures.done c.args.batch.now (record { fits = made.1; bytes_are = c.deref.ensures.value ∙ made.0 }))
