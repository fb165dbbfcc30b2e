use Rattle.std.proofs.Common.{ap, subst}
use Rattle.aq_journal.proofs.Moments.{quiet_one, quiet_none}
use Rattle.aq_journal.proofs.Enduring.{held_if, quiet_step, refreshed_at, shut_failed_at, shut_done_at}
use Rattle.aq_journal.specs.Keeping.{HasRoom, told}
use Rattle.aq_journal.specs.declared.gate.Gate.TheVariants.{Unread, Shut}
use Rattle.aq_journal.proofs.gate.settle.Goals as goal

pub returns-in_err-refresh-in-Unsynced-clause-held : goal.returns-in_err-refresh-in-Unsynced-clause-held
returns-in_err-refresh-in-Unsynced-clause-held g c =
    let quiet = quiet_one g.D.Disk g.met.D.Disk.counts_now c.args.disk.now c.refresh.new.self c.refresh.ensures.same c.refresh.ensures.crash c.refresh.ensures.time in
    held_if g.D.Disk c.refresh.new.self c.args.gate.now c.requires.held.room (λ still. (quiet_step g.D.Disk g.met.D.Disk.reads_image g.met.D.Disk.only_now c.args.disk.now c.refresh.new.self c.args.gate.now (told c.args.gate.now (g.D.Disk.seen c.args.disk.now)) (quiet still) c.requires.held).held)

pub returns-in_err-refresh-in-Unsynced-clause-told : goal.returns-in_err-refresh-in-Unsynced-clause-told
returns-in_err-refresh-in-Unsynced-clause-told g c = λ still. ap (told c.args.gate.now) (c.refresh.ensures.same still)

pub returns-in_err-refresh-in-Unsynced-clause-crash : goal.returns-in_err-refresh-in-Unsynced-clause-crash
returns-in_err-refresh-in-Unsynced-clause-crash g c =
    let quiet = quiet_one g.D.Disk g.met.D.Disk.counts_now c.args.disk.now c.refresh.new.self c.refresh.ensures.same c.refresh.ensures.crash c.refresh.ensures.time in
    λ still. (quiet_step g.D.Disk g.met.D.Disk.reads_image g.met.D.Disk.only_now c.args.disk.now c.refresh.new.self c.args.gate.now (told c.args.gate.now (g.D.Disk.seen c.args.disk.now)) (quiet still) c.requires.held).endures

pub returns-in_ok-refresh-in-Unsynced-clause-held : goal.returns-in_ok-refresh-in-Unsynced-clause-held
returns-in_ok-refresh-in-Unsynced-clause-held g c =
    let quiet = quiet_one g.D.Disk g.met.D.Disk.counts_now c.args.disk.now c.refresh.new.self c.refresh.ensures.same c.refresh.ensures.crash c.refresh.ensures.time in
    held_if g.D.Disk c.refresh.new.self Unread tt (λ still. (refreshed_at g.D.Disk g.met.D.Disk.reads_image g.met.D.Disk.only_now c.args.disk.now c.refresh.new.self c.args.gate.now c.in-Unsynced.is (quiet still) c.in_ok-refresh-in-Unsynced.ensures.refreshed).held)

pub returns-in_ok-refresh-in-Unsynced-clause-told : goal.returns-in_ok-refresh-in-Unsynced-clause-told
returns-in_ok-refresh-in-Unsynced-clause-told g c =
    let quiet = quiet_one g.D.Disk g.met.D.Disk.counts_now c.args.disk.now c.refresh.new.self c.refresh.ensures.same c.refresh.ensures.crash c.refresh.ensures.time in
    λ still. (refreshed_at g.D.Disk g.met.D.Disk.reads_image g.met.D.Disk.only_now c.args.disk.now c.refresh.new.self c.args.gate.now c.in-Unsynced.is (quiet still) c.in_ok-refresh-in-Unsynced.ensures.refreshed).told_is

pub returns-in_ok-refresh-in-Unsynced-clause-crash : goal.returns-in_ok-refresh-in-Unsynced-clause-crash
returns-in_ok-refresh-in-Unsynced-clause-crash g c =
    let quiet = quiet_one g.D.Disk g.met.D.Disk.counts_now c.args.disk.now c.refresh.new.self c.refresh.ensures.same c.refresh.ensures.crash c.refresh.ensures.time in
    λ still. (refreshed_at g.D.Disk g.met.D.Disk.reads_image g.met.D.Disk.only_now c.args.disk.now c.refresh.new.self c.args.gate.now c.in-Unsynced.is (quiet still) c.in_ok-refresh-in-Unsynced.ensures.refreshed).endures

pub returns-in-Unread-clause-crash : goal.returns-in-Unread-clause-crash
returns-in-Unread-clause-crash g c = λ still. (quiet_step g.D.Disk g.met.D.Disk.reads_image g.met.D.Disk.only_now c.args.disk.now c.args.disk.now c.args.gate.now (told c.args.gate.now (g.D.Disk.seen c.args.disk.now)) (quiet_none g.D.Disk c.args.disk.now) c.requires.held).endures

pub returns-in-Shut-clause-crash : goal.returns-in-Shut-clause-crash
returns-in-Shut-clause-crash g c = λ still. (quiet_step g.D.Disk g.met.D.Disk.reads_image g.met.D.Disk.only_now c.args.disk.now c.args.disk.now c.args.gate.now (told c.args.gate.now (g.D.Disk.seen c.args.disk.now)) (quiet_none g.D.Disk c.args.disk.now) c.requires.held).endures

pub returns-in_err-put-in-Doubtful-clause-held : goal.returns-in_err-put-in-Doubtful-clause-held
returns-in_err-put-in-Doubtful-clause-held g c = held_if g.D.Disk c.put.new.disk c.args.gate.now c.requires.held.room (λ still. (shut_failed_at g.D.Disk g.met.D.Disk.reads_image g.met.D.Disk.only_now c.args.disk.now c.put.new.disk c.args.gate.now c.in-Doubtful.end c.in-Doubtful.is c.requires.held (c.put.ensures.images still)).held)

pub returns-in_err-put-in-Doubtful-clause-told : goal.returns-in_err-put-in-Doubtful-clause-told
returns-in_err-put-in-Doubtful-clause-told g c = λ still. (shut_failed_at g.D.Disk g.met.D.Disk.reads_image g.met.D.Disk.only_now c.args.disk.now c.put.new.disk c.args.gate.now c.in-Doubtful.end c.in-Doubtful.is c.requires.held (c.put.ensures.images still)).told_is

pub returns-in_err-put-in-Doubtful-clause-crash : goal.returns-in_err-put-in-Doubtful-clause-crash
returns-in_err-put-in-Doubtful-clause-crash g c = λ still. (shut_failed_at g.D.Disk g.met.D.Disk.reads_image g.met.D.Disk.only_now c.args.disk.now c.put.new.disk c.args.gate.now c.in-Doubtful.end c.in-Doubtful.is c.requires.held (c.put.ensures.images still)).endures

pub returns-in_ok-put-in-Doubtful-clause-held : goal.returns-in_ok-put-in-Doubtful-clause-held
returns-in_ok-put-in-Doubtful-clause-held g c = held_if g.D.Disk c.put.new.disk (Shut c.in-Doubtful.end) (subst HasRoom c.in-Doubtful.is c.requires.held.room) (λ still. (shut_done_at g.D.Disk g.met.D.Disk.reads_image g.met.D.Disk.only_now c.args.disk.now c.put.new.disk c.args.gate.now c.in-Doubtful.end c.in-Doubtful.is c.requires.held (c.put.ensures.images still) (c.in_ok-put-in-Doubtful.ensures.done still)).held)

pub returns-in_ok-put-in-Doubtful-clause-told : goal.returns-in_ok-put-in-Doubtful-clause-told
returns-in_ok-put-in-Doubtful-clause-told g c = λ still. (shut_done_at g.D.Disk g.met.D.Disk.reads_image g.met.D.Disk.only_now c.args.disk.now c.put.new.disk c.args.gate.now c.in-Doubtful.end c.in-Doubtful.is c.requires.held (c.put.ensures.images still) (c.in_ok-put-in-Doubtful.ensures.done still)).told_is

pub returns-in_ok-put-in-Doubtful-clause-crash : goal.returns-in_ok-put-in-Doubtful-clause-crash
returns-in_ok-put-in-Doubtful-clause-crash g c = λ still. (shut_done_at g.D.Disk g.met.D.Disk.reads_image g.met.D.Disk.only_now c.args.disk.now c.put.new.disk c.args.gate.now c.in-Doubtful.end c.in-Doubtful.is c.requires.held (c.put.ensures.images still) (c.in_ok-put-in-Doubtful.ensures.done still)).endures
