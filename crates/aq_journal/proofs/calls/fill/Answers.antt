use Rattle.std.proofs.Common.{◌∙◌, arith}
use Rattle.aq_journal.proofs.Moments.{quiet_then, still_told}
use Rattle.aq_journal.proofs.Opens.{IsFilled, filled_more}
use Rattle.aq_journal.proofs.calls.fill.Goals as goal

pub loop-preserved : goal.loop-preserved
loop-preserved g c =
    let so-far = c.loop.invariant in
    let long = c.read_into.ensures.length ∙ so-far.as_long in
    let seen = g.D.Disk.seen c.read_into.new.disk in
    let stood = still_told (IsFilled c.loop.at c.loop.bytes) (g.D.Disk.seen c.loop.disk) seen (λ still. (c.read_into.ensures.quiet still).seen) so-far.read in
    record {
      as_long = long;
      within = omega (arith, c.in_ok-n.ensures.within, so-far.within, c.read_into.ensures.length);
      count = omega (arith, so-far.count, c.if-n-eq0.false);
      quiet = quiet_then g.D.Disk c.args.disk.now c.loop.disk c.read_into.new.disk so-far.quiet c.read_into.ensures.quiet;
      faults = c.in_ok-n.ensures.cause ∙ so-far.faults;
      read = filled_more seen c.loop.at c.in_ok-n.n c.loop.bytes c.read_into.new.bytes stood c.read_into.ensures.front c.in_ok-n.ensures.gives;
    }
