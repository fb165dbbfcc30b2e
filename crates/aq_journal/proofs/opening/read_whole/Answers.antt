use Rattle.std.proofs.Common.{◌≡◌, ℕ, List, length, take, drop, ap, ◌∙◌}
use Rattle.std.proofs.lemmas.List.{take_at}
use Rattle.aq_journal.proofs.Opens.{whole_is}
use Rattle.aq_journal.proofs.Moments.{quiet_one, quiet_then, still_told}
use Rattle.aq_journal.proofs.opening.read_whole.Goals as goal

pub returns-in_err-length-clause-quiet : goal.returns-in_err-length-clause-quiet
returns-in_err-length-clause-quiet g c = quiet_one g.D.Disk g.met.D.Disk.counts_now c.args.disk.now c.length.new.self c.length.ensures.same c.length.ensures.crash c.length.ensures.time

pub returns-in_err-bytes-clause-quiet : goal.returns-in_err-bytes-clause-quiet
returns-in_err-bytes-clause-quiet g c = quiet_one g.D.Disk g.met.D.Disk.counts_now c.args.disk.now c.length.new.self c.length.ensures.same c.length.ensures.crash c.length.ensures.time

pub returns-in_err-read-clause-quiet : goal.returns-in_err-read-clause-quiet
returns-in_err-read-clause-quiet g c =
    quiet_then g.D.Disk c.args.disk.now c.length.new.self c.fill.new.disk (quiet_one g.D.Disk g.met.D.Disk.counts_now c.args.disk.now c.length.new.self c.length.ensures.same c.length.ensures.crash c.length.ensures.time) c.fill.ensures.quiet

pub returns-clause-quiet : goal.returns-clause-quiet
returns-clause-quiet g c =
    quiet_then g.D.Disk c.args.disk.now c.length.new.self c.fill.new.disk (quiet_one g.D.Disk g.met.D.Disk.counts_now c.args.disk.now c.length.new.self c.length.ensures.same c.length.ensures.crash c.length.ensures.time) c.fill.ensures.quiet

pub returns-clause-bytes : goal.returns-clause-bytes
returns-clause-bytes g c =
    let buffer = c.fill.new.bytes in
    let bytes = c.in_ok-bytes.bytes in
    let taken = c.truncate.ensures.items ∙ ap (take c.in_ok-read.read) (take_at buffer (drop (length buffer) bytes.items) bytes.len (c.fill.ensures.length ∙ c.deref_mut.ensures.len)) in
    let seen = g.D.Disk.seen c.fill.new.disk in
    let sized = still_told (λ (file : List ℕ). c.in_ok-length.length ≡ length file) (g.D.Disk.seen c.length.new.self) seen (λ still. (c.fill.ensures.quiet still).seen) c.in_ok-length.ensures.length in
    whole_is seen c.in_ok-length.length c.in_ok-read.read buffer c.truncate.new.self.items sized (c.fill.ensures.length ∙ ap length c.deref_mut.ensures.value ∙ c.in_ok-bytes.ensures) c.in_ok-read.ensures.read taken
