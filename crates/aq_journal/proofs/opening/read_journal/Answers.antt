use Rattle.std.proofs.Common.{◌≡◌, ◌<◌, ◌≤◌, ◌^◌, ℕ, List, [], length, Option, Some, sym, ap, subst, ◌∙◌, arith}
use Rattle.std.specs.Prelude.{IfSome}
use Rattle.aq_rules.specs.Kept.Rows.{Row}
use Rattle.aq_journal.specs.Keeping.{told}
use Rattle.aq_journal.specs.declared.gate.Gate.TheVariants.{Shut}
use Rattle.aq_journal.proofs.Frames.{short_tables}
use Rattle.aq_journal.proofs.Enduring.{held_if, quiet_held, quiet_endures, endures_next, told_next}
use Rattle.aq_journal.proofs.Opens.{file_rows, rows_read, rows_still, ended_rows, found_read}
use Rattle.aq_journal.proofs.opening.read_journal.Goals as goal

pub returns-in_err-file-clause-held : goal.returns-in_err-file-clause-held
returns-in_err-file-clause-held g c = held_if g.D.Disk c.read_whole.new.disk c.args.gate.now c.requires.held.room (λ still. quiet_held g.D.Disk g.met.D.Disk.reads_image g.met.D.Disk.only_now c.args.disk.now c.read_whole.new.disk c.args.gate.now (c.read_whole.ensures.quiet still) c.requires.held)

pub returns-in_err-file-clause-told : goal.returns-in_err-file-clause-told
returns-in_err-file-clause-told g c = λ still. ap (told c.args.gate.now) (c.read_whole.ensures.quiet still).seen

pub returns-in_err-file-clause-crash : goal.returns-in_err-file-clause-crash
returns-in_err-file-clause-crash g c = λ still. quiet_endures g.D.Disk g.met.D.Disk.reads_image g.met.D.Disk.only_now c.args.disk.now c.read_whole.new.disk c.args.gate.now (told c.args.gate.now (g.D.Disk.seen c.args.disk.now)) (c.read_whole.ensures.quiet still) c.requires.held

pub returns-in_err-scanned-clause-held : goal.returns-in_err-scanned-clause-held
returns-in_err-scanned-clause-held g c = held_if g.D.Disk c.read_whole.new.disk c.args.gate.now c.requires.held.room (λ still. quiet_held g.D.Disk g.met.D.Disk.reads_image g.met.D.Disk.only_now c.args.disk.now c.read_whole.new.disk c.args.gate.now (c.read_whole.ensures.quiet still) c.requires.held)

pub returns-in_err-scanned-clause-told : goal.returns-in_err-scanned-clause-told
returns-in_err-scanned-clause-told g c = λ still. ap (told c.args.gate.now) (c.read_whole.ensures.quiet still).seen

pub returns-in_err-scanned-clause-crash : goal.returns-in_err-scanned-clause-crash
returns-in_err-scanned-clause-crash g c = λ still. quiet_endures g.D.Disk g.met.D.Disk.reads_image g.met.D.Disk.only_now c.args.disk.now c.read_whole.new.disk c.args.gate.now (told c.args.gate.now (g.D.Disk.seen c.args.disk.now)) (c.read_whole.ensures.quiet still) c.requires.held

pub begin-requires-clause-held : goal.begin-requires-clause-held
begin-requires-clause-held g c = held_if g.D.Disk c.read_whole.new.disk c.args.gate.now c.requires.held.room (λ still. quiet_held g.D.Disk g.met.D.Disk.reads_image g.met.D.Disk.only_now c.args.disk.now c.read_whole.new.disk c.args.gate.now (c.read_whole.ensures.quiet still) c.requires.held)

pub returns-in_err-begin-clause-told : goal.returns-in_err-begin-clause-told
returns-in_err-begin-clause-told g c = told_next g.D.Disk g.met.D.Disk.reads_image g.met.D.Disk.only_now c.args.disk.now c.read_whole.new.disk c.begin.new.disk c.args.gate.now c.args.gate.now c.begin.new.gate (λ (rows : Option (List Row)). rows) (told c.args.gate.now (g.D.Disk.seen c.read_whole.new.disk)) (λ still. ap (told c.args.gate.now) (c.read_whole.ensures.quiet still).seen) c.begin.ensures.crash c.begin.ensures.told

pub returns-in_err-begin-clause-crash : goal.returns-in_err-begin-clause-crash
returns-in_err-begin-clause-crash g c = endures_next g.D.Disk g.met.D.Disk.reads_image g.met.D.Disk.only_now c.args.disk.now c.read_whole.new.disk c.begin.new.disk c.args.gate.now c.args.gate.now c.begin.new.gate (λ (rows : Option (List Row)). rows) (λ still. ap (told c.args.gate.now) (c.read_whole.ensures.quiet still).seen) (λ still. quiet_endures g.D.Disk g.met.D.Disk.reads_image g.met.D.Disk.only_now c.args.disk.now c.read_whole.new.disk c.args.gate.now (told c.args.gate.now (g.D.Disk.seen c.args.disk.now)) (c.read_whole.ensures.quiet still) c.requires.held) c.begin.ensures.crash

pub returns-then-len-le9-clause-told : goal.returns-then-len-le9-clause-told
returns-then-len-le9-clause-told g c = told_next g.D.Disk g.met.D.Disk.reads_image g.met.D.Disk.only_now c.args.disk.now c.read_whole.new.disk c.begin.new.disk c.args.gate.now c.args.gate.now c.begin.new.gate (λ (rows : Option (List Row)). rows) (told c.args.gate.now (g.D.Disk.seen c.read_whole.new.disk)) (λ still. ap (told c.args.gate.now) (c.read_whole.ensures.quiet still).seen) c.begin.ensures.crash c.begin.ensures.told

pub returns-then-len-le9-clause-crash : goal.returns-then-len-le9-clause-crash
returns-then-len-le9-clause-crash g c = endures_next g.D.Disk g.met.D.Disk.reads_image g.met.D.Disk.only_now c.args.disk.now c.read_whole.new.disk c.begin.new.disk c.args.gate.now c.args.gate.now c.begin.new.gate (λ (rows : Option (List Row)). rows) (λ still. ap (told c.args.gate.now) (c.read_whole.ensures.quiet still).seen) (λ still. quiet_endures g.D.Disk g.met.D.Disk.reads_image g.met.D.Disk.only_now c.args.disk.now c.read_whole.new.disk c.args.gate.now (told c.args.gate.now (g.D.Disk.seen c.args.disk.now)) (c.read_whole.ensures.quiet still) c.requires.held) c.begin.ensures.crash

pub returns-then-len-le9-clause-rows : goal.returns-then-len-le9-clause-rows
returns-then-len-le9-clause-rows g c =
    let bytes = c.in_ok-file.file.items in
    let seen = g.D.Disk.seen c.read_whole.new.disk in
    let gate = c.args.gate.now in
    let small : length bytes ≤ 9 = omega (arith, c.len.ensures, c.if-len-le9.true) in
    let empty = rows_read gate seen bytes [] c.requires.settled c.in_ok-file.ensures.bytes (short_tables bytes small) in
    rows_still c.begin.new.gate (g.D.Disk.seen c.begin.new.disk) (told gate seen) (λ (stood : List Row). c.new.result ≡ stood) c.begin.ensures.told
    (subst (λ (none : List Row). IfSome (told gate seen) (λ stood. none ≡ stood)) (sym c.new.ensures) empty)

pub returns-clause-rows : goal.returns-clause-rows
returns-clause-rows g c =
    let bytes = c.deref.result.now in
    let seen = g.D.Disk.seen c.read_whole.new.disk in
    let found = c.in_ok-scanned.ensures in
    let known = subst (λ (l : List ℕ). IfSome seen (λ file. l ≡ file)) (sym c.deref.ensures.value) c.in_ok-file.ensures.bytes in
    file_rows seen bytes c.in_ok-scanned.scanned.tables known (ended_rows bytes found.0 c.in_ok-scanned.scanned.end found.2 ∙ ap (λ (rows : List Row). Some rows) (sym found.1))

pub returns-clause-held : goal.returns-clause-held
returns-clause-held g c =
    let bytes = c.deref.result.now in
    let gate = c.args.gate.now in
    let seen = g.D.Disk.seen c.read_whole.new.disk in
    let found = c.in_ok-scanned.ensures in
    let known = subst (λ (l : List ℕ). IfSome seen (λ file. l ≡ file)) (sym c.deref.ensures.value) c.in_ok-file.ensures.bytes in
    let long : 9 < length bytes = omega (arith, c.len.ensures, c.if-len-le9.false, ap length c.deref.ensures.value) in
    let bound : length bytes < 2 ^ 63 = omega (arith, c.in_ok-file.ensures.bound, ap length c.deref.ensures.value) in
    let read = found_read g.D.Disk g.met.D.Disk.reads_image g.met.D.Disk.only_now c.read_whole.new.disk gate bytes found.0 c.in_ok-scanned.scanned.end (told gate seen) c.requires.settled
    (held_if g.D.Disk c.read_whole.new.disk c.args.gate.now c.requires.held.room (λ still. quiet_held g.D.Disk g.met.D.Disk.reads_image g.met.D.Disk.only_now c.args.disk.now c.read_whole.new.disk c.args.gate.now (c.read_whole.ensures.quiet still) c.requires.held)) long bound known found.2 in
    read.held

pub returns-clause-told : goal.returns-clause-told
returns-clause-told g c =
    let bytes = c.deref.result.now in
    let gate = c.args.gate.now in
    let seen = g.D.Disk.seen c.read_whole.new.disk in
    let found = c.in_ok-scanned.ensures in
    let known = subst (λ (l : List ℕ). IfSome seen (λ file. l ≡ file)) (sym c.deref.ensures.value) c.in_ok-file.ensures.bytes in
    let long : 9 < length bytes = omega (arith, c.len.ensures, c.if-len-le9.false, ap length c.deref.ensures.value) in
    let bound : length bytes < 2 ^ 63 = omega (arith, c.in_ok-file.ensures.bound, ap length c.deref.ensures.value) in
    let read = found_read g.D.Disk g.met.D.Disk.reads_image g.met.D.Disk.only_now c.read_whole.new.disk gate bytes found.0 c.in_ok-scanned.scanned.end (told gate seen) c.requires.settled
    (held_if g.D.Disk c.read_whole.new.disk c.args.gate.now c.requires.held.room (λ still. quiet_held g.D.Disk g.met.D.Disk.reads_image g.met.D.Disk.only_now c.args.disk.now c.read_whole.new.disk c.args.gate.now (c.read_whole.ensures.quiet still) c.requires.held)) long bound known found.2 in
    λ still. read.told_is ∙ ap (told gate) (c.read_whole.ensures.quiet still).seen

pub returns-clause-crash : goal.returns-clause-crash
returns-clause-crash g c =
    let bytes = c.deref.result.now in
    let gate = c.args.gate.now in
    let seen = g.D.Disk.seen c.read_whole.new.disk in
    let found = c.in_ok-scanned.ensures in
    let known = subst (λ (l : List ℕ). IfSome seen (λ file. l ≡ file)) (sym c.deref.ensures.value) c.in_ok-file.ensures.bytes in
    let long : 9 < length bytes = omega (arith, c.len.ensures, c.if-len-le9.false, ap length c.deref.ensures.value) in
    let bound : length bytes < 2 ^ 63 = omega (arith, c.in_ok-file.ensures.bound, ap length c.deref.ensures.value) in
    let read = found_read g.D.Disk g.met.D.Disk.reads_image g.met.D.Disk.only_now c.read_whole.new.disk gate bytes found.0 c.in_ok-scanned.scanned.end (told gate seen) c.requires.settled
    (held_if g.D.Disk c.read_whole.new.disk c.args.gate.now c.requires.held.room (λ still. quiet_held g.D.Disk g.met.D.Disk.reads_image g.met.D.Disk.only_now c.args.disk.now c.read_whole.new.disk c.args.gate.now (c.read_whole.ensures.quiet still) c.requires.held)) long bound known found.2 in
    endures_next g.D.Disk g.met.D.Disk.reads_image g.met.D.Disk.only_now c.args.disk.now c.read_whole.new.disk c.read_whole.new.disk gate gate (Shut c.in_ok-scanned.scanned.end) (λ (rows : Option (List Row)). rows) (λ still. ap (told c.args.gate.now) (c.read_whole.ensures.quiet still).seen)
    (λ still. quiet_endures g.D.Disk g.met.D.Disk.reads_image g.met.D.Disk.only_now c.args.disk.now c.read_whole.new.disk c.args.gate.now (told c.args.gate.now (g.D.Disk.seen c.args.disk.now)) (c.read_whole.ensures.quiet still) c.requires.held) (λ still. read.endures)
