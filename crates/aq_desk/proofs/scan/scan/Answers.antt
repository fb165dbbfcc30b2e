use Rattle.std.proofs.Common.{◌∙◌, arith}
use Rattle.aq_desk.proofs.Reading.{read-on, read-stopped}
use Rattle.aq_desk.proofs.Unread.{few_lines, read_causes, read_scan, too_long, unfilled, unread_causes, unread_status, unread_told}
use Rattle.aq_desk.proofs.scan.scan.Goals as goal

pub returns-in_err-bytes-clause-told : goal.returns-in_err-bytes-clause-told
returns-in_err-bytes-clause-told g c =
    unread_told c.args.site c.args.day _ _ _ _ c.in_err-bytes.field-0.0 c.from_residual.result c.from_residual.ensures.1 (unfilled _ _ _ c.in_err-bytes.field-0.0 c.in_err-bytes.ensures.fault)

pub returns-in_err-body-clause-told : goal.returns-in_err-body-clause-told
returns-in_err-body-clause-told g c =
    unread_told c.args.site c.args.day _ _ _ _ c.in_err-body.field-0.0 c.from_residual-in_err-body.result c.from_residual-in_err-body.ensures.1 (too_long _ _ _ c.in_ok-bytes.bytes.items _ c.in_err-body.field-0.0 c.in_ok-bytes.ensures.body c.deref.ensures.value c.in_ok-bytes.ensures.steady c.in_err-body.ensures.fault)

pub returns-in_err-bytes-clause-causes : goal.returns-in_err-bytes-clause-causes
returns-in_err-bytes-clause-causes g c =
    unread_causes _ _ _ c.in_err-bytes.field-0.0 c.from_residual.result c.from_residual.ensures.1 (unfilled _ _ _ c.in_err-bytes.field-0.0 c.in_err-bytes.ensures.fault)

pub returns-in_err-body-clause-causes : goal.returns-in_err-body-clause-causes
returns-in_err-body-clause-causes g c =
    unread_causes _ _ _ c.in_err-body.field-0.0 c.from_residual-in_err-body.result c.from_residual-in_err-body.ensures.1 (too_long _ _ _ c.in_ok-bytes.bytes.items _ c.in_err-body.field-0.0 c.in_ok-bytes.ensures.body c.deref.ensures.value c.in_ok-bytes.ensures.steady c.in_err-body.ensures.fault)

pub returns-clause-told : goal.returns-clause-told
returns-clause-told g c =
    let same = c.in_ok-body.ensures.body ∙ c.deref.ensures.value in
    let within = few_lines c.in_ok-bytes.bytes.items c.deref.result.now c.in_ok-bytes.ensures.bytes c.deref.ensures.value c.in_ok-body.ensures.lines in
    let taken = c.answer.ensures.taken in
    read_scan c.args.site c.args.day _ c.in_ok-bytes.bytes.items c.in_ok-body.body c.answer.result _ _ c.in_ok-bytes.ensures.body same within (λ ten. omega (arith, ten, taken)) c.answer.ensures.told

pub returns-clause-causes : goal.returns-clause-causes
returns-clause-causes g c =
    let taken = c.answer.ensures.taken in
    read_causes _ _ _ _ _ c.in_ok-bytes.ensures.steady (λ three. omega (arith, three, taken)) c.answer.ensures.output_failed

pub returns-clause-silent : goal.returns-clause-silent
returns-clause-silent g c = let taken = c.answer.ensures.taken in λ nothing. absurd (omega (arith, taken, nothing))

pub returns-in_err-bytes-clause-no_keeper : goal.returns-in_err-bytes-clause-no_keeper
returns-in_err-bytes-clause-no_keeper g c = unread_status c.in_err-bytes.field-0.0 c.from_residual.result c.from_residual.ensures.1

pub returns-in_err-body-clause-no_keeper : goal.returns-in_err-body-clause-no_keeper
returns-in_err-body-clause-no_keeper g c = unread_status c.in_err-body.field-0.0 c.from_residual-in_err-body.result c.from_residual-in_err-body.ensures.1

pub returns-clause-no_keeper : goal.returns-clause-no_keeper
returns-clause-no_keeper g c = let taken = c.answer.ensures.taken in λ five. omega (arith, taken, five)

pub returns-in_err-bytes-clause-read : goal.returns-in_err-bytes-clause-read
returns-in_err-bytes-clause-read g c = read-stopped c.in_err-bytes.field-0.0 c.from_residual.result _ _ c.from_residual.ensures.1 c.in_err-bytes.ensures.cut

pub returns-in_err-body-clause-read : goal.returns-in_err-body-clause-read
returns-in_err-body-clause-read g c = read-on _ _ _ c.in_ok-bytes.ensures.read

pub returns-clause-read : goal.returns-clause-read
returns-clause-read g c = read-on _ _ _ c.in_ok-bytes.ensures.read
