use Rattle.std.proofs.Common.{◌++◌, codes}
use Rattle.aq_rules.specs.Shown.OtherSheets.{digest_text}
use Rattle.aq_desk.proofs.Telling.{writes_cut, writes_then}
use Rattle.aq_desk.proofs.messages.write_digests.Goals as goal

pub returns-in_err-write_digest : goal.returns-in_err-write_digest
returns-in_err-write_digest g c =
    let sent = digest_text c.args.sent.now ++ codes "\n" in
    writes_cut (digest_text c.args.kept.now) (codes " sent " ++ sent) _ _ c.in_err-write_digest.field-0.0 c.from_residual.result c.from_residual.ensures.0 c.in_err-write_digest.ensures

pub returns-in_err-write_all : goal.returns-in_err-write_all
returns-in_err-write_all g c =
    let sent = digest_text c.args.sent.now ++ codes "\n" in
    writes_then (digest_text c.args.kept.now) (codes " sent " ++ sent) _ _ _ c.in_ok-write_digest.field-0 c.from_residual-in_err-write_all.result c.in_ok-write_digest.ensures
    (writes_cut (codes " sent ") sent _ _ c.in_err-write_all.field-0.0 c.from_residual-in_err-write_all.result c.from_residual-in_err-write_all.ensures.0 c.in_err-write_all.ensures)

pub returns-in_err-write_digest-2 : goal.returns-in_err-write_digest-2
returns-in_err-write_digest-2 g c =
    let sent = digest_text c.args.sent.now ++ codes "\n" in
    writes_then (digest_text c.args.kept.now) (codes " sent " ++ sent) _ _ _ c.in_ok-write_digest.field-0 c.from_residual-in_err-write_digest-2.result c.in_ok-write_digest.ensures
    (writes_then (codes " sent ") sent _ _ _ c.in_ok-write_all.field-0 c.from_residual-in_err-write_digest-2.result c.in_ok-write_all.ensures
    (writes_cut (digest_text c.args.sent.now) (codes "\n") _ _ c.in_err-write_digest-2.field-0.0 c.from_residual-in_err-write_digest-2.result c.from_residual-in_err-write_digest-2.ensures.0 c.in_err-write_digest-2.ensures))

pub returns : goal.returns
returns g c =
    let sent = digest_text c.args.sent.now ++ codes "\n" in
    writes_then (digest_text c.args.kept.now) (codes " sent " ++ sent) _ _ _ c.in_ok-write_digest.field-0 c.write_all-2.result c.in_ok-write_digest.ensures
    (writes_then (codes " sent ") sent _ _ _ c.in_ok-write_all.field-0 c.write_all-2.result c.in_ok-write_all.ensures
    (writes_then (digest_text c.args.sent.now) (codes "\n") _ _ _ c.in_ok-write_digest-2.field-0 c.write_all-2.result c.in_ok-write_digest-2.ensures c.write_all-2.ensures))
