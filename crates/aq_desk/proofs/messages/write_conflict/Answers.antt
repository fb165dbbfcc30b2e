use Rattle.std.proofs.Common.{◌++◌, codes}
use Rattle.std.specs.Prelude.{decimal}
use Rattle.aq_rules.specs.Shown.OtherSheets.{digest_text}
use Rattle.aq_desk.proofs.Telling.{conflict_message, writes_cut, writes_same, writes_then}
use Rattle.aq_desk.proofs.messages.write_conflict.Goals as goal

pub returns-in_err-write_counted : goal.returns-in_err-write_counted
returns-in_err-write_counted g c =
    let first = (codes "airdv: 9 load " ++ decimal c.args.number) ++ codes " kept " in
    let last = digest_text c.args.kept.now ++ (codes " sent " ++ (digest_text c.args.sent.now ++ codes "\n")) in
    writes_same (first ++ last) _ _ _ c.from_residual.result (conflict_message c.args.number c.args.kept.now c.args.sent.now)
    (writes_cut first last _ _ c.in_err-write_counted.field-0.0 _ c.from_residual.ensures.0 c.in_err-write_counted.ensures)

pub returns : goal.returns
returns g c =
    let first = (codes "airdv: 9 load " ++ decimal c.args.number) ++ codes " kept " in
    let last = digest_text c.args.kept.now ++ (codes " sent " ++ (digest_text c.args.sent.now ++ codes "\n")) in
    writes_same (first ++ last) _ _ _ c.write_digests.result (conflict_message c.args.number c.args.kept.now c.args.sent.now)
    (writes_then first last _ _ _ c.in_ok-write_counted.field-0 _ c.in_ok-write_counted.ensures c.write_digests.ensures)
