use Rattle.std.proofs.Common.{◌≡◌, ◌∷◌}
use Rattle.aq_rules.specs.Shown.OtherSheets.{digest_text}
use Rattle.aq_desk.proofs.Telling.{digest_split, writes_cut, writes_same, writes_then}
use Rattle.aq_desk.proofs.messages.+write_digest.Goals as goal

pub returns-in_err-write_all : goal.returns-in_err-write_all
returns-in_err-write_all g t c =
    let split : c.args.bytes.now ≡ c.in-Some.first.now ∷ c.in-Some.rest.now = c.in-Some.ensures.cases.0 in
    writes_same _ _ _ _ c.from_residual.result (digest_split c.args.bytes.now c.in-Some.rest.now _ c.in-Some.first.now split c.hex_digits.ensures)
    (writes_cut c.hex_digits.result (digest_text c.in-Some.rest.now) _ _ c.in_err-write_all.field-0.0 c.from_residual.result c.from_residual.ensures.0 c.in_err-write_all.ensures)

pub returns : goal.returns
returns g t c =
    let split : c.args.bytes.now ≡ c.in-Some.first.now ∷ c.in-Some.rest.now = c.in-Some.ensures.cases.0 in
    writes_same _ _ _ _ c.write_digest.result (digest_split c.args.bytes.now c.in-Some.rest.now _ c.in-Some.first.now split c.hex_digits.ensures)
    (writes_then c.hex_digits.result (digest_text c.in-Some.rest.now) _ _ _ c.in_ok-write_all.field-0 c.write_digest.result c.in_ok-write_all.ensures c.write_digest.ensures)
