use Rattle.std.proofs.Common.{◌++◌, codes, refl}
use Rattle.aq_rules.specs.Shown.Sheet.{site_text}
use Rattle.aq_desk.proofs.Telling.{writes_cut, writes_then}
use Rattle.aq_desk.proofs.messages.write_site.Goals as goal

pub returns-in_err-write_all : goal.returns-in_err-write_all
returns-in_err-write_all g c =
    let first = c.args.before.now in
    let site = site_text c.args.site in
    writes_cut (first ++ site) (codes "\n") _ _ _ _ c.from_residual.ensures.0
    (writes_cut first site _ _ c.in_err-write_all.field-0.0 _ refl c.in_err-write_all.ensures)

pub returns-in_err-write_all-2 : goal.returns-in_err-write_all-2
returns-in_err-write_all-2 g c =
    let first = c.args.before.now in
    let site = site_text c.args.site in
    writes_cut (first ++ site) (codes "\n") _ _ c.in_err-write_all-2.field-0.0 _ c.from_residual-in_err-write_all-2.ensures.0
    (writes_then first site _ _ _ c.in_ok-write_all.field-0 _ c.in_ok-write_all.ensures (rw c.site_text.ensures at c.in_err-write_all-2.ensures))

pub returns : goal.returns
returns g c =
    let first = c.args.before.now in
    let site = site_text c.args.site in
    writes_then (first ++ site) (codes "\n") _ _ _ c.in_ok-write_all-2.field-0 _
    (writes_then first site _ _ _ c.in_ok-write_all.field-0 _ c.in_ok-write_all.ensures (rw c.site_text.ensures at c.in_ok-write_all-2.ensures))
    c.write_all-3.ensures
