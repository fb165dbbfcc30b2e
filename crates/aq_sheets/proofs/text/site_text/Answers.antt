use Rattle.std.proofs.Common.{◌≡◌}
use Rattle.aq_base.specs.Decimal.{last_digits}
use Rattle.aq_sheets.proofs.Digits.{site_text_is}
use Rattle.aq_sheets.proofs.text.site_text.Goals as goal

pub returns : goal.returns
returns c =
    let site = c.args.site in
    let state : c.last_digits.result ≡ last_digits 2 site.state = cc (c.last_digits.ensures, c.from.ensures, c.state.ensures.value) in
    let county : c.last_digits-2.result ≡ last_digits 3 site.county = cc (c.last_digits-2.ensures, c.county.ensures.value) in
    let number : c.last_digits-3.result ≡ last_digits 4 site.number = cc (c.last_digits-3.ensures, c.site.ensures.value) in
    site_text_is site _ _ _ state county number
