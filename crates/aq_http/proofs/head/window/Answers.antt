use Rattle.std.proofs.Common.{◌≡◌, ◌∙◌, min, length, arith}
use Rattle.aq_http.specs.declared.limits.TheConstants.{MOST_HEAD}
use Rattle.aq_http.proofs.Reading.{window_is}
use Rattle.aq_http.proofs.head.window.Goals as goal

pub returns : goal.returns
returns c =
    let least : c.min.result ≡ min (length c.args.input.now) MOST_HEAD = omega (arith, c.min.ensures) in
    c.split_at.ensures.front ∙ window_is c.min.result c.args.input.now least
