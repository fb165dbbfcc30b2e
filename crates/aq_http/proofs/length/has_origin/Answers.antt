use Rattle.std.proofs.Common.{◌∙◌, sym, ap, codes}
use Rattle.http1.specs.Text.{eq_ignore_case}
use Rattle.aq_http.proofs.Lengths.{named_at}
use Rattle.aq_http.proofs.length.has_origin.Goals as goal

pub returns-then-eq_ignore_case : goal.returns-then-eq_ignore_case
returns-then-eq_ignore_case c =
    sym (named_at (codes "origin") c.args.input.now c.args.headers.now c.loop-header.header-index _ c.loop-header-test.true
    (ap (λ name. eq_ignore_case name (codes "origin")) (sym c.of.ensures) ∙ sym c.eq_ignore_case.ensures ∙ c.if-eq_ignore_case.true))
