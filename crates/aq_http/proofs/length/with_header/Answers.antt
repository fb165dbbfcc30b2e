use Rattle.std.proofs.Common.{◌≡◌, ◌∙◌, sym, ap, codes, true}
use Rattle.http1.specs.Fields.{values_named}
use Rattle.http1.specs.Text.{eq_ignore_case}
use Rattle.aq_http.specs.Length.{Absent, stated_onto, stated_with}
use Rattle.aq_http.proofs.Lengths.{named_more, stated_onto_more}
use Rattle.aq_http.proofs.length.with_header.Goals as goal

pub returns-then-eq_ignore_case-clause-value : goal.returns-then-eq_ignore_case-clause-value
returns-then-eq_ignore_case-clause-value c headers before =
    let is : eq_ignore_case c.args.name.now (codes "content-length") ≡ true = sym c.eq_ignore_case.ensures ∙ c.if-eq_ignore_case.true in
    c.with_value.ensures.value
    ∙ ap (λ s. stated_with s c.args.value.now) before
    ∙ sym (stated_onto_more Absent (values_named (codes "content-length") headers) c.args.value.now)
    ∙ ap (stated_onto Absent) (sym (named_more (codes "content-length") headers c.args.name.now c.args.value.now is))
