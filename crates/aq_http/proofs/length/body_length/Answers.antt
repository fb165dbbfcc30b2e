use Rattle.std.proofs.Common.{◌∙◌, ap, codes, map}
use Rattle.httparse.specs.Spans.{header_bytes}
use Rattle.http1.specs.Fields.{values_named}
use Rattle.aq_http.specs.Length.{length_in}
use Rattle.aq_http.proofs.Lengths.{length_by_rule}
use Rattle.aq_http.proofs.length.body_length.Goals as goal

pub returns-clause-value : goal.returns-clause-value
returns-clause-value c =
    c.length_in.ensures.value
    ∙ ap (length_in c.args.verb) c.stated_length.ensures.value
    ∙ length_by_rule c.args.verb (values_named (codes "content-length") (map (header_bytes c.args.input.now) c.args.headers.now))
