use Rattle.std.proofs.Common.{◌≡◌, ◌∙◌, true, ap, sym, Ok, Err}
use Rattle.std.specs.Prelude.{◌||◌, ◌==◌}
use Rattle.httparse.specs.Spans.{span_bytes}
use Rattle.aq_http.specs.Head.{Whole, has_transfer_encoding, is_last, verb_of}
use Rattle.aq_http.proofs.Encodings.{known_close, known_encoded}
use Rattle.aq_http.proofs.Reading.{coded_is_refused, headers_at, length_found}
use Rattle.aq_http.proofs.head.whole_head.Goals as goal

pub returns-then-is_encoded-clause-value : goal.returns-then-is_encoded-clause-value
returns-then-is_encoded-clause-value c =
    let headers = headers_at c.args.window.now c.args.headers.now c.args.spans in
    let coded : has_transfer_encoding headers ≡ true =
    sym (known_encoded c.from_spans-known.result headers c.from_spans-known.ensures) ∙ sym c.is_encoded.ensures ∙ c.if-is_encoded.true in
    coded_is_refused c.args.spans.len (span_bytes c.args.window.now c.args.spans.method)
    (span_bytes c.args.window.now c.args.spans.path) c.args.spans.version headers coded

pub returns-in-Ok-clause-value : goal.returns-in-Ok-clause-value
returns-in-Ok-clause-value c =
    let headers = headers_at c.args.window.now c.args.headers.now c.args.spans in
    let verb : c.of-verb.result ≡ verb_of (span_bytes c.args.window.now c.args.spans.method) = c.of-verb.ensures ∙ ap verb_of c.of.ensures in
    let close : c.is_last.result ≡ is_last c.args.spans.version headers =
    c.is_last.ensures ∙ ap (λ t. (c.args.spans.version == 0) || t) (known_close c.from_spans-known.result headers c.from_spans-known.ensures) in
    (λ i. Whole (record {
      head_bytes = c.args.spans.len;
      body_bytes = c.in-Ok.body;
      verb = verb i;
      target = span_bytes c.args.window.now c.args.spans.path;
      close = close i;
    })) ∙ length_found c.args.window.now _ c.args.headers.now c.args.spans _ _ _ _ (Ok c.in-Ok.body)
    c.from_spans-known.ensures c.is_encoded.ensures c.if-is_encoded.false c.of-verb.ensures c.of.ensures c.body_or_refusal.ensures.value c.in-Ok.is

pub returns-in-Err-clause-value : goal.returns-in-Err-clause-value
returns-in-Err-clause-value c =
    length_found c.args.window.now _ c.args.headers.now c.args.spans _ _ _ _ (Err c.in-Err.status)
    c.from_spans-known.ensures c.is_encoded.ensures c.if-is_encoded.false c.of-verb.ensures c.of.ensures c.body_or_refusal.ensures.value c.in-Err.is
