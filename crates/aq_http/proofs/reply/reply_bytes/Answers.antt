use Rattle.std.proofs.Common.{◌≡◌, ◌∙◌, ◌++◌, ap, codes, length, subst}
use Rattle.std.specs.Result.{OkIff}
use Rattle.http.specs.StatusCode.{IsStatusCode}
use Rattle.aq_http.specs.Reply.{Reply, close_line}
use Rattle.aq_http.proofs.Replies.{formatted, reply_is, start_text, written}
use Rattle.aq_http.proofs.reply.reply_bytes.Goals as goal

pub returns : goal.returns
returns c =
    let reply : Reply = record {
      status = c.args.status;
      media = c.args.media;
      allow = c.args.allow.now;
      close = c.args.close;
      body = c.args.body.now;
    } in
    let code : c.unwrap-code.result ≡ c.args.status =
    (subst (λ r. OkIff r (IsStatusCode c.args.status) c.args.status) c.unwrap-code.ensures c.from_u16.ensures).1 in
    let start : c.into_bytes-out.result.items ≡ start_text c.args.status c.args.media (length c.args.body.now) =
    ap (λ v. v.items) c.into_bytes-out.ensures.value
    ∙ c.in_ok-write.ensures.bytes
    ∙ ap (λ t. t ++ written c.unwrap-code.result c.name-media.result.now c.guard_lines-guards.result.now (length c.args.body.now)) c.in_ok-start.ensures.bytes
    ∙ formatted c.args.status c.args.media c.unwrap-code.result c.name-media.result.now c.guard_lines-guards.result.now (length c.args.body.now) code c.name-media.ensures c.guard_lines-guards.ensures in
    let allowed = c.in_ok-write_allow.ensures in
    let closed = c.in_ok-write_close.ensures ∙ ap (λ t. t ++ close_line c.args.close) allowed in
    let ended = c.in_ok-extend_from_slice.ensures.items ∙ ap (λ t. t ++ codes "\r\n") closed in
    c.in_ok-extend_from_slice-2.ensures.items
    ∙ ap (λ t. t ++ c.args.body.now) ended
    ∙ reply_is c.into_bytes-out.result.items reply start
